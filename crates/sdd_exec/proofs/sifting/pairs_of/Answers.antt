use Rattle.std.proofs.lemmas.Grind.{common_steps}
use Rattle.sdd_exec.proofs.All.{List, Row, ap, arith, pair_of, pairs_of, slice_index_or as get_or, subst, sym, take, ℕ, ◌+◌, ◌∙◌, ◌≡◌}
use Rattle.sdd_exec.proofs.Steps.{filter_map_more, filter_map_same}
use Rattle.sdd_exec.proofs.sifting.pairs_of.Goals.{in-Some+in_ok-push, in_default}
use Rattle.sdd_exec.proofs.sifting.pairs_of.Goals as goal

pub loop-choice-preserved : goal.loop-choice-preserved
loop-choice-preserved c =
    let f = pair_of c.args.parts.now c.args.ties.now c.args.part in
    let xs = c.args.choices.now in
    let i = c.loop-choice.choice-index in
    let x = c.choice-item.result in
    let is : c.in_ok-pair.field-0 ≡ f x = rw c.as_slice.ensures at c.in_ok-pair.ensures in
    let at_item : f (get_or xs i x) ≡ c.in_ok-pair.field-0 = ap f (sym c.choice-item.is) ∙ sym is in
    let Now : List (Row × ℕ) → Type 0 = λ l. l ≡ pairs_of c.args.parts.now c.args.ties.now c.args.part (take (i + 1) xs) in
    elim c.match-branch-2.branch [
      | in-Some+in_ok-push w ↦
          subst (λ m. Now m.items) (sym w.pairs-is)
          (rw (w.in_ok-push.ensures.items, c.loop-choice.invariant) (sym (filter_map_more f xs i x _ c.loop-choice-test.true (at_item ∙ w.in-Some.is))))
      | in_default w ↦
          subst (λ m. Now m.items) (sym w.pairs-is)
          (c.loop-choice.invariant ∙ sym (filter_map_same f xs i x c.loop-choice-test.true (at_item ∙ w.in_default.is)))
    ]

pub returns : goal.returns
returns c = grind (arith, common_steps)
