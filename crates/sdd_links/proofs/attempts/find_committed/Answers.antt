use Rattle.std.proofs.Common.{arith}
use Rattle.std.proofs.lemmas.Grind.{common_steps}
use Rattle.sdd_links.proofs.All.{Committed, List, attempts, committed_of, filter_map, placed, subst, sym, take, ◌+◌, ◌∙◌, ◌≡◌}
use Rattle.sdd_links.proofs.Reading.{one_made, none_made}
use Rattle.sdd_links.proofs.attempts.find_committed.Goals.{in-Some+in_ok-push, in_default}
use Rattle.sdd_links.proofs.attempts.find_committed.Goals as goal

pub loop-place-preserved : goal.loop-place-preserved
loop-place-preserved c =
    let h = c.args.history.now in
    let i = c.loop-place.place in
    let e = c.index-history-place.result in
    let within = c.loop-place-test.true in
    let there = c.index-history-place.is in
    let all = attempts h in
    let is = c.committed_of.ensures all (c.in_ok-starts.ensures) in
    let old = c.loop-place.made.items in
    let Now : List Committed → Type 0 = λ l. l ≡ filter_map (committed_of all) (placed 0 (take (i + 1) h)) in
    elim c.match-committed_of.branch [
      | in-Some+in_ok-push w ↦
          subst (λ m. Now m.items) (sym w.made-is)
          (one_made (committed_of all) h i e _ old w.push.new.self.items within there (sym is ∙ w.in-Some.is) c.loop-place.invariant (w.in_ok-push.ensures.items))
      | in_default w ↦
          subst (λ m. Now m.items) (sym w.made-is)
          (none_made (committed_of all) h i e old within there (sym is ∙ w.in_default.is) c.loop-place.invariant)
    ]

pub returns : goal.returns
returns c = grind (arith, common_steps)
