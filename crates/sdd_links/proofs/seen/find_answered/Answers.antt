use Rattle.sdd_links.proofs.All.{Answered, Option, get, subst, sym, take, triple_cmp, ℕ, ◌+◌, ◌∙◌}
use Rattle.sdd_links.proofs.Marking.{no_answer, answered_last}
use Rattle.sdd_links.proofs.seen.find_answered.Goals.{in-Some+in_ok-insert, in_default}
use Rattle.sdd_links.proofs.seen.find_answered.Goals as goal

pub loop-place-preserved : goal.loop-place-preserved
loop-place-preserved c =
    let h = c.args.history.now in
    let i = c.loop-place.place in
    let e = c.index-history-place.result in
    let within = c.loop-place-test.true in
    let there = c.index-history-place.is in
    let old : ℕ → ℕ → ℕ → Option ℕ = λ n k d. get triple_cmp c.loop-place.made (n, k, d) in
    let kept = c.loop-place.invariant in
    elim c.match-answer_key.branch [
      | in-Some+in_ok-insert w ↦
          let new : ℕ → ℕ → ℕ → Option ℕ = λ n k d. get triple_cmp w.insert.new.self (n, k, d) in
          let now = answered_last h i e within there old new _ (sym (c.answer_key.ensures) ∙ w.in-Some.is) (w.in_ok-insert.ensures.updates.0) kept in
          subst (λ m. Answered (λ n k d. get triple_cmp m (n, k, d)) (take (i + 1) h)) (sym w.made-is) now
      | in_default w ↦
          let now = no_answer h i e within there old (sym (c.answer_key.ensures) ∙ w.in_default.is) kept in
          subst (λ m. Answered (λ n k d. get triple_cmp m (n, k, d)) (take (i + 1) h)) (sym w.made-is) now
    ]
