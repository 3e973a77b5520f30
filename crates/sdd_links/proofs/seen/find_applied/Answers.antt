use Rattle.sdd_links.proofs.All.{Applied, Option, get, pair_cmp, subst, sym, take, ℕ, ◌+◌, ◌∙◌}
use Rattle.sdd_links.proofs.Marking.{no_apply, applied_again, applied_first}
use Rattle.sdd_links.proofs.seen.find_applied.Goals.{in-Some+then-not-contains_key+in_ok-insert, in-Some+else-not-contains_key, in_default}
use Rattle.sdd_links.proofs.seen.find_applied.Goals as goal

pub loop-place-preserved : goal.loop-place-preserved
loop-place-preserved c =
    let h = c.args.history.now in
    let i = c.loop-place.place in
    let e = c.index-history-place.result in
    let within = c.loop-place-test.true in
    let there = c.index-history-place.is in
    let old : ℕ → ℕ → Option ℕ = λ n d. get pair_cmp c.loop-place.made (n, d) in
    let kept = c.loop-place.invariant in
    elim c.match-apply_key.branch [
      | in-Some+then-not-contains_key+in_ok-insert w ↦
          let new : ℕ → ℕ → Option ℕ = λ n d. get pair_cmp w.insert.new.self (n, d) in
          let absent = sym (w.contains_key.ensures) ∙ w.if-not-contains_key.true in
          let now = applied_first h i e within there old new _ (sym (c.apply_key.ensures) ∙ w.in-Some.is) absent (w.in_ok-insert.ensures.updates.0) kept in
          subst (λ m. Applied (λ n d. get pair_cmp m (n, d)) (take (i + 1) h)) (sym w.made-is) now
      | in-Some+else-not-contains_key w ↦
          let has = sym (w.contains_key.ensures) ∙ w.if-not-contains_key.false in
          let now = applied_again h i e within there old _ (sym (c.apply_key.ensures) ∙ w.in-Some.is) has kept in
          subst (λ m. Applied (λ n d. get pair_cmp m (n, d)) (take (i + 1) h)) (sym w.made-is) now
      | in_default w ↦
          let now = no_apply h i e within there old (sym (c.apply_key.ensures) ∙ w.in_default.is) kept in
          subst (λ m. Applied (λ n d. get pair_cmp m (n, d)) (take (i + 1) h)) (sym w.made-is) now
    ]
