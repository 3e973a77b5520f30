use Rattle.sdd_links.proofs.All.{Attempt, Option, ap, get, pair_cmp, subst, sym, take, ℕ, ◌+◌, ◌∙◌}
use Rattle.sdd_links.proofs.Reading.{Found, found_no_start, found_again_at, found_first_at}
use Rattle.sdd_links.proofs.attempts.starts.Goals.{in-Some+then-not-contains_key+in_ok-insert, in-Some+else-not-contains_key, in_default}
use Rattle.sdd_links.proofs.attempts.starts.Goals as goal

pub loop-place-preserved : goal.loop-place-preserved
loop-place-preserved c =
    let h = c.args.history.now in
    let i = c.loop-place.place in
    let e = c.index-history-place.result in
    let within = c.loop-place-test.true in
    let there = c.index-history-place.is in
    let old : ℕ → ℕ → Option Attempt = λ n k. get pair_cmp c.loop-place.made (n, k) in
    let kept = c.loop-place.invariant in
    elim c.match-attempt_of.branch [
      | in-Some+then-not-contains_key+in_ok-insert w ↦
          let is = sym (c.attempt_of.ensures) ∙ w.in-Some.is in
          let txn = ap (λ (a : Attempt). a.txn) w.attempt.view_is in
          let number = ap (λ (a : Attempt). a.number) w.attempt.view_is in
          let absent = sym (w.contains_key.ensures) ∙ w.if-not-contains_key.true in
          let new : ℕ → ℕ → Option Attempt = λ n k. get pair_cmp w.insert.new.self (n, k) in
          let updates = w.in_ok-insert.ensures.updates.0 in
          let now = found_first_at h i e old new _ _ _ within there is txn number absent (λ n k. updates (n, k)) kept in
          subst (λ m. Found (λ n k. get pair_cmp m (n, k)) (take (i + 1) h)) (sym w.made-is) now
      | in-Some+else-not-contains_key w ↦
          let is = sym (c.attempt_of.ensures) ∙ w.in-Some.is in
          let txn = ap (λ (a : Attempt). a.txn) w.attempt.view_is in
          let number = ap (λ (a : Attempt). a.number) w.attempt.view_is in
          let has = sym (w.contains_key.ensures) ∙ w.if-not-contains_key.false in
          let now = found_again_at h i e old _ _ _ within there is txn number has kept in
          subst (λ m. Found (λ n k. get pair_cmp m (n, k)) (take (i + 1) h)) (sym w.made-is) now
      | in_default w ↦
          let none = sym (c.attempt_of.ensures) ∙ w.in_default.is in
          let now = found_no_start h i e old within there none kept in
          subst (λ m. Found (λ n k. get pair_cmp m (n, k)) (take (i + 1) h)) (sym w.made-is) now
    ]
