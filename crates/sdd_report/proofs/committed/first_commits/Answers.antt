use Rattle.std.proofs.lemmas.Grind.{common_steps}
use Rattle.sdd_report.proofs.All.{Option, ReportedCommit, ap, arith, get, nat_cmp, subst, sym, take, ℕ, ◌+◌, ◌∙◌}
use Rattle.sdd_report.proofs.Commits.{Found, no_commit, further_commit, first_commit}
use Rattle.sdd_report.proofs.committed.first_commits.Goals.{in-Some+then-not-contains_key+in_ok-insert, in-Some+else-not-contains_key, in_default}
use Rattle.sdd_report.proofs.committed.first_commits.Goals as goal

pub history-preserved : goal.history-preserved
history-preserved c =
    let h = c.args.history.now in
    let i = c.history.one-index in
    let e = c.one-item.result in
    let within = c.history-test.true in
    let there = c.one-item.is in
    let old : ℕ → Option ReportedCommit = λ n. get nat_cmp c.history.made n in
    let kept = c.history.invariant in
    elim c.match-reported_in.branch [
      | in-Some+then-not-contains_key+in_ok-insert w ↦
          let is = sym (c.reported_in.ensures) ∙ w.in-Some.is in
          let txn = ap (λ (t : ReportedCommit). t.txn) w.reported.view_is in
          let absent = sym (w.contains_key.ensures) ∙ w.if-not-contains_key.true in
          let new : ℕ → Option ReportedCommit = λ n. get nat_cmp w.insert.new.self n in
          let updates = w.in_ok-insert.ensures.updates.0 in
          let now = first_commit h i e old new _ _ within there is txn absent updates kept in
          subst (λ m. Found (λ n. get nat_cmp m n) (take (i + 1) h)) (sym w.made-is) now
      | in-Some+else-not-contains_key w ↦
          let is = sym (c.reported_in.ensures) ∙ w.in-Some.is in
          let txn = ap (λ (t : ReportedCommit). t.txn) w.reported.view_is in
          let has = sym (w.contains_key.ensures) ∙ w.if-not-contains_key.false in
          let now = further_commit h i e old _ _ within there is txn has kept in
          subst (λ m. Found (λ n. get nat_cmp m n) (take (i + 1) h)) (sym w.made-is) now
      | in_default w ↦
          let none = sym (c.reported_in.ensures) ∙ w.in_default.is in
          let now = no_commit h i e old within there none kept in
          subst (λ m. Found (λ n. get nat_cmp m n) (take (i + 1) h)) (sym w.made-is) now
    ]

pub returns : goal.returns
returns c = grind (arith, common_steps)
