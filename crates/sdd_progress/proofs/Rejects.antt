-- Each Reject of a permitted log is by a write of another transaction.
use Rattle.sdd_progress.proofs.All.{Act, AppliedBefore, AreErasOf, ClassNo, Committed, Cond, D, Does, Entry, Eras, Input, IsAttempt, IsCommitted, IsConditionOf, IsDataIn, IsPermitted, IsSoundCatalogue, KeepsRejects, KeepsStarts, Log, Rec, Records, Reject as Rejected, Setting, Some, [], allowed_act, ap, append_assoc, applied_before, arith, catalogue_at, class_no, commit_act, commit_of_log, d_step, data_in, dm_no, event_at, first_of_filter, further_back, history, home, keeps_starts, length, local_of, read_condition, read_of_some, refl, rejecting, setting_of, slice_get, spoils, spoilt_by, subst, sym, time_at, touched_one, txn_no, view_of, ℕ, ◌++◌, ◌∙◌, ◌∷◌, ◌≡◌, ◌≢◌}
use Rattle.sdd_progress.proofs.OtherClass.{other_class}
use Rattle.sdd_progress.proofs.Writers.{one_class}
use Rattle.sdd_obligations.specs.links.Attempts.{Attempt}
use Rattle.sdd_obligations.specs.site_module.SiteLog as site

-- the writer has another class than the attempt, so it is another transaction
other_txn : (g : Input) (log : Log) (eras : Eras) (a : Attempt) (d : ℕ) (c : Cond) (w : Committed) → KeepsStarts g.catalogue eras g.txns (history log)
    → IsAttempt (history log) a → IsConditionOf g.catalogue eras (history log) a d c → IsCommitted (history log) w
    → w.start.class ≡ c.class.0 → w.start.txn ≢ a.txn
other_txn g log eras a d c w starting s condition is class same =
    other_class (catalogue_at g.catalogue eras (event_at (history log) a.place)) g.catalogue condition.table a d c condition.table_is condition.there
    (sym class ∙ one_class g.catalogue eras g.txns (history log) starting w.start a is.started s same)

pub keeps_rejects : (g : Input) (log : Log) (eras : Eras) → IsSoundCatalogue g.catalogue → IsPermitted g log → AreErasOf g log eras
    → KeepsRejects g.catalogue eras (history log)
keeps_rejects g log eras sound h are n number d class write k s =
    let rec : Rec = Rejected (txn_no n) number (dm_no d) (class_no class) (time_at write) in
    let x : IsDataIn g log k rec (dm_no d) = data_in g log k rec (dm_no d) h refl refl (λ e p. sym p) s in
    let act : Act = Records x.class rec x.sends in
    let entry : Entry = Does (D (dm_no d)) act in
    let ds : Setting = setting_of g (D (dm_no d)) in
    let l : site.Log = local_of g (D (dm_no d)) x.before in
    let rj = rejecting ds l x.class (txn_no n) number (dm_no d) (class_no class) (time_at write) x.sends
    (d_step ds l act (allowed_act g x.before entry x.permitted.0)) in
    let r = read_of_some g log x.later x.before entry x.class n number d rj.ts rj.class rj.conds rj.uses x.permitted.1 x.is rj.head_is in
    let first = first_of_filter (spoils (view_of ds l)) rj.conds rj.cond_by rj.spoiler_is in
    let z = spoilt_by g x.before (dm_no d) rj.cond_by x.permitted.1 first.2 in
    let j : ℕ = rj.cond_by.class.0 in
    let v = further_back log x.later x.before entry (Does (home g.catalogue j) (commit_act g.catalogue z.bases j z.running)) z.later z.before x.is z.is in
    let c = commit_of_log g log v.0 z.before j z.bases z.running sound h v.1 z.active_is in
    let front : Log = x.later ++ entry ∷ [] in
    let is : log ≡ front ++ x.before = x.is ∙ sym (append_assoc x.later (entry ∷ []) x.before) in
    let applied = applied_before g log front x.before (dm_no d) j z.running is h z.applied in
    let at : length (history x.before) ≡ k = x.place_is in
    let same_class : class ≡ j = ap (λ (y : ClassNo). y.0) rj.by_is in
    let same_write : write ≡ z.running.ts = rj.write_is ∙ sym z.ts_is in
    let condition = read_condition g log eras r.attempt d x.later x.before entry are x.is r.read first.0
    rj.cond_by (subst (λ y. slice_get y first.0 ≡ Some rj.cond_by) (sym r.same_conds) first.1) in
    let starts = r.read.start_before in
    let at_least = z.at_least in
    let late = rj.write_is in
    record {
      attempt = r.attempt;
      started = r.started;
      txn_is = r.txn_is;
      number_is = r.number_is;
      before = omega arith;
      cond = rj.cond_by;
      condition = condition;
      class_is = sym same_class;
      late = omega arith;
      writer = c.committed;
      committed = c.is_committed;
      other = λ e. other_txn g log eras r.attempt d rj.cond_by c.committed
          (keeps_starts g log eras sound h are) r.started condition c.is_committed c.class_is (e ∙ sym r.txn_is);
      writer_class = c.class_is ∙ sym same_class;
      writer_time = c.ts_is ∙ sym same_write;
      changes = touched_one g c.committed _ rj.cond_by.frags d c.changes_are z.touching;
      applied = subst (λ m. AppliedBefore (history log) c.committed.start.txn d m) at
          (subst (λ m. AppliedBefore (history log) m d (length (history x.before))) (sym c.txn_is) applied);
    }
