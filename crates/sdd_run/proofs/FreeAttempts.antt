-- An attempt of a free class neither waits nor is rejected.
use Rattle.sdd_run.proofs.All.{Act, Attempt, ClassNo, Cond, D, DmNo, Does, Eras, Input, IsAttempt, IsDataIn, IsFreeClass, IsPermitted, IsRecordAt, IsRejectOf, IsUndisturbed, IsWaitOf, KeepsStarts, List, Log, Msg, Read, Rec, Records, Reject, Setting, Site, Some, Ts, TxnNo, Use, Wait, allowed_act, ap, class_no, data_in, dm_no, head, history, local_of, never_rejected, never_waits, one_class, pipe_at, read_of_some, refl, rejected, setting_of, subst, sym, time_at, txn_no, wait_due, ℕ, ◌++◌, ◌∙◌, ◌∷◌, ◌≡◌}
use Rattle.sdd_progress.specs.obligations.All.{Entry}
use Rattle.sdd_progress.specs.obligations.site_module.SiteLog as site

wait_names : (c k : ℕ) (n m : TxnNo) (i j : ℕ) (d e : DmNo) (qs rs : List Cond) (s t : List (Site × Msg))
    → Records c (Wait n i d qs) s ≡ Records k (Wait m j e rs) t → (n ≡ m) × (i ≡ j)
wait_names c k n m i j d e qs rs s t h = let p : n ≡ m = cc in let q : i ≡ j = cc in (p, q)

module _ (g : Input) (log : Log) (eras : Eras) (h : IsPermitted g log) (starting : KeepsStarts g.catalogue eras g.txns (history log))
    (a : Attempt) (started : IsAttempt (history log) a) (free : IsFreeClass g a.class) where
  -- the pipe at whose head the READ of the attempt stands is that of its class
  of_its_class : (later before : Log) (e : Entry) (c d : ℕ) (ts : Ts) (of : ClassNo) (ds : List Cond) (us : List Use)
      → IsPermitted g before → log ≡ later ++ e ∷ before → head (pipe_at g c (dm_no d) before) ≡ Some (Read ts of (txn_no a.txn) a.number ds us) → a.class ≡ c
  of_its_class later before e c d ts of ds us now is top =
      let r = read_of_some g log later before e c a.txn a.number d ts of ds us now is top in
      sym (one_class g.catalogue eras g.txns (history log) starting r.attempt a r.started started r.txn_is) ∙ r.class_is

  no_wait : (d k : ℕ) (conds : List Cond) → IsRecordAt (history log) k (Wait (txn_no a.txn) a.number (dm_no d) conds) → ⊥
  no_wait d k conds s =
      let rec : Rec = Wait (txn_no a.txn) a.number (dm_no d) conds in
      let x : IsDataIn g log k rec (dm_no d) = data_in g log k rec (dm_no d) h refl refl (λ e p. sym p) s in
      let act : Act = Records x.class rec x.sends in
      let entry : Entry = Does (D (dm_no d)) act in
      let ds : Setting = setting_of g (D (dm_no d)) in
      let l : site.Log = local_of g (D (dm_no d)) x.before in
      let w : IsWaitOf ds l x.class act = wait_due ds l x.class rec x.sends (allowed_act g x.before entry x.permitted.0) refl in
      let same = wait_names x.class x.class (txn_no a.txn) w.txn a.number w.attempt (dm_no d) _ conds _ x.sends _ w.act_is in
      let top : head (pipe_at g x.class (dm_no d) x.before) ≡ Some (Read w.ts w.of (txn_no a.txn) a.number w.conds w.uses) =
      w.head_is ∙ ap (λ y. Some (Read w.ts w.of y w.attempt w.conds w.uses)) (sym same.0)
      ∙ ap (λ y. Some (Read w.ts w.of (txn_no a.txn) y w.conds w.uses)) (sym same.1) in
      let class = of_its_class x.later x.before entry x.class d w.ts w.of w.conds w.uses x.permitted.1 x.is top in
      never_waits g x.before x.class (dm_no d) rec x.sends (subst (IsFreeClass g) class free) x.permitted refl

  no_reject : (d k class write : ℕ) → IsRecordAt (history log) k (Reject (txn_no a.txn) a.number (dm_no d) (class_no class) (time_at write)) → ⊥
  no_reject d k by write s =
      let rec : Rec = Reject (txn_no a.txn) a.number (dm_no d) (class_no by) (time_at write) in
      let x : IsDataIn g log k rec (dm_no d) = data_in g log k rec (dm_no d) h refl refl (λ e p. sym p) s in
      let entry : Entry = Does (D (dm_no d)) (Records x.class rec x.sends) in
      let r : IsRejectOf g x.before (dm_no d) x.class (txn_no a.txn) a.number (class_no by) (time_at write) =
      rejected g x.before (dm_no d) x.class (txn_no a.txn) a.number (dm_no d) (class_no by) (time_at write) x.sends x.permitted in
      never_rejected g x.before x.class (dm_no d) (txn_no a.txn) a.number (dm_no d) (class_no by) (time_at write) x.sends
      (subst (IsFreeClass g) (of_its_class x.later x.before entry x.class d r.ts r.of r.conds r.uses x.permitted.1 x.is r.head_is) free) x.permitted

  pub undisturbed : IsUndisturbed (history log) a
  undisturbed = record { no_wait = λ d k conds. no_wait d k conds; no_reject = λ d k by write. no_reject d k by write }
