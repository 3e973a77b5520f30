-- An attempt that had a Wait at a module has no Reject there.
use Rattle.sdd_progress.proofs.AllWaits.{Act, Answer, ClassNo, Cond, D, Did, DmNo, Does, Input, IsPermitted, IsReadStep, IsRejectOf, IsWaitOf, List, Log, May, Msg, Pipe, Read, Records, Rejected, Setting, Site, Some, Ts, TxnNo, Use, View, Wait, allowed_act, answered_once, ap, append_assoc, d_step, head, home, inl, inr, not_both, not_own, number_of, own_act, permitted_before, pipe, refl, same_number, setting_of, subst, sym, true, txn_no, view_of, waits, ℕ, ◌++◌, ◌∙◌, ◌∷◌, ◌≡◌, ◌≤◌}
use Rattle.sdd_progress.proofs.Answered.{waits_or_answered}
use Rattle.sdd_progress.proofs.AtModule.{at_module}
use Rattle.sdd_progress.proofs.Rejected.{IsProcessing, processing_of, rejected}
use Rattle.sdd_progress.proofs.Waited.{wait_due}
use Rattle.sdd_obligations.specs.site_module.SiteLog as site

-- the READ that an Answer answers

pub record IsReadAt (l : site.Log) (c : ℕ) (txn : TxnNo) (attempt : ℕ) : Type 0 where
  pub ts : Ts
  pub of : ClassNo
  pub conds : List Cond
  pub uses : List Use
  pub head_is : head (pipe c l) ≡ Some (Read ts of txn attempt conds uses)

answered_read : (v : View) (l : site.Log) (c : ℕ) (m : Msg) (txn : TxnNo) (attempt : ℕ) (dm : DmNo) → head (pipe c l) ≡ Some m
    → May v c (waits c l) m (Answer txn attempt dm) → IsReadAt l c txn attempt
answered_read v l c (Read ts of n a conds uses) txn attempt dm h m = record {
  ts = ts;
  of = of;
  conds = conds;
  uses = uses;
  head_is = h ∙ ap (λ k. Some (Read ts of (txn_no k) a conds uses)) (sym m.0) ∙ ap (λ k. Some (Read ts of txn k conds uses)) (sym m.1);
}
answered_read v l c _ txn attempt dm h m = absurd m

read_answered : (s : Setting) (l : site.Log) (c : ℕ) (txn : TxnNo) (attempt : ℕ) (dm : DmNo) (sends : List (Site × Msg))
    → IsReadStep s l (Records c (Answer txn attempt dm) sends) → IsReadAt l c txn attempt
read_answered s l c txn attempt dm sends i =
    let p : IsProcessing s l c (Answer txn attempt dm) = processing_of s l c (Answer txn attempt dm) sends refl i in
    answered_read (view_of s l) l c p.msg txn attempt dm p.head_is p.may

-- a Wait leaves its READ at the head, and that waits
after_wait : (c : ℕ) (txn : TxnNo) (attempt : ℕ) (dm : DmNo) (conds : List Cond) (sends : List (Site × Msg)) (l k : site.Log) (m : Msg)
    → k ≡ Did (Records c (Wait txn attempt dm conds) sends) ∷ l → head (pipe c l) ≡ Some m → (waits c k ≡ true) × (head (pipe c k) ≡ Some m)
after_wait c txn attempt dm conds sends l k m e h =
    let waits_then : waits c (Did (Records c (Wait txn attempt dm conds) sends) ∷ l) ≡ true = rw (same_number c) refl in
    let head_then : head (pipe c (Did (Records c (Wait txn attempt dm conds) sends) ∷ l)) ≡ Some m = ap (λ (p : Pipe). head p)
    (not_own c c (Wait txn attempt dm conds) sends l (inr refl)).pipe_same ∙ h in
    (subst (λ x. waits c x ≡ true) (sym e) waits_then, subst (λ x. head (pipe c x) ≡ Some m) (sym e) head_then)

txn_waited : Act → TxnNo → TxnNo
txn_waited (Records k (Wait txn attempt dm conds) sends) other = txn
txn_waited _ other = other

attempt_waited : Act → ℕ
attempt_waited (Records k (Wait txn attempt dm conds) sends) = attempt
attempt_waited _ = 0

pub never_both : (g : Input) (d : DmNo) (c : ℕ) (later before : Log) (txn other : TxnNo) (attempt another : ℕ)
    (dm dm2 : DmNo) (conds : List Cond) (by : ClassNo) (write : Ts) (sends more : List (Site × Msg))
    → IsPermitted g (Does (D d) (Records c (Rejected other another dm2 by write) more) ∷ (later ++ Does (D d) (Records c (Wait txn attempt dm conds) sends) ∷ before))
    → number_of (home g.catalogue c) ≤ 63 → txn.0 ≡ other.0 → attempt ≡ another → ⊥
unfolding txn_waited attempt_waited
never_both g d c later before txn other attempt another dm dm2 conds by write sends more h small same again =
    let s : Setting = setting_of g (D d) in
    let act : Act = Records c (Wait txn attempt dm conds) sends in
    let log : Log = Does (D d) act ∷ before in
    let l : site.Log = at_module g d before in
    let hw : IsPermitted g log = permitted_before g later log h.1 in
    let x : IsWaitOf s l c act = wait_due s l c (Wait txn attempt dm conds) sends (allowed_act g before (Does (D d) act) hw.0) refl in
    let w = after_wait c txn attempt dm conds sends l (at_module g d log) (Read x.ts x.of x.txn x.attempt x.conds x.uses)
    (own_act g (D d) act before) x.head_is in
    let r : IsRejectOf g (later ++ log) d c other another by write = rejected g (later ++ log) d c other another dm2 by write more h in
    let txn_is : txn ≡ x.txn = ap (λ a. txn_waited a txn) x.act_is in
    let attempt_is : attempt ≡ x.attempt = ap attempt_waited x.act_is in
    elim (waits_or_answered g d c later log x.ts x.of x.txn x.attempt x.conds x.uses h.1 w) [
      | inl y ↦ not_both (waits c (at_module g d (later ++ log))) y.0 r.waits_not
      | inr y ↦ (let ans : Act = Records c (Answer x.txn x.attempt y.dm) y.sends in
          let part : Log = y.before ++ log in
          let whole : later ++ log ≡ y.later ++ Does (D d) ans ∷ part = ap (λ k. k ++ log) y.is ∙ append_assoc y.later (Does (D d) ans ∷ y.before) log in
          let ha : IsPermitted g (y.later ++ Does (D d) ans ∷ part) = subst (IsPermitted g) whole h.1 in
          let hb : IsPermitted g (Does (D d) ans ∷ part) = permitted_before g y.later (Does (D d) ans ∷ part) ha in
          let q : IsReadAt (at_module g d part) c x.txn x.attempt = read_answered s (at_module g d part) c x.txn x.attempt y.dm y.sends
          (d_step s (at_module g d part) ans (allowed_act g part (Does (D d) ans) hb.0)) in
          let last : head (pipe c (at_module g d (y.later ++ Does (D d) ans ∷ part))) ≡ Some (Read r.ts r.of other another r.conds r.uses) = subst
          (λ k. head (pipe c (at_module g d k)) ≡ Some (Read r.ts r.of other another r.conds r.uses)) whole r.head_is in
          answered_once g c d y.later part y.dm y.sends q.ts r.ts q.of r.of x.txn other x.attempt another q.conds r.conds q.uses r.uses ha small q.head_is last
          (ap (λ (k : TxnNo). k.0) (sym txn_is) ∙ same) (sym attempt_is ∙ again))
    ]
