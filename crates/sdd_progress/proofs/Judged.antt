-- A READ whose conditions are met, that doesn't wait and isn't spoilt, is answered before the event is over, or rejected
-- after an Apply that spoils it.
use Rattle.std.proofs.Common.{arith}
use Rattle.sdd_progress.proofs.AllWaits.{Act, Answer, Bool, ClassNo, Cond, D, Did, DmNo, Does, Entry, Input, IsAnsweredIn, IsClassHere, IsDue, IsLawful, IsPermitted, IsReadStep, IsRejectedAfter, IsRejectedIn, IsWaitOf, List, Log, May, Msg, None, Pipe, Read, Rec, Records, Rejected, Setting, Site, Some, Ts, TxnNo, Use, View, [], and_left, and_right, ap, by_record, cond, d_step, false, filter, head, head_of, home_of, inl, inr, is_met, is_processing, is_wait, lacking, list_all, not, not_own, passing, pipe, read_step_way, refl, same_or_not, setting_of, site_due, slice_get, spoiler, spoils, subst, suc, sym, true, txn_no, view_of, waits, zero, ℕ, ◌++◌, ◌∙◌, ◌∷◌, ◌≡◌, ◌≤◌, ◌⊎◌}
use Rattle.sdd_progress.proofs.Answered.{Answers, all_met_later, answered_now, answered_on, no_ready_head}
use Rattle.sdd_progress.proofs.AtModule.{IsEntryAt, acting, aside, at_module, entry_at, handed_head, handing, waits_other}
use Rattle.sdd_progress.proofs.ClassSites.{HasSmallHomes}
use Rattle.sdd_progress.proofs.NothingDue.{none_at_data}
use Rattle.sdd_progress.proofs.Rejected.{processing_of, spoiler_there}
use Rattle.sdd_progress.proofs.Spoilt.{spoilt_in}
use Rattle.sdd_progress.proofs.StuckHeads.{head_stuck}
use Rattle.sdd_progress.proofs.Waited.{wait_due}
use Rattle.sdd_obligations.specs.site_module.SiteLog as site

abbrev HeadIs : site.Log → ℕ → Msg → Type 0
HeadIs l c m = (waits c l ≡ false) × (head (pipe c l) ≡ Some m)

-- where all are met none lacks
none_lacks : (p : Cond → Bool) (ds : List Cond) → list_all p ds ≡ true → filter (λ d. not (p d)) ds ≡ []
none_lacks p [] e = refl
none_lacks p (d ∷ ds) e =
    ap (λ b. cond (not b) (d ∷ filter (λ x. not (p x)) ds) (filter (λ x. not (p x)) ds)) (and_left _ _ e) ∙ none_lacks p ds (and_right _ _ e)

none_is_some : {A : Type 0} (x : Cond) (xs : List Cond) → [] ≡ x ∷ xs → A
none_is_some x xs e = cc

-- so no Wait is due
no_wait : {A : Type 0} (s : Setting) (l : site.Log) (c k : ℕ) (ts : Ts) (of : ClassNo) (txn : TxnNo) (attempt : ℕ)
    (conds : List Cond) (uses : List Use) (r : Rec) (sends : List (Site × Msg))
    → k ≡ c → head (pipe c l) ≡ Some (Read ts of txn attempt conds uses)
    → list_all (is_met (view_of s l)) conds ≡ true → IsDue (home_of s) (view_of s l) (Records k r sends) → is_wait r ≡ true → A
no_wait s l c k ts of txn attempt conds uses r sends e h met due w =
    let x : IsWaitOf s l c (Records k r sends) = subst (λ z. IsWaitOf s l z (Records k r sends)) e (wait_due s l k r sends due w) in
    let ds : x.conds ≡ conds = cc (sym x.head_is ∙ h) in
    none_is_some x.first x.more (sym (ap (lacking (view_of s l)) ds ∙ none_lacks (is_met (view_of s l)) conds met) ∙ x.lacks)

-- what processes it

abbrev pub Rejects : View → ℕ → TxnNo → ℕ → List Cond → Act → Type 0
Rejects v c txn attempt conds act =
    (dm : DmNo) × (by : ClassNo) × (write : Ts) × (sends : List (Site × Msg)) × (q : Cond) × (act ≡ Records c (Rejected txn attempt dm by write) sends)
    × (spoiler v conds ≡ Some q) × (by ≡ q.class)

judged_by : (v : View) (c : ℕ) (w : Bool) (ts : Ts) (of : ClassNo) (txn : TxnNo) (attempt : ℕ) (conds : List Cond) (uses : List Use) (r : Rec)
    (sends : List (Site × Msg))
    → May v c w (Read ts of txn attempt conds uses) r → Answers c txn attempt (Records c r sends) ⊎ Rejects v c txn attempt conds (Records c r sends)
judged_by v c w ts of txn attempt conds uses (Answer n a dm) sends m =
    inl (dm, sends, ap (λ k. Records c (Answer (txn_no k) a dm) sends) m.0 ∙ ap (λ k. Records c (Answer txn k dm) sends) m.1)
judged_by v c w ts of txn attempt conds uses (Rejected n a dm by x) sends m =
    inr (dm, by, x, sends, m.3, ap (λ k. Records c (Rejected (txn_no k) a dm by x) sends) m.0 ∙ ap (λ k. Records c (Rejected txn k dm by x) sends) m.1, m.4, m.5)
judged_by v c w ts of txn attempt conds uses r sends m = absurd m

pub processed_read : (s : Setting) (l : site.Log) (c : ℕ) (ts : Ts) (of : ClassNo) (txn : TxnNo) (attempt : ℕ)
    (conds : List Cond) (uses : List Use) (r : Rec) (sends : List (Site × Msg))
    → head (pipe c l) ≡ Some (Read ts of txn attempt conds uses) → is_processing r ≡ true → IsReadStep s l (Records c r sends)
    → Answers c txn attempt (Records c r sends) ⊎ Rejects (view_of s l) c txn attempt conds (Records c r sends)
processed_read s l c ts of txn attempt conds uses r sends h p i =
    let x = processing_of s l c r sends p i in
    let m : x.msg ≡ Read ts of txn attempt conds uses = cc (sym x.head_is ∙ h) in
    judged_by (view_of s l) c (waits c l) ts of txn attempt conds uses r sends (subst (λ y. May (view_of s l) c (waits c l) y r) m x.may)

-- an act of the module
abbrev AfterAct : Setting → site.Log → ℕ → Ts → ClassNo → TxnNo → ℕ → List Cond → List Use → Act → Type 0
AfterAct s l c ts of txn attempt conds uses act =
    HeadIs (Did act ∷ l) c (Read ts of txn attempt conds uses) ⊎ (Answers c txn attempt act ⊎ Rejects (view_of s l) c txn attempt conds act)

act_judged : (s : Setting) (l : site.Log) (c : ℕ) (ts : Ts) (of : ClassNo) (txn : TxnNo) (attempt : ℕ) (conds : List Cond) (uses : List Use) (act : Act)
    → HeadIs l c (Read ts of txn attempt conds uses) → list_all (is_met (view_of s l)) conds ≡ true
    → IsDue (home_of s) (view_of s l) act → AfterAct s l c ts of txn attempt conds uses act
act_judged s l c ts of txn attempt conds uses act w met due =
    read_step_way s l act (λ x. IsDue (home_of s) (view_of s l) x → AfterAct s l c ts of txn attempt conds uses x)
    (λ e x. let p = passing c act l e in inl (p.1 ∙ w.0, ap (λ (y : Pipe). head y) p.0.pipe_same ∙ w.1))
    (λ k ds r sends here p q x y due. elim (same_or_not k c) [
      | inl e ↦ no_wait s l c k ts of txn attempt conds uses r sends e w.1 met due q
      | inr e ↦ inl (waits_other c k r sends l e ∙ w.0, ap (λ (z : Pipe). head z) (not_own c k r sends l (inl e)).pipe_same ∙ w.1)
    ])
    (grind (arith, same_or_not, Answers, Rejects, view_of, processed_read, by_record, waits_other, head, not_own)) (d_step s l act due) due

-- after a log, over the entries that follow

none_spoils : (v : View) (ds : List Cond) (k : ℕ) (q : Cond) → spoiler v ds ≡ None → slice_get ds k ≡ Some q → spoils v q ≡ false
none_spoils v [] k q e f = cc
none_spoils v (d ∷ ds) k q e f =
    elim (spoils v d) as (λ b. spoils v d ≡ b → head_of (cond b (d ∷ filter (spoils v) ds) (filter (spoils v) ds)) ≡ None → spoils v q ≡ false) [
      | true ↦ λ p r. cc
      | false ↦ λ p r. (elim k as (λ n. slice_get (d ∷ ds) n ≡ Some q → spoils v q ≡ false) [
        | zero ↦ λ x. (let same : d ≡ q = cc in subst (λ y. spoils v y ≡ false) same p)
        | suc n ↦ λ x. none_spoils v ds n q r x
      ]) f
    ] refl e

abbrev IsDone : Input → Log → DmNo → ℕ → TxnNo → ℕ → List Cond → Log → Type 0
IsDone g log d c txn attempt conds entries = IsAnsweredIn d c txn attempt entries ⊎ IsRejectedAfter g log d c txn attempt conds entries

rejected_now : (g : Input) (d : DmNo) (c : ℕ) (txn : TxnNo) (attempt : ℕ) (conds : List Cond) (e : Entry) (entries log : Log) (act : Act)
    → IsPermitted g (entries ++ log) → spoiler (view_of (setting_of g (D d)) (at_module g d log)) conds ≡ None → e ≡ Does (D d) act
    → Rejects (view_of (setting_of g (D d)) (at_module g d (entries ++ log))) c txn attempt conds act
    → IsRejectedAfter g log d c txn attempt conds (e ∷ entries)
rejected_now g d c txn attempt conds e entries log act h clean is r =
    let f = spoiler_there (view_of (setting_of g (D d)) (at_module g d (entries ++ log))) conds r.4 r.6 in
    let then_not = none_spoils (view_of (setting_of g (D d)) (at_module g d log)) conds f.1 r.4 clean f.2 in
    record {
      reject = record { later = []; before = entries; dm = r.0; by = r.1; write = r.2; sends = r.3; is = ap (λ x. x ∷ entries) (is ∙ ap (λ x. Does (D d) x) r.5) };
      place = f.1;
      cond_by = r.4;
      there = f.2;
      names = r.7;
      spoilt = spoilt_in g d r.4 entries log h then_not f.0;
    }

rejected_on : (g : Input) (log : Log) (d : DmNo) (c : ℕ) (txn : TxnNo) (attempt : ℕ) (conds : List Cond) (e : Entry) (entries : Log)
    → IsRejectedAfter g log d c txn attempt conds entries → IsRejectedAfter g log d c txn attempt conds (e ∷ entries)
rejected_on g log d c txn attempt conds e entries i =
    let r : IsRejectedIn d c txn attempt entries = i.reject in
    record {
      reject = record { later = e ∷ r.later; before = r.before; dm = r.dm; by = r.by; write = r.write; sends = r.sends; is = ap (λ l. e ∷ l) r.is };
      place = i.place;
      cond_by = i.cond_by;
      there = i.there;
      names = i.names;
      spoilt = i.spoilt;
    }

judged_entry : (g : Input) (d : DmNo) (c : ℕ) (e : Entry) (entries log : Log) (ts : Ts) (of : ClassNo) (txn : TxnNo) (attempt : ℕ) (conds : List Cond)
    (uses : List Use)
    → IsPermitted g (entries ++ log) → spoiler (view_of (setting_of g (D d)) (at_module g d log)) conds ≡ None
    → list_all (is_met (view_of (setting_of g (D d)) (at_module g d (entries ++ log)))) conds ≡ true
    → HeadIs (at_module g d (entries ++ log)) c (Read ts of txn attempt conds uses) → IsEntryAt g d (entries ++ log) e
    → HeadIs (at_module g d (e ∷ (entries ++ log))) c (Read ts of txn attempt conds uses) ⊎ IsDone g log d c txn attempt conds (e ∷ entries)
judged_entry g d c e entries log ts of txn attempt conds uses h clean met w (aside f) = grind arith
judged_entry g d c e entries log ts of txn attempt conds uses h clean met w (handing from m s) =
    inl (subst (λ l. HeadIs l c (Read ts of txn attempt conds uses)) (sym s) (w.0, handed_head c from m (Read ts of txn attempt conds uses) (at_module g d (entries ++ log)) w.1))
judged_entry g d c e entries log ts of txn attempt conds uses h clean met w (acting act is s due) =
    elim (act_judged (setting_of g (D d)) (at_module g d (entries ++ log)) c ts of txn attempt conds uses act w met due) [
      | inl x ↦ inl (subst (λ k. HeadIs k c (Read ts of txn attempt conds uses)) (sym s) x)
      | inr x ↦ inr (elim x [
        | inl a ↦ inl (answered_now d c txn attempt e act entries is a)
        | inr r ↦ inr (rejected_now g d c txn attempt conds e entries log act h clean is r)
      ])
    ]

stays_or_done : (g : Input) (d : DmNo) (c : ℕ) (later log : Log) (ts : Ts) (of : ClassNo) (txn : TxnNo) (attempt : ℕ) (conds : List Cond) (uses : List Use)
    → IsPermitted g (later ++ log) → HasSmallHomes g → spoiler (view_of (setting_of g (D d)) (at_module g d log)) conds ≡ None
    → list_all (is_met (view_of (setting_of g (D d)) (at_module g d log))) conds ≡ true → HeadIs (at_module g d log) c (Read ts of txn attempt conds uses)
    → HeadIs (at_module g d (later ++ log)) c (Read ts of txn attempt conds uses) ⊎ IsDone g log d c txn attempt conds later
stays_or_done g d c [] log ts of txn attempt conds uses h small clean met w = inl w
stays_or_done g d c (e ∷ later) log ts of txn attempt conds uses h small clean met w =
    elim (stays_or_done g d c later log ts of txn attempt conds uses h.1 small clean met w) [
      | inl x ↦ judged_entry g d c e later log ts of txn attempt conds uses h.1 clean (all_met_later g d later log conds h.1 small met) x
          (entry_at g d (later ++ log) e h)
      | inr x ↦ inr (grind (arith, answered_on, rejected_on))
    ]

pub answered_or_rejected : (g : Input) (d : DmNo) (c : ℕ) (later log : Log) (ts : Ts) (of : ClassNo) (txn : TxnNo) (attempt : ℕ) (conds : List Cond)
    (uses : List Use)
    → IsPermitted g (later ++ log) → IsLawful g (later ++ log) → HasSmallHomes g → IsClassHere (setting_of g (D d)) c → 1 ≤ d.0 → d.0 ≤ g.catalogue.dms
    → waits c (at_module g d log) ≡ false → head (pipe c (at_module g d log)) ≡ Some (Read ts of txn attempt conds uses)
    → list_all (is_met (view_of (setting_of g (D d)) (at_module g d log))) conds ≡ true
    → spoiler (view_of (setting_of g (D d)) (at_module g d log)) conds ≡ None → site_due g (later ++ log) ≡ None
    → IsAnsweredIn d c txn attempt later ⊎ IsRejectedAfter g log d c txn attempt conds later
answered_or_rejected g d c later log ts of txn attempt conds uses h lawful small here from to w e met clean none =
    let s : Setting = setting_of g (D d) in
    let l : site.Log = at_module g d (later ++ log) in
    elim (stays_or_done g d c later log ts of txn attempt conds uses h small clean met (w, e)) [
      | inl x ↦ absurd (no_ready_head s l c ts of txn attempt conds uses (all_met_later g d later log conds h small met) x.1
          (head_stuck s l c here (none_at_data g (later ++ log) d from to lawful none)))
      | inr x ↦ x
    ]
