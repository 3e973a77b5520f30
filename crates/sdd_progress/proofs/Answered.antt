-- A READ whose conditions are met is answered before the event is over.
use Rattle.sdd_progress.proofs.AllWaits.{Act, Answer, ClassNo, ClassView, Cond, D, Did, DmNo, Does, Entry, Input, IsAnsweredIn, IsClassHere, IsLawful, IsPermitted, IsReadStep, IsStuck, List, Log, Msg, None, Pipe, Read, Records, Setting, Site, Some, Ts, TxnNo, Use, [], and_left, and_right, ap, arith, both, class_in_view, class_not_in_view, d_step, dec_le, false, head, inl, inr, is_met, length, list_all, not_both, not_own, passed, passing, pipe, read_step_way, refl, same_or_not, setting_of, site_due, subst, suc, sym, true, view_of, waits, ℕ, ◌++◌, ◌∙◌, ◌∷◌, ◌≡◌, ◌≤◌, ◌⊎◌}
use Rattle.sdd_progress.proofs.AtModule.{IsEntryAt, acting, aside, at_module, entry_at, handed_head, handing, waits_on, waits_other}
use Rattle.sdd_progress.proofs.ClassSites.{HasSmallHomes}
use Rattle.sdd_progress.proofs.NothingDue.{none_at_data}
use Rattle.sdd_progress.proofs.Passing.{passed_later}
use Rattle.sdd_progress.proofs.Rejected.{waited_answer}
use Rattle.sdd_progress.proofs.StuckHeads.{head_stuck}
use Rattle.sdd_obligations.specs.site_module.SiteLog as site

-- what is met stays met

met_later : (g : Input) (d : DmNo) (later log : Log) (q : Cond) → IsPermitted g (later ++ log) → HasSmallHomes g
    → is_met (view_of (setting_of g (D d)) (at_module g d log)) q ≡ true → is_met (view_of (setting_of g (D d)) (at_module g d (later ++ log))) q ≡ true
met_later g d later log q h small e =
    let s : Setting = setting_of g (D d) in
    let c : ℕ = q.class.0 in
    elim (dec_le (suc c) (suc (length s.catalogue.classes))) [
      | yes l ↦ (let was : passed (pipe c (at_module g d log)) q.time.0 ≡ true = subst (λ (k : ClassView). passed k.pipe q.time.0 ≡ true)
          (class_in_view s (at_module g d log) c l) e in
          subst (λ (k : ClassView). passed k.pipe q.time.0 ≡ true) (sym (class_in_view s (at_module g d (later ++ log)) c l))
          (passed_later g c d q.time.0 later log h (small c) was))
      | no n ↦ (let none : false ≡ true = subst (λ (k : ClassView). passed k.pipe q.time.0 ≡ true) (class_not_in_view s (at_module g d log) c (omega (arith, n))) e in cc)
    ]

pub all_met_later : (g : Input) (d : DmNo) (later log : Log) (conds : List Cond) → IsPermitted g (later ++ log) → HasSmallHomes g
    → list_all (is_met (view_of (setting_of g (D d)) (at_module g d log))) conds ≡ true
    → list_all (is_met (view_of (setting_of g (D d)) (at_module g d (later ++ log)))) conds ≡ true
all_met_later g d later log [] h small e = refl
all_met_later g d later log (q ∷ qs) h small e =
    both _ _ (met_later g d later log q h small (and_left _ _ e)) (all_met_later g d later log qs h small (and_right _ _ e))

-- a READ that waits goes on waiting until it is answered

abbrev HeadWaits : site.Log → ℕ → Msg → Type 0
HeadWaits l c m = (waits c l ≡ true) × (head (pipe c l) ≡ Some m)

abbrev pub Answers : ℕ → TxnNo → ℕ → Act → Type 0
Answers c txn attempt act = (dm : DmNo) × (sends : List (Site × Msg)) × (act ≡ Records c (Answer txn attempt dm) sends)

act_waits : (s : Setting) (l : site.Log) (c : ℕ) (ts : Ts) (of : ClassNo) (txn : TxnNo) (attempt : ℕ) (conds : List Cond) (uses : List Use) (act : Act)
    → HeadWaits l c (Read ts of txn attempt conds uses) → IsReadStep s l act
    → HeadWaits (Did act ∷ l) c (Read ts of txn attempt conds uses) ⊎ Answers c txn attempt act
act_waits s l c ts of txn attempt conds uses act w i =
    grind (arith, read_step_way, HeadWaits, Answers, passing, waits_on, not_own, same_or_not, waited_answer, waits_other)

pub answered_on : (d : DmNo) (c : ℕ) (txn : TxnNo) (attempt : ℕ) (e : Entry) (entries : Log) → IsAnsweredIn d c txn attempt entries
    → IsAnsweredIn d c txn attempt (e ∷ entries)
answered_on d c txn attempt e entries i = record { later = e ∷ i.later; before = i.before; dm = i.dm; sends = i.sends; is = ap (λ l. e ∷ l) i.is }

pub answered_now : (d : DmNo) (c : ℕ) (txn : TxnNo) (attempt : ℕ) (e : Entry) (act : Act) (entries : Log) → e ≡ Does (D d) act
    → Answers c txn attempt act → IsAnsweredIn d c txn attempt (e ∷ entries)
answered_now d c txn attempt e act entries is a =
    record { later = []; before = entries; dm = a.0; sends = a.1; is = ap (λ x. x ∷ entries) (is ∙ ap (λ x. Does (D d) x) a.2) }

waits_entry : (g : Input) (d : DmNo) (c : ℕ) (e : Entry) (entries log : Log) (ts : Ts) (of : ClassNo) (txn : TxnNo) (attempt : ℕ) (conds : List Cond)
    (uses : List Use)
    → HeadWaits (at_module g d (entries ++ log)) c (Read ts of txn attempt conds uses) → IsEntryAt g d (entries ++ log) e
    → HeadWaits (at_module g d (e ∷ (entries ++ log))) c (Read ts of txn attempt conds uses) ⊎ IsAnsweredIn d c txn attempt (e ∷ entries)
waits_entry g d c e entries log ts of txn attempt conds uses w (aside f) = inl ((f c).waits_same ∙ w.0, ap (λ (x : Pipe). head x) (f c).pipe_same ∙ w.1)
waits_entry g d c e entries log ts of txn attempt conds uses w (handing from m s) = grind (arith, HeadWaits, handed_head, at_module)
waits_entry g d c e entries log ts of txn attempt conds uses w (acting act is s due) =
    let l : site.Log = at_module g d (entries ++ log) in
    elim (act_waits (setting_of g (D d)) l c ts of txn attempt conds uses act w (d_step (setting_of g (D d)) l act due)) [
      | inl x ↦ inl (subst (λ k. HeadWaits k c (Read ts of txn attempt conds uses)) (sym s) x)
      | inr a ↦ inr (answered_now d c txn attempt e act entries is a)
    ]

pub waits_or_answered : (g : Input) (d : DmNo) (c : ℕ) (later log : Log) (ts : Ts) (of : ClassNo) (txn : TxnNo) (attempt : ℕ) (conds : List Cond)
    (uses : List Use)
    → IsPermitted g (later ++ log) → HeadWaits (at_module g d log) c (Read ts of txn attempt conds uses)
    → HeadWaits (at_module g d (later ++ log)) c (Read ts of txn attempt conds uses) ⊎ IsAnsweredIn d c txn attempt later
waits_or_answered g d c [] log ts of txn attempt conds uses h w = inl w
waits_or_answered g d c (e ∷ later) log ts of txn attempt conds uses h w =
    elim (waits_or_answered g d c later log ts of txn attempt conds uses h.1 w) [
      | inl x ↦ waits_entry g d c e later log ts of txn attempt conds uses x (entry_at g d (later ++ log) e h)
      | inr x ↦ inr (answered_on d c txn attempt e later x)
    ]

-- where nothing is due, no READ whose conditions are met stands at a head

pub no_ready_head : (s : Setting) (l : site.Log) (c : ℕ) (ts : Ts) (of : ClassNo) (txn : TxnNo) (attempt : ℕ) (conds : List Cond) (uses : List Use)
    → list_all (is_met (view_of s l)) conds ≡ true → head (pipe c l) ≡ Some (Read ts of txn attempt conds uses) → IsStuck s l c (head (pipe c l)) → ⊥
no_ready_head s l c ts of txn attempt conds uses e h k = grind (arith, not_both, list_all)

pub answered : (g : Input) (d : DmNo) (c : ℕ) (later log : Log) (ts : Ts) (of : ClassNo) (txn : TxnNo) (attempt : ℕ) (conds : List Cond) (uses : List Use)
    → IsPermitted g (later ++ log) → IsLawful g (later ++ log) → HasSmallHomes g → IsClassHere (setting_of g (D d)) c → 1 ≤ d.0 → d.0 ≤ g.catalogue.dms
    → waits c (at_module g d log) ≡ true → head (pipe c (at_module g d log)) ≡ Some (Read ts of txn attempt conds uses)
    → list_all (is_met (view_of (setting_of g (D d)) (at_module g d log))) conds ≡ true → site_due g (later ++ log) ≡ None → IsAnsweredIn d c txn attempt later
answered g d c later log ts of txn attempt conds uses h lawful small here from to w e met none =
    let s : Setting = setting_of g (D d) in
    let l : site.Log = at_module g d (later ++ log) in
    elim (waits_or_answered g d c later log ts of txn attempt conds uses h (w, e)) [
      | inl x ↦ absurd (no_ready_head s l c ts of txn attempt conds uses (all_met_later g d later log conds h small met) x.1
          (head_stuck s l c here (none_at_data g (later ++ log) d from to lawful none)))
      | inr x ↦ x
    ]
