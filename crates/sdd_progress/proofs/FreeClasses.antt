-- Of a free class no attempt waits or is rejected, and what is handed over of it is processed before the event is over.
use Rattle.sdd_progress.proofs.AllWaits.{Answer, Apply, Bool, Change, ClassNo, ClassView, Cond, D, DmNo, Does, Hand, Input, IsAnsweredIn, IsAppliedIn, IsFreeClass, IsLawful, IsPermitted, IsSoundCatalogue, IsStuck, IsWaitOf, List, Log, May, Msg, None, Option, Read, Rec, Records, Rejected, Setting, Site, Some, Ts, TxnNo, Use, View, Write, [], allowed_act, and_left, and_right, any_at, ap, append_assoc, arith, class_at_place, class_no, eqb-true, head, head_place, holds, holds_back, inl, inr, is_wait, lacking, list_all, list_any, not, not_both, permitted_before, pipe, pipe_at, refl, same_number, same_or_not, setting_of, site_due, slice_get, subst, sym, true, txn_no, view_of, waits, ℕ, ◌&&◌, ◌++◌, ◌==◌, ◌∙◌, ◌∷◌, ◌≡◌, ◌≢◌, ◌≤◌}
use Rattle.sdd_progress.proofs.AtModule.{at_module}
use Rattle.sdd_progress.proofs.NothingDue.{none_at_data}
use Rattle.sdd_progress.proofs.FreeConditions.{names_none, unconditional}
use Rattle.sdd_progress.proofs.ProcessedIn.{IsProcessedIn, processed_by_end}
use Rattle.sdd_progress.proofs.Rejected.{rejected, spoiler_there}
use Rattle.sdd_progress.proofs.StuckHeads.{head_stuck}
use Rattle.sdd_progress.proofs.UndeclaredReads.{holds_none}
use Rattle.sdd_progress.proofs.Waited.{wait_due}
use Rattle.sdd_obligations.specs.site_module.SiteLog as site

-- no attempt waits, and none is rejected

pub never_waits : (g : Input) (log : Log) (i : ℕ) (d : DmNo) (r : Rec) (sends : List (Site × Msg)) → IsFreeClass g i
    → IsPermitted g (Does (D d) (Records i r sends) ∷ log) → is_wait r ≡ true → ⊥
never_waits g log i d r sends free h w =
    let s : Setting = setting_of g (D d) in
    let x : IsWaitOf s (at_module g d log) i (Records i r sends) = wait_due s (at_module g d log) i r sends
    (allowed_act g log (Does (D d) (Records i r sends)) h.0) w in
    let none = unconditional g log i d _ x.ts x.of x.txn x.attempt x.conds x.uses h.1 free (head_place (pipe_at g i d log) _ x.head_is) in
    (let h : [] ≡ x.first ∷ x.more = sym (ap (lacking (view_of s (at_module g d log))) none) ∙ x.lacks in cc)

none_there : {A : Type 0} (conds : List Cond) (k : ℕ) (q : Cond) → conds ≡ [] → slice_get conds k ≡ Some q → A
none_there conds k q e f = let h : slice_get [] k ≡ Some q = subst (λ ds. slice_get ds k ≡ Some q) e f in cc

pub never_rejected : (g : Input) (log : Log) (i : ℕ) (d : DmNo) (txn : TxnNo) (attempt : ℕ) (dm : DmNo) (by : ClassNo) (write : Ts) (sends : List (Site × Msg))
    → IsFreeClass g i → IsPermitted g (Does (D d) (Records i (Rejected txn attempt dm by write) sends) ∷ log) → ⊥
never_rejected g log i d txn attempt dm by write sends free h = grind (arith, rejected, unconditional, head_place, none_there)

-- no WRITE of the class is held

held_by : (g : Input) (log : Log) (i k : ℕ) (d : DmNo) (w : Ts) (wc : ClassNo) (wt : TxnNo) (changes : List Change) (o : Option Msg)
    → IsFreeClass g i → IsPermitted g log → IsSoundCatalogue g.catalogue → 1 ≤ d.0 → d.0 ≤ g.catalogue.dms
    → head (pipe_at g i d log) ≡ Some (Write w wc wt changes) → head (pipe_at g k d log) ≡ o → holds_back i w.0 changes o ≡ true → ⊥
held_by g log i k d w wc wt changes (Some (Read ts of txn n ds us)) free h sound lo hi e f b = elim (same_or_not k 0) [
  | inl z ↦ grind (arith, holds_none, head, pipe_at)
  | inr z ↦ (let a = any_at (holds i w.0 changes) ds b in
      let class : a.1.class.0 ≡ i = eqb-true a.1.class.0 i (and_left _ _ a.3) in
      let zero_not : k ≢ 0 = λ p. let q : (k == 0) ≡ true = ap (λ y. y == 0) p in not_both (k == 0) q z in
      names_none g log i k d _ ts of txn n ds us a.0 a.1 h free zero_not (head_place (pipe_at g k d log) _ f) a.2 class)
]
held_by g log i k d w wc wt changes _ free h sound lo hi e f b = cc

-- so where nothing is due, its pipe has no head

no_head : (g : Input) (log : Log) (i : ℕ) (d : DmNo) (m : Msg) → IsFreeClass g i → IsPermitted g log → IsSoundCatalogue g.catalogue → 1 ≤ d.0
    → d.0 ≤ g.catalogue.dms → head (pipe_at g i d log) ≡ Some m → IsStuck (setting_of g (D d)) (at_module g d log) i (Some m) → ⊥
no_head g log i d (Read ts of txn attempt conds uses) free h sound lo hi e x = grind (arith, at_module, unconditional, head_place, list_all)
no_head g log i d (Write w wc wt changes) free h sound lo hi e x =
    let s : Setting = setting_of g (D d) in
    let l : site.Log = at_module g d log in
    let test : ClassView → Bool = λ k. k.waits && holds_back i w.0 changes (head k.pipe) in
    let a = any_at test (view_of s l).classes (and_right (not (i == 0)) (list_any test (view_of s l).classes) x) in
    let k = class_at_place s l a.0 a.1 a.2 in
    let back : holds_back i w.0 changes (head (pipe k.0 l)) ≡ true = and_right (waits k.0 l) _ (ap test k.2 ∙ a.3) in
    held_by g log i k.0 d w wc wt changes (head (pipe k.0 l)) free h sound lo hi e refl back
no_head g log i d _ free h sound lo hi e x = x

pub none_at_head : (g : Input) (log : Log) (i : ℕ) (d : DmNo) → IsFreeClass g i → IsPermitted g log → IsSoundCatalogue g.catalogue → 1 ≤ d.0
    → d.0 ≤ g.catalogue.dms → IsLawful g log → site_due g log ≡ None → head (pipe_at g i d log) ≡ None
none_at_head g log i d free h sound lo hi lawful none =
    let s : Setting = setting_of g (D d) in
    let l : site.Log = at_module g d log in
    elim (head (pipe i l)) as (λ o. head (pipe i l) ≡ o → IsStuck s l i o → o ≡ None) [
      | None ↦ λ e y. refl
      | Some m ↦ λ e y. absurd (no_head g log i d m free h sound lo hi e y)
    ] refl (head_stuck s l i (let l = free.class.to in omega arith) (none_at_data g log d lo hi lawful none))

-- what is handed over of the class is processed by then

read_answered : (v : View) (c : ℕ) (w : Bool) (ts : Ts) (of : ClassNo) (txn : TxnNo) (attempt : ℕ) (conds : List Cond) (uses : List Use) (r : Rec)
    → conds ≡ [] → May v c w (Read ts of txn attempt conds uses) r → (dm : DmNo) × (r ≡ Answer txn attempt dm)
read_answered v c w ts of txn attempt conds uses (Answer n a dm) e m = (dm, ap (λ k. Answer (txn_no k) a dm) m.0 ∙ ap (λ k. Answer txn k dm) m.1)
read_answered v c w ts of txn attempt conds uses (Rejected n a dm by x) e m = let f = spoiler_there v conds m.3 m.4 in none_there conds f.1 m.3 e f.2
read_answered v c w ts of txn attempt conds uses r e m = absurd m

write_applied : (v : View) (c : ℕ) (w : Bool) (ts : Ts) (of : ClassNo) (txn : TxnNo) (changes : List Change) (r : Rec)
    → May v c w (Write ts of txn changes) r → (dm : DmNo) × (r ≡ Apply txn of dm ts)
write_applied v c w ts of txn changes (Apply n k dm t) m =
    (dm, ap (λ x. Apply (txn_no x) k dm t) m.0 ∙ ap (λ x. Apply txn (class_no x) dm t) m.2 ∙ ap (λ x. Apply txn of dm x) m.1)
write_applied v c w ts of txn changes r m = absurd m

pub answered_by_end : (g : Input) (i : ℕ) (d : DmNo) (from : Site) (n : ℕ) (later log : Log) (ts : Ts) (of : ClassNo)
    (txn : TxnNo) (attempt : ℕ) (conds : List Cond) (uses : List Use)
    → IsFreeClass g i → IsSoundCatalogue g.catalogue → 1 ≤ d.0 → d.0 ≤ g.catalogue.dms → of.0 ≡ i
    → IsPermitted g (later ++ Hand from (D d) n (Read ts of txn attempt conds uses) ∷ log)
    → IsLawful g (later ++ Hand from (D d) n (Read ts of txn attempt conds uses) ∷ log)
    → site_due g (later ++ Hand from (D d) n (Read ts of txn attempt conds uses) ∷ log) ≡ None → IsAnsweredIn d i txn attempt later
answered_by_end g i d from n later log ts of txn attempt conds uses free sound lo hi class h lawful none =
    let m : Msg = Read ts of txn attempt conds uses in
    let handed : Log = Hand from (D d) n m ∷ log in
    let p : IsProcessedIn g handed d i m later = processed_by_end g d i from n m later log h (ap (λ k. k == i) class ∙ same_number i)
    (none_at_head g (later ++ handed) i d free h sound lo hi lawful none) in
    let hb : IsPermitted g (p.before ++ handed) = (grind (arith, append_assoc, permitted_before)) in
    let empty = unconditional g (p.before ++ handed) i d _ ts of txn attempt conds uses hb free (head_place (pipe_at g i d (p.before ++ handed)) m p.head_is) in
    let l : site.Log = at_module g d (p.before ++ handed) in
    let a = read_answered (view_of (setting_of g (D d)) l) i (waits i l) ts of txn attempt conds uses p.rec empty p.may in
    (grind arith)

pub applied_by_end : (g : Input) (i : ℕ) (d : DmNo) (from : Site) (n : ℕ) (later log : Log) (ts : Ts) (of : ClassNo) (txn : TxnNo) (changes : List Change)
    → IsFreeClass g i → IsSoundCatalogue g.catalogue → 1 ≤ d.0 → d.0 ≤ g.catalogue.dms → of.0 ≡ i
    → IsPermitted g (later ++ Hand from (D d) n (Write ts of txn changes) ∷ log)
    → IsLawful g (later ++ Hand from (D d) n (Write ts of txn changes) ∷ log)
    → site_due g (later ++ Hand from (D d) n (Write ts of txn changes) ∷ log) ≡ None → IsAppliedIn d i txn ts later
applied_by_end g i d from n later log ts of txn changes free sound lo hi class h lawful none =
    let m : Msg = Write ts of txn changes in
    let handed : Log = Hand from (D d) n m ∷ log in
    let p : IsProcessedIn g handed d i m later = processed_by_end g d i from n m later log h (ap (λ k. k == i) class ∙ same_number i)
    (none_at_head g (later ++ handed) i d free h sound lo hi lawful none) in
    let l : site.Log = at_module g d (p.before ++ handed) in
    let a = write_applied (view_of (setting_of g (D d)) l) i (waits i l) ts of txn changes p.rec p.may in
    (grind arith)
