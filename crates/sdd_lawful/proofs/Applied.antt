-- The Applies of a history, as acts of data modules; and what a data module has applied at one of its acts.
use Rattle.sdd_lawful.proofs.All.{Act, AppliedBefore, Apply, Bases, Catalogue, Change, ClassNo, D, Did, DmNo, Does, Input, IsApplied, IsApplyOf, IsMadeAt, IsModule, IsOfWrite, IsPermitted, IsPutAt, IsRecordAt, List, Log, Msg, Option, Rec, Records, Running, Site, SiteLog, Some, Ts, TxnNo, Write, [], and_left, ap, append_assoc, apply_follows, apply_of_head, arith, at_seam, class_no, commit_act, dm_no, effect, eqb-true, false, filter_map, goes_write, head, head_put, history, in_either, in_left, in_one, inl, inr, is_processing, length, local_of, permitted_before, pipe_at, place_of_act, range_with_len, refl, results, same_number, same_or_not, sends_of_act, slice_get, subst, suc, sym, time_at, to_site, true, true_or_false, txn_no, write_to, zero, ℕ, ◌&&◌, ◌++◌, ◌+◌, ◌<◌, ◌==◌, ◌∙◌, ◌∷◌, ◌≡◌, ◌≤◌}
use Rattle.sdd_lawful.proofs.Classes.{at_home, home_setting}
use Rattle.sdd_lawful.proofs.Makers.{IsOfData, act_kind, data_home, is_of_run, is_own}
use Rattle.sdd_lawful.proofs.Places.{made_at, place_rises, recorded_there}
use Rattle.sdd_lawful.proofs.Started.{act_local, act_of_record}
use Rattle.sdd_invariants.proofs.Sites.{GoesTo}
use Rattle.sdd_invariants.specs.site_module.SiteLog as site

-- the record of a data module, as one of its acts
pub record IsDataIn (g : Input) (log : Log) (k : ℕ) (r : Rec) (d : DmNo) : Type 0 where
  pub class : ℕ
  pub later : Log
  pub sends : List (Site × Msg)
  pub before : Log
  pub is : log ≡ later ++ Does (D d) (Records class r sends) ∷ before
  pub place_is : length (history before) ≡ k
  pub permitted : IsPermitted g (Does (D d) (Records class r sends) ∷ before)

pub data_in : (g : Input) (log : Log) (k : ℕ) (r : Rec) (d : DmNo) → IsPermitted g log → is_of_run r ≡ false → is_own r ≡ false
    → ((e : DmNo) → IsOfData e r → e ≡ d) → IsRecordAt (history log) k r → IsDataIn g log k r d
data_in g log k r d h e f number s =
    let m = made_at log k r s in
    let a = act_of_record m.entry r m.makes f in
    let now : IsPermitted g (Does a.at (Records a.class r a.sends) ∷ m.before) =
    subst (λ x. IsPermitted g (x ∷ m.before)) a.is (permitted_before g m.later (m.entry ∷ m.before) (subst (IsPermitted g) m.is h)) in
    let w = data_home g a.at a.class r a.sends m.before now e in
    let at : a.at ≡ D d = w.1 ∙ ap (λ x. D x) (number w.0 w.2) in
    record {
      class = a.class;
      later = m.later;
      sends = a.sends;
      before = m.before;
      is = m.is ∙ ap (λ x. m.later ++ x ∷ m.before) (a.is ∙ ap (λ x. Does x (Records a.class r a.sends)) at);
      place_is = m.place_is;
      permitted = subst (λ x. IsPermitted g (Does x (Records a.class r a.sends) ∷ m.before)) at now;
    }

-- a WRITE goes to a module that is there

in_range_to : (f : ℕ → Option (Site × Msg)) (x a n k : ℕ) (m : Msg) → GoesTo f
    → slice_get (to_site (D (dm_no x)) (filter_map f (range_with_len a n))) k ≡ Some m → (a ≤ x) × (x < a + n)
in_range_to f x a zero k m g e = cc
in_range_to f x a (suc n) k m g e = elim (g a) [
  | inl p ↦ (let i = in_range_to f x (a + 1) n k m g (rw p at e) in (omega (arith, i.0), omega (arith, i.1)))
  | inr p ↦ elim (same_or_not x a) [
    | inl q ↦ (omega arith, omega arith)
    | inr q ↦ (let i = in_range_to f x (a + 1) n k m g (rw (p.1, q) at e) in (omega (arith, i.0), omega (arith, i.1)))
  ]
]

write_module : (cat : Catalogue) (c : ℕ) (bases : Bases) (a : Running) (d : DmNo) (k : ℕ) (m : Msg)
    → slice_get (to_site (D d) (sends_of_act (commit_act cat bases c a))) k ≡ Some m → IsModule cat d.0
write_module cat c bases a d k m e =
    let xs : List Change = (effect cat (bases a.ts) a.text).changes in
    let i = in_range_to (write_to cat c a xs) d.0 1 cat.dms k m (goes_write cat c a xs) e in
    let hi = i.1 in (i.0, omega arith)

pub put_module : (g : Input) (c : ℕ) (d : DmNo) (log : Log) (ts : Ts) (of : ClassNo) (txn : TxnNo) (changes : List Change)
    → IsPutAt g log c d (Write ts of txn changes) → IsModule g.catalogue d.0
put_module g c d log ts of txn changes p = grind (arith, home_setting, at_home, write_module)

-- an Apply of a transaction

abbrev pub apply_rec : ℕ → ℕ → ℕ → ℕ → Rec
apply_rec n class d ts = Apply (txn_no n) (class_no class) (dm_no d) (time_at ts)

pub record IsApplyIn (g : Input) (log : Log) (n class d ts k : ℕ) : Type 0 where
  pub later : Log
  pub sends : List (Site × Msg)
  pub before : Log
  pub changes : List Change
  pub is : log ≡ later ++ Does (D (dm_no d)) (Records class (apply_rec n class d ts) sends) ∷ before
  pub place_is : length (history before) ≡ k
  pub permitted : IsPermitted g (Does (D (dm_no d)) (Records class (apply_rec n class d ts) sends) ∷ before)
  pub head_is : head (pipe_at g class (dm_no d) before) ≡ Some (Write (time_at ts) (class_no class) (txn_no n) changes)
  pub of : IsApplyOf g before (dm_no d) class n ts
  pub at_module : IsModule g.catalogue d

apply_as : (g : Input) (log : Log) (n class d ts k c : ℕ) (later : Log) (sends : List (Site × Msg)) (before : Log) (changes : List Change) → c ≡ class
    → log ≡ later ++ Does (D (dm_no d)) (Records c (apply_rec n class d ts) sends) ∷ before → length (history before) ≡ k
    → IsPermitted g (Does (D (dm_no d)) (Records c (apply_rec n class d ts) sends) ∷ before)
    → head (pipe_at g c (dm_no d) before) ≡ Some (Write (time_at ts) (class_no class) (txn_no n) changes)
    → IsApplyOf g before (dm_no d) c n ts → IsModule g.catalogue d → IsApplyIn g log n class d ts k
apply_as g log n class d ts k c later sends before changes e is place h head_is of m = record {
  later = later;
  sends = sends;
  before = before;
  changes = changes;
  is = subst (λ j. log ≡ later ++ Does (D (dm_no d)) (Records j (apply_rec n class d ts) sends) ∷ before) e is;
  place_is = place;
  permitted = subst (λ j. IsPermitted g (Does (D (dm_no d)) (Records j (apply_rec n class d ts) sends) ∷ before)) e h;
  head_is = subst (λ j. head (pipe_at g j (dm_no d) before) ≡ Some (Write (time_at ts) (class_no class) (txn_no n) changes)) e head_is;
  of = subst (λ j. IsApplyOf g before (dm_no d) j n ts) e of;
  at_module = m;
}

pub apply_in : (g : Input) (log : Log) (n class d ts k : ℕ) → IsPermitted g log → IsRecordAt (history log) k (apply_rec n class d ts)
    → IsApplyIn g log n class d ts k
apply_in g log n class d ts k h s =
    let x = data_in g log k (apply_rec n class d ts) (dm_no d) h refl refl (λ e p. sym p) s in
    let w = apply_of_head g x.before (dm_no d) x.class (txn_no n) (class_no class) (dm_no d) (time_at ts) x.sends x.permitted in
    let f = apply_follows g x.before (dm_no d) x.class (txn_no n) (class_no class) (dm_no d) (time_at ts) x.sends x.permitted in
    let put = head_put g x.class (dm_no d) x.before (Write (time_at ts) (class_no class) (txn_no n) w.0) x.permitted.1 w.1 in
    apply_as g log n class d ts k x.class x.later x.sends x.before w.0 (sym f.0) x.is x.place_is x.permitted w.1 f.1
    (put_module g x.class (dm_no d) x.before (time_at ts) (class_no class) (txn_no n) w.0 put)

abbrev pub apply_made : (g : Input) (log : Log) (n class d ts k : ℕ) → IsApplyIn g log n class d ts k → IsMadeAt log k (apply_rec n class d ts)
apply_made g log n class d ts k x =
    record { later = x.later; entry = Does (D (dm_no d)) (Records class (apply_rec n class d ts) x.sends); before = x.before; is = x.is; makes = refl; place_is = x.place_is }

-- the records that processed messages are acts

pub record HasResult (c : ℕ) (log : SiteLog) (r : Rec) : Type 0 where
  pub later : SiteLog
  pub sends : List (Site × Msg)
  pub before : SiteLog
  pub is : log ≡ later ++ Did (Records c r sends) ∷ before

result_past : (c : ℕ) (e : site.Entry) (log : SiteLog) (r : Rec) → HasResult c log r → HasResult c (e ∷ log) r
result_past c e log r h = record { later = e ∷ h.later; sends = h.sends; before = h.before; is = ap (λ l. e ∷ l) h.is }

pub result_in : (c : ℕ) (log : SiteLog) (i : ℕ) (r : Rec) → slice_get (results c log) i ≡ Some r → HasResult c log r
result_in c [] i r e = cc
result_in c (Did (Records k q sends) ∷ log) i r e = elim (true_or_false ((k == c) && is_processing q)) [
  | inl p ↦ elim (in_either (results c log) (q ∷ []) i r (rw p at e)) [
    | inl j ↦ result_past c (Did (Records k q sends)) log r (result_in c log i r j)
    | inr j ↦ (let x : q ≡ r = in_one (q ∷ []) q j.0 r refl j.1 in
        let y : k ≡ c = eqb-true k c (and_left (k == c) (is_processing q) p) in
        record { later = []; sends = sends; before = log; is = ap (λ z. Did (Records k z sends) ∷ log) x ∙ ap (λ z. Did (Records z r sends) ∷ log) y })
  ]
  | inr p ↦ result_past c (Did (Records k q sends)) log r (result_in c log i r (rw p at e))
]
result_in c (x ∷ log) i r e = result_past c x log r (result_in c log i r e)

pub result_of : (c : ℕ) (later before : SiteLog) (r : Rec) (sends : List (Site × Msg)) → is_processing r ≡ true
    → (i : ℕ) × (slice_get (results c (later ++ Did (Records c r sends) ∷ before)) i ≡ Some r)
result_of c [] before r sends p = (length (results c before), rw (same_number c, p) (at_seam (results c before) [] r))
result_of c (Did (Records k q ss) ∷ later) before r sends p = grind (arith, in_left, (result_of c later before r sends p))
result_of c (_ ∷ later) before r sends p = result_of c later before r sends p

-- what a module has applied stands in the history before

applied_rec : (g : Input) (full : Log) (front log : Log) (d : DmNo) (c n : ℕ) (ts : Ts) (r : Rec) → full ≡ front ++ log → IsPermitted g log
    → IsOfWrite ts c n r → HasResult c (local_of g (D d) log) r → AppliedBefore (history full) n d.0 (length (history log))
applied_rec g full front log d c n ts (Apply t j dm w) is h of x =
    let act : Act = Records c (Apply t j dm w) x.sends in
    let p = place_of_act g (D d) log x.later act x.before x.is in
    let same : dm ≡ d = act_kind g (D d) act p.rest (permitted_before g p.later (Does (D d) act ∷ p.rest) (subst (IsPermitted g) p.is h)) in
    let whole : full ≡ (front ++ p.later) ++ Does (D d) act ∷ p.rest = is ∙ ap (λ l. front ++ l) p.is
    ∙ sym (append_assoc front p.later (Does (D d) act ∷ p.rest)) in
    let there : IsRecordAt (history full) (length (history p.rest)) (Apply t j dm w) = subst (λ l. IsRecordAt (history l) (length (history p.rest)) (Apply t j dm w))
    (sym whole) (recorded_there (front ++ p.later) (Does (D d) act) p.rest (Apply t j dm w) refl) in
    let at_d : IsRecordAt (history full) (length (history p.rest)) (Apply t j d w) = subst
    (λ y. IsRecordAt (history full) (length (history p.rest)) (Apply t j y w)) same there in
    let size : length (history log) ≡ length (history (p.later ++ Does (D d) act ∷ p.rest)) = ap (λ l. length (history l)) p.is in
    record {
      place = length (history p.rest);
      applied = record { class = j.0; ts = w.0; is_recorded = subst (λ y. IsRecordAt (history full) (length (history p.rest)) (Apply (txn_no y) j d w)) of.0 at_d };
      before = omega (arith, place_rises p.later (Does (D d) act) p.rest (Apply t j dm w) refl);
    }
applied_rec g full front log d c n ts r is h of x = absurd of

pub applied_before : (g : Input) (full front log : Log) (d : DmNo) (c : ℕ) (a : Running) → full ≡ front ++ log → IsPermitted g full
    → IsApplied g log d c a → AppliedBefore (history full) a.txn d.0 (length (history log))
applied_before g full front log d c a is h x = grind (arith, applied_rec, permitted_before, result_in)

-- and the other way round

pub applied_there : (g : Input) (log later before : Log) (d : ℕ) (class : ℕ) (a : Running) (sends : List (Site × Msg))
    → log ≡ later ++ Does (D (dm_no d)) (Records class (apply_rec a.txn class d a.ts) sends) ∷ before → IsApplied g log (dm_no d) class a
applied_there g log later before d class a sends is =
    let m = act_local g (D (dm_no d)) (Records class (apply_rec a.txn class d a.ts) sends) later before in
    let i = result_of class m.0 (local_of g (D (dm_no d)) before) (apply_rec a.txn class d a.ts) sends refl in
    record {
      place = i.0;
      rec = apply_rec a.txn class d a.ts;
      there = subst (λ l. slice_get (results class l) i.0 ≡ Some (apply_rec a.txn class d a.ts)) (sym (ap (local_of g (D (dm_no d))) is ∙ m.1)) i.1;
      is = (refl, refl, refl);
    }
