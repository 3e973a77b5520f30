-- Where the READ of an active attempt waits, and for what: what is found by its class and timestamp is the attempt's own.
use Rattle.sdd_run.proofs.All.{AllWithin, Bool, ClassNo, ClassView, Cond, D, Input, IsClass, IsFirstUnmet, IsLawful, IsModule, IsPermitted, IsStuck, List, Log, Msg, None, Option, Read, ReadWaits, Setting, Some, Ts, TxnNo, Use, View, Waiting, [], act_within, active, ap, arith, class_in_view, class_no, cond, conds_of, dm_no, eqb-true, false, find, has_passed_at, head, head_put, head_stuck, home, if◌then◌else◌, is_met, length, list_all, local_of, none_at_data, not, of_attempt, option_map, passed, pipe, read_of, refl, same_number, setting_of, site_due, subst, sym, time_at, true, txn_no, unmet, view_of, wait_at, wait_for, waiting_at, waits, ℕ, ◌==◌, ◌∙◌, ◌∷◌, ◌≡◌, ◌≤◌}
use Rattle.sdd_progress.specs.obligations.All.{Attempt}
use Rattle.sdd_progress.specs.Quiet.{at_home, at_module}

-- the first condition that isn't met

first_unmet : (g : Input) (log : Log) (d n : ℕ) (v : View) (conds : List Cond) (x : Cond)
    → ((y : Cond) → y.class.0 ≤ n → is_met v y ≡ has_passed_at g log d y)
    → AllWithin n conds → find (λ e. not (is_met v e)) conds ≡ Some x → IsFirstUnmet g log d conds x
first_unmet g log d n v [] x same within e = cc
first_unmet g log d n v (y ∷ ys) x same within e =
    elim (is_met v y) as (λ b. is_met v y ≡ b → cond (not b) (Some y) (find (λ z. not (is_met v z)) ys) ≡ Some x → IsFirstUnmet g log d (y ∷ ys) x) [
      | true ↦ λ p q.
          let i = first_unmet g log d n v ys x same within.1 q in
          record {
            before = y ∷ i.before;
            after = i.after;
            conds_are = ap (λ l. y ∷ l) i.conds_are;
            met = (sym (same y within.0.1) ∙ p, i.met);
            unmet = i.unmet;
          }
      | false ↦ λ p q.
          let is : y ≡ x = cc in
          record {
            before = [];
            after = ys;
            conds_are = ap (λ z. z ∷ ys) is;
            met = tt;
            unmet = subst (λ z. has_passed_at g log d z ≡ false) is (sym (same y within.0.1) ∙ p);
          }
    ] refl e

some_unmet : (p : Cond → Bool) (conds : List Cond) → list_all p conds ≡ false → (x : Cond) × (find (λ e. not (p e)) conds ≡ Some x)
some_unmet p [] e = cc
some_unmet p (y ∷ ys) e = elim (p y) as (λ b. p y ≡ b → (x : Cond) × (cond (not b) (Some y) (find (λ z. not (p z)) ys) ≡ Some x)) [
  | true ↦ λ q. some_unmet p ys (rw q at e)
  | false ↦ λ q. (y, refl)
] refl

-- what is asked of the head of a pipe

record IsAskedOf (ts : ℕ) (o : Option Msg) (conds : List Cond) : Type 0 where
  time : Ts
  class : ClassNo
  txn : TxnNo
  attempt : ℕ
  uses : List Use
  is : o ≡ Some (Read time class txn attempt conds uses)
  time_is : time.0 ≡ ts

asked_of_read : (ts : ℕ) (time : Ts) (class : ClassNo) (txn : TxnNo) (attempt : ℕ) (asked : List Cond) (uses : List Use) (conds : List Cond)
    → conds_of ts (Some (Read time class txn attempt asked uses)) ≡ Some conds → IsAskedOf ts (Some (Read time class txn attempt asked uses)) conds
asked_of_read ts time class txn attempt asked uses conds e =
    elim (time.0 == ts) as (λ b. (time.0 == ts) ≡ b → (if b then Some asked else None) ≡ Some conds
    → IsAskedOf ts (Some (Read time class txn attempt asked uses)) conds) [
      | true ↦ λ p q.
          let same : asked ≡ conds = cc in
          record {
            time = time;
            class = class;
            txn = txn;
            attempt = attempt;
            uses = uses;
            is = ap (λ l. Some (Read time class txn attempt l uses)) same;
            time_is = eqb-true time.0 ts p;
          }
      | false ↦ λ p q. cc
    ] refl e

asked_of : (ts : ℕ) (o : Option Msg) (conds : List Cond) → conds_of ts o ≡ Some conds → IsAskedOf ts o conds
asked_of ts (Some (Read time class txn attempt asked uses)) conds e = asked_of_read ts time class txn attempt asked uses conds e
asked_of ts _ conds e = cc

-- a wait that is found is one of the attempt

record IsFound (g : Input) (log : Log) (c ts d : ℕ) (w : Waiting) : Type 0 where
  conds : List Cond
  cond : Cond
  asked : waiting_at c ts (at_module g d log) ≡ Some conds
  first : find (λ e. not (is_met (view_of (setting_of g (D (dm_no d))) (at_module g d log)) e)) conds ≡ Some cond
  is : wait_for d cond ≡ w

found_with : (g : Input) (log : Log) (c ts d : ℕ) (w : Waiting) (o : Option (List Cond)) → waiting_at c ts (at_module g d log) ≡ o
    → option_map (wait_for d) (unmet (setting_of g (D (dm_no d))) (at_module g d log) o) ≡ Some w → IsFound g log c ts d w
found_with g log c ts d w None p e = cc
found_with g log c ts d w (Some conds) p e =
    let f : Option Cond = find (λ x. not (is_met (view_of (setting_of g (D (dm_no d))) (at_module g d log)) x)) conds in
    elim f as (λ o. f ≡ o → option_map (wait_for d) o ≡ Some w → IsFound g log c ts d w) [
      | None ↦ λ q h. cc
      | Some x ↦ λ q h. (let same : wait_for d x ≡ w = cc in record { conds = conds; cond = x; asked = p; first = q; is = same })
    ] refl e

found : (g : Input) (log : Log) (c ts d : ℕ) (w : Waiting) → wait_at g log c ts d ≡ Some w → IsFound g log c ts d w
found g log c ts d w e = found_with g log c ts d w (waiting_at c ts (at_module g d log)) refl e

pub at_own_module : (g : Input) (log : Log) (c ts d : ℕ) (w : Waiting) → wait_at g log c ts d ≡ Some w → w.dm.0 ≡ d
at_own_module g log c ts d w e = ap (λ (z : Waiting). z.dm.0) (sym (found g log c ts d w e).is)

record HasWait (g : Input) (log : Log) (c ts d : ℕ) (conds : List Cond) : Type 0 where
  waiting : waits c (at_module g d log) ≡ true
  asked : conds_of ts (head (pipe c (at_module g d log))) ≡ Some conds

has_wait : (g : Input) (log : Log) (c ts d : ℕ) (conds : List Cond) → waiting_at c ts (at_module g d log) ≡ Some conds → HasWait g log c ts d conds
has_wait g log c ts d conds e =
    elim (waits c (at_module g d log)) as (λ b. waits c (at_module g d log) ≡ b
    → (if b then conds_of ts (head (pipe c (at_module g d log))) else None) ≡ Some conds → HasWait g log c ts d conds) [
      | true ↦ λ p q. record { waiting = p; asked = q }
      | false ↦ λ p q. cc
    ] refl e

module _ (g : Input) (log : Log) (permitted : IsPermitted g log) (c : ℕ) (a : Attempt)
    (active_is : active (setting_of g (home g.catalogue c)) c (at_home g c log) ≡ Some a) where
  -- the conditions of a READ at the head of a pipe are on classes of the catalogue
  conds_within : (d : ℕ) (ts : Ts) (of : ClassNo) (txn : TxnNo) (attempt : ℕ) (conds : List Cond) (uses : List Use)
      → head (pipe c (at_module g d log)) ≡ Some (Read ts of txn attempt conds uses) → AllWithin (length g.catalogue.classes) conds
  conds_within d ts of txn attempt conds uses e =
      let at = home g.catalogue c in
      let p = head_put g c (dm_no d) log (Read ts of txn attempt conds uses) permitted e in
      act_within (setting_of g at) (D (dm_no d)) (local_of g at p.before) p.act p.place ts of txn attempt conds uses p.by p.there

  passed_in_view : (d : ℕ) (y : Cond) → y.class.0 ≤ length g.catalogue.classes
      → is_met (view_of (setting_of g (D (dm_no d))) (at_module g d log)) y ≡ has_passed_at g log d y
  passed_in_view d y l =
      ap (λ (k : ClassView). passed k.pipe y.time.0) (class_in_view (setting_of g (D (dm_no d))) (at_module g d log) y.class.0 (omega (arith, l)))

  -- a READ with its timestamp that waits is its READ
  own_read : (d : ℕ) (conds : List Cond) → HasWait g log c a.ts d conds → ReadWaits g log c a d conds
  own_read d conds h =
      let r = asked_of a.ts (head (pipe c (at_module g d log))) conds h.asked in
      let o = read_of g c (dm_no d) log r.time r.class r.txn r.attempt conds r.uses permitted r.is in
      let own = of_attempt g c log [] log a r.txn.0 r.attempt r.time.0 permitted active_is refl o.1 r.time_is in
      let class_is = o.0 in
      let time_is = r.time_is in
      let txn_is = own.0 in
      let attempt_is = own.1 in
      let uses = r.uses in
      record {
        uses = uses;
        head_is = r.is ∙ (λ i. Some (Read (time_at (time_is i)) (class_no (class_is i)) (txn_no (txn_is i)) (attempt_is i) conds uses));
        has_wait = h.waiting;
      }

  pub record IsItsWait (d : ℕ) (w : Waiting) : Type 0 where
    pub conds : List Cond
    pub read : ReadWaits g log c a d conds
    pub cond : Cond
    pub first : IsFirstUnmet g log d conds cond
    pub is : wait_for d cond ≡ w

  pub its_wait : (d : ℕ) (w : Waiting) → wait_at g log c a.ts d ≡ Some w → IsItsWait d w
  its_wait d w e =
      let f = found g log c a.ts d w e in
      let h = has_wait g log c a.ts d f.conds f.asked in
      let r = own_read d f.conds h in
      record {
        conds = f.conds;
        read = r;
        cond = f.cond;
        first = first_unmet g log d (length g.catalogue.classes) (view_of (setting_of g (D (dm_no d))) (at_module g d log)) f.conds f.cond
            (passed_in_view d) (conds_within d _ _ _ _ f.conds r.uses r.head_is) f.first;
        is = f.is;
      }

  -- a READ of it that waits is found, where nothing is due: else it would be answered
  pub waits_not : (d : ℕ) (conds : List Cond) → IsClass g.catalogue c → IsModule g.catalogue d → IsLawful g log → site_due g log ≡ None
      → wait_at g log c a.ts d ≡ None → ReadWaits g log c a d conds → ⊥
  waits_not d conds class module_is lawful idle none r =
      let s : Setting = setting_of g (D (dm_no d)) in
      let l = at_module g d log in
      let stuck : IsStuck s l c (head (pipe c l)) =
      head_stuck s l c (omega (arith, class)) (none_at_data g log (dm_no d) module_is.0 module_is.1 lawful idle) in
      let lacks : list_all (is_met (view_of s l)) conds ≡ false = (subst (IsStuck s l c) r.head_is stuck).1 in
      let x = some_unmet (is_met (view_of s l)) conds lacks in
      let asked : waiting_at c a.ts l ≡ Some conds =
      ap (λ b. if b then conds_of a.ts (head (pipe c l)) else None) r.has_wait
      ∙ ap (conds_of a.ts) r.head_is ∙ ap (λ b. if b then Some conds else None) (same_number a.ts) in
      let there : wait_at g log c a.ts d ≡ Some (wait_for d x.0) =
      ap (λ o. option_map (wait_for d) (unmet s l o)) asked ∙ ap (option_map (wait_for d)) x.1 in
      let both : None ≡ Some (wait_for d x.0) = sym none ∙ there in
      cc
