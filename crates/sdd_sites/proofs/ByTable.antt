-- What one module's law says of all sites.
use Rattle.sdd_sites.proofs.All.{Act, AreDue, At, Bases, Bool, D, Did, DmNo, Err, Fitting, FittingSubmit, Handed, IfOk, IsTrue, List, Lives, Msg, NoMemory, Ok, Option, Outcome, Rec, Representation, RepresentsAt, Result, Setting, Site, Some, Submission, Submits, T, TmNo, Txn, TxnNo, U, [], ap, fits_at, fits_submit_at, get-set_same, get_or as slice_index_or, log_after, next_of, refl, slice_get, slice_set, subst, suc, sym, zero, ℕ, ◌-◌, ◌∙◌, ◌∷◌, ◌≡◌}
use Rattle.sdd_needs.specs.site_module.SiteLog.{Does}
use Rattle.sdd_needs.specs.site_module.SiteLog as site
use Rattle.sdd_needs.specs.dm.Due as dm
use Rattle.sdd_needs.specs.tm.Due as tm
use Rattle.sdd_needs.specs.umod.Due as um

-- the act that is due next
abbrev pub Table : Type 0
Table = Setting → Bases → site.Log → Option Act

abbrev pub Agree : Table → Table → Type 0
Agree next table = (s : Setting) (bases : Bases) (log : site.Log) → next s bases log ≡ table s bases log

due_by : (f h : site.Log → Option Act) → ((l : site.Log) → f l ≡ h l) → (l : site.Log) (acts : List Act) → AreDue f l acts → AreDue h l acts
due_by f h e l [] d = sym (e l) ∙ d
due_by f h e l (a ∷ acts) d = (sym (e l) ∙ d.0, due_by f h e (Did a ∷ l) acts d.1)

-- a call does the same by a table that agrees, and leaves what follows from what it leaves
pub does_by : (f h : site.Log → Option Act) → ((l : site.Log) → f l ≡ h l) → (l : site.Log) (recs : List Rec) (out : List (Site × Msg))
    (P Q : site.Log → Type 0) → ((k : site.Log) → P k → Q k) → Does f l recs out P → Does h l recs out Q
does_by f h e l recs out P Q g d = record {
  acts = d.acts;
  due = due_by f h e l d.acts d.due;
  records_are = d.records_are;
  sends_are = d.sends_are;
  after = g (log_after d.acts l) d.after;
}

pub if_ok : (res : Result Outcome NoMemory) (P Q : Outcome → Type 0) → ((o : Outcome) → P o → Q o) → IfOk res P → IfOk res Q
if_ok (Ok o) P Q h k = h o k
if_ok (Err e) P Q h k = tt

-- the laws of `take` and `submit`, for whatever represents logs and acts by a table
module _ {V : Type 0} (represents : Representation V) (next : Table) where
  abbrev pub TakesMsg : Fitting → V → V → Site → Msg → Outcome → Type 0
  TakesMsg fits v v2 from msg o =
      (setting : Setting) (bases : Bases) (log : site.Log) → represents v setting log → fits setting bases log from msg
      → Does (next setting bases) (Handed from msg ∷ log) o.recs o.out (represents v2 setting)

  abbrev pub TakesTxn : FittingSubmit → V → V → TxnNo → Txn → Outcome → Type 0
  TakesTxn fits v v2 n txn o =
      (setting : Setting) (bases : Bases) (log : site.Log) → represents v setting log → fits setting bases log n.0 txn
      → (recs : List Rec) × (o.recs ≡ Submission n ∷ recs) × Does (next setting bases) (Submits n.0 txn ∷ log) recs o.out (represents v2 setting)

-- what represents a log in a wider sense does in the narrower, and after a call does again
record Widens {V W : Type 0} (represents : Representation V) (wide : Representation W) (v v2 : V) (w w2 : W) : Type 0 where
  narrow : (setting : Setting) (log : site.Log) → wide w setting log → represents v setting log
  widen : (setting : Setting) (log more : site.Log) → wide w setting log → represents v2 setting more → wide w2 setting more

module _ {V W : Type 0} (represents : Representation V) (wide : Representation W) (next table : Table) (agree : Agree next table) (v v2 : V) (w w2 : W)
    (widens : Widens represents wide v v2 w w2) where
  takes_so : (fits : Fitting) (from : Site) (msg : Msg) (o : Outcome) → TakesMsg represents next fits v v2 from msg o → TakesMsg wide table fits w w2 from msg o
  takes_so fits from msg o law = λ setting bases log s f.
      does_by (next setting bases) (table setting bases) (agree setting bases) (Handed from msg ∷ log) o.recs o.out (represents v2 setting)
      (wide w2 setting) (λ k x. widens.widen setting log k s x) (law setting bases log (widens.narrow setting log s) f)

  given_so : (fits : FittingSubmit) (n : TxnNo) (txn : Txn) (o : Outcome) → TakesTxn represents next fits v v2 n txn o → TakesTxn wide table fits w w2 n txn o
  given_so fits n txn o law = λ setting bases log s f.
      let d = law setting bases log (widens.narrow setting log s) f in (
        d.0,
        d.1,
        does_by (next setting bases) (table setting bases) (agree setting bases) (Submits n.0 txn ∷ log) d.0 o.out (represents v2 setting)
            (wide w2 setting) (λ k x. widens.widen setting log k s x) d.2,
      )

-- a module that is live after the call
module _ {V : Type 0} (is_live : V → Bool) (represents : Representation V) (next : Table) (v v2 : V) where
  lives : IsTrue (is_live v2) → Widens represents (Lives is_live represents) v v2 v v2
  lives live = record { narrow = λ setting log x. x.represents_log; widen = λ setting log more x y. record { live = live; represents_log = y } }

  pub lives_take : (fits : Fitting) (from : Site) (msg : Msg) (res : Result Outcome NoMemory) → IfOk res (TakesMsg represents next fits v v2 from msg)
      → IfOk res (λ o. IsTrue (is_live v2)) → IfOk res (TakesMsg (Lives is_live represents) next fits v v2 from msg)
  lives_take fits from msg (Ok o) law live = takes_so represents (Lives is_live represents) next next (λ s b l. refl) v v2 v v2 (lives live) fits from msg o law
  lives_take fits from msg (Err e) law live = tt

  pub lives_submit : (fits : FittingSubmit) (n : TxnNo) (txn : Txn) (res : Result Outcome NoMemory) → IfOk res (TakesTxn represents next fits v v2 n txn)
      → IfOk res (λ o. IsTrue (is_live v2)) → IfOk res (TakesTxn (Lives is_live represents) next fits v v2 n txn)
  lives_submit fits n txn (Ok o) law live = given_so represents (Lives is_live represents) next next (λ s b l. refl) v v2 v v2 (lives live) fits n txn o law
  lives_submit fits n txn (Err e) law live = tt

-- an element of a list is read, and written anew
pub there_at : {V : Type 0} (represents : Representation V) (xs : List V) (k : ℕ) (x : V) (setting : Setting) (log : site.Log) → x ≡ slice_index_or xs k x
    → At represents (slice_get xs k) setting log → slice_get xs k ≡ Some x
there_at represents [] k x setting log e h = absurd h
there_at represents (y ∷ xs) zero x setting log e h = ap Some (sym e)
there_at represents (y ∷ xs) (suc k) x setting log e h = there_at represents xs k x setting log e h

pub taken_in : {V : Type 0} (is_live : V → Bool) (represents : Representation V) (next : Table) (xs : List V) (k : ℕ) (v v2 : V)
    (fits : Fitting) (from : Site) (msg : Msg) (res : Result Outcome NoMemory) → v ≡ slice_index_or xs k v
    → IfOk res (TakesMsg represents next fits v v2 from msg) → IfOk res (λ o. IsTrue (is_live v2))
    → IfOk res (TakesMsg (At (Lives is_live represents)) next fits (slice_get xs k) (slice_get (slice_set xs k v2) k) from msg)
taken_in is_live represents next xs k v v2 fits from msg (Ok o) e law live = λ setting bases log s f.
    let there = there_at (Lives is_live represents) xs k v setting log e s in
    let here : Lives is_live represents v setting log = subst (λ x. At (Lives is_live represents) x setting log) there s in
    does_by (next setting bases) (next setting bases) (λ l. refl) (Handed from msg ∷ log) o.recs o.out (represents v2 setting)
    (At (Lives is_live represents) (slice_get (slice_set xs k v2) k) setting)
    (λ more x. let l : Lives is_live represents v2 setting more = record { live = live; represents_log = x } in
    subst (λ y. At (Lives is_live represents) y setting more) (sym (get-set_same xs k v v2 there)) l)
    (law setting bases log here.represents_log f)
taken_in is_live represents next xs k v v2 fits from msg (Err e) is law live = tt

pub submitted_in : {V : Type 0} (is_live : V → Bool) (represents : Representation V) (next : Table) (xs : List V) (k : ℕ) (v v2 : V)
    (fits : FittingSubmit) (n : TxnNo) (txn : Txn) (res : Result Outcome NoMemory) → v ≡ slice_index_or xs k v
    → IfOk res (TakesTxn represents next fits v v2 n txn) → IfOk res (λ o. IsTrue (is_live v2))
    → IfOk res (TakesTxn (At (Lives is_live represents)) next fits (slice_get xs k) (slice_get (slice_set xs k v2) k) n txn)
submitted_in is_live represents next xs k v v2 fits n txn (Ok o) e law live = λ setting bases log s f.
    let there = there_at (Lives is_live represents) xs k v setting log e s in
    let here : Lives is_live represents v setting log = subst (λ x. At (Lives is_live represents) x setting log) there s in
    let d = law setting bases log here.represents_log f in (
      d.0,
      d.1,
      does_by (next setting bases) (next setting bases) (λ l. refl) (Submits n.0 txn ∷ log) d.0 o.out (represents v2 setting)
          (At (Lives is_live represents) (slice_get (slice_set xs k v2) k) setting)
          (λ more x. let l : Lives is_live represents v2 setting more = record { live = live; represents_log = x } in
          subst (λ y. At (Lives is_live represents) y setting more) (sym (get-set_same xs k v v2 there)) l) d.2,
    )
submitted_in is_live represents next xs k v v2 fits n txn (Err e) is law live = tt

-- the modules of all sites, where that of one site makes the call
module _ {A B C : Type 0} (p : Representation A) (q : Representation B) (r : Representation C) where
  abbrev pub AllAt : Site → Representation (A × List B × List C)
  AllAt at m setting log = RepresentsAt p q r m.0 m.1 m.2 at setting log

  at_u : (u u2 : A) (tms : List B) (dms : List C) → Widens p (AllAt U) u u2 (u, tms, dms) (u2, tms, dms)
  at_u u u2 tms dms = record { narrow = λ setting log x. x; widen = λ setting log more x y. y }

  at_t : (n : TmNo) (u : A) (tms tms2 : List B) (dms : List C)
      → Widens (At q) (AllAt (T n)) (slice_get tms (n.0 - 1)) (slice_get tms2 (n.0 - 1)) (u, tms, dms) (u, tms2, dms)
  at_t n u tms tms2 dms = record { narrow = λ setting log x. x.1; widen = λ setting log more x y. (x.0, y) }

  at_d : (n : DmNo) (u : A) (tms : List B) (dms dms2 : List C)
      → Widens (At r) (AllAt (D n)) (slice_get dms (n.0 - 1)) (slice_get dms2 (n.0 - 1)) (u, tms, dms) (u, tms, dms2)
  at_d n u tms dms dms2 = record { narrow = λ setting log x. x.1; widen = λ setting log more x y. (x.0, y) }

  module _ (fu ft fd : Fitting) (from : Site) (msg : Msg) (res : Result Outcome NoMemory) where
    abbrev pub TakenAt : A × List B × List C → A × List B × List C → Site → Type 0
    TakenAt m m2 at = IfOk res (TakesMsg (AllAt at) (next_of at) (fits_at fu ft fd at) m m2 from msg)

    pub take_u : (next : Table) (u u2 : A) (tms : List B) (dms : List C) (at : Site) → at ≡ U → Agree next um.next
        → IfOk res (TakesMsg p next fu u u2 from msg) → TakenAt (u, tms, dms) (u2, tms, dms) at
    take_u next u u2 tms dms at e agree law =
        subst (TakenAt (u, tms, dms) (u2, tms, dms)) (sym e)
        (if_ok res (TakesMsg p next fu u u2 from msg) (TakesMsg (AllAt U) um.next fu (u, tms, dms) (u2, tms, dms) from msg)
        (takes_so p (AllAt U) next um.next agree u u2 (u, tms, dms) (u2, tms, dms) (at_u u u2 tms dms) fu from msg) law)

    pub take_t : (next : Table) (u : A) (tms tms2 : List B) (dms : List C) (at : Site) (n : TmNo) → at ≡ T n → Agree next tm.next
        → IfOk res (TakesMsg (At q) next ft (slice_get tms (n.0 - 1)) (slice_get tms2 (n.0 - 1)) from msg) → TakenAt (u, tms, dms) (u, tms2, dms) at
    take_t next u tms tms2 dms at n e agree law =
        let here = slice_get tms (n.0 - 1) in
        let after = slice_get tms2 (n.0 - 1) in
        subst (TakenAt (u, tms, dms) (u, tms2, dms)) (sym e)
        (if_ok res (TakesMsg (At q) next ft here after from msg) (TakesMsg (AllAt (T n)) tm.next ft (u, tms, dms) (u, tms2, dms) from msg)
        (takes_so (At q) (AllAt (T n)) next tm.next agree here after (u, tms, dms) (u, tms2, dms) (at_t n u tms tms2 dms) ft from msg) law)

    pub take_d : (next : Table) (u : A) (tms : List B) (dms dms2 : List C) (at : Site) (n : DmNo) → at ≡ D n → Agree next dm.next
        → IfOk res (TakesMsg (At r) next fd (slice_get dms (n.0 - 1)) (slice_get dms2 (n.0 - 1)) from msg) → TakenAt (u, tms, dms) (u, tms, dms2) at
    take_d next u tms dms dms2 at n e agree law =
        let here = slice_get dms (n.0 - 1) in
        let after = slice_get dms2 (n.0 - 1) in
        subst (TakenAt (u, tms, dms) (u, tms, dms2)) (sym e)
        (if_ok res (TakesMsg (At r) next fd here after from msg) (TakesMsg (AllAt (D n)) dm.next fd (u, tms, dms) (u, tms, dms2) from msg)
        (takes_so (At r) (AllAt (D n)) next dm.next agree here after (u, tms, dms) (u, tms, dms2) (at_d n u tms dms dms2) fd from msg) law)

  module _ (fu ft : FittingSubmit) (n : TxnNo) (txn : Txn) (res : Result Outcome NoMemory) where
    abbrev pub GivenAt : A × List B × List C → A × List B × List C → Site → Type 0
    GivenAt m m2 at = IfOk res (TakesTxn (AllAt at) (next_of at) (fits_submit_at fu ft at) m m2 n txn)

    pub submit_u : (next : Table) (u u2 : A) (tms : List B) (dms : List C) (at : Site) → at ≡ U → Agree next um.next
        → IfOk res (TakesTxn p next fu u u2 n txn) → GivenAt (u, tms, dms) (u2, tms, dms) at
    submit_u next u u2 tms dms at e agree law =
        subst (GivenAt (u, tms, dms) (u2, tms, dms)) (sym e)
        (if_ok res (TakesTxn p next fu u u2 n txn) (TakesTxn (AllAt U) um.next fu (u, tms, dms) (u2, tms, dms) n txn)
        (given_so p (AllAt U) next um.next agree u u2 (u, tms, dms) (u2, tms, dms) (at_u u u2 tms dms) fu n txn) law)

    pub submit_t : (next : Table) (u : A) (tms tms2 : List B) (dms : List C) (at : Site) (t : TmNo) → at ≡ T t → Agree next tm.next
        → IfOk res (TakesTxn (At q) next ft (slice_get tms (t.0 - 1)) (slice_get tms2 (t.0 - 1)) n txn) → GivenAt (u, tms, dms) (u, tms2, dms) at
    submit_t next u tms tms2 dms at t e agree law =
        let here = slice_get tms (t.0 - 1) in
        let after = slice_get tms2 (t.0 - 1) in
        subst (GivenAt (u, tms, dms) (u, tms2, dms)) (sym e)
        (if_ok res (TakesTxn (At q) next ft here after n txn) (TakesTxn (AllAt (T t)) tm.next ft (u, tms, dms) (u, tms2, dms) n txn)
        (given_so (At q) (AllAt (T t)) next tm.next agree here after (u, tms, dms) (u, tms2, dms) (at_t t u tms tms2 dms) ft n txn) law)
