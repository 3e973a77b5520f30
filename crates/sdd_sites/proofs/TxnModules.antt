-- A transaction module among all, whether it takes part or not.
use Rattle.sdd_sites.proofs.All.{At, Bases, Bool, D, Err, FitsSite, IfOk, IsTrue, Kept, List, LivesD, LivesT, LivesU, NoMemory, Ok, Outcome, Representation, RepresentsAt, Result, Setting, Site, Submission, Submits, T, TmNo, Txn, TxnNo, U, [], arith, eq-eqb, false, fits_submit, get-set_same, get_or, refl, represents_queues, same_site, slice_get, slice_set, subst, sym, true, ℕ, ◌-◌, ◌==◌, ◌∙◌, ◌∷◌, ◌≡◌, ◌≢◌, ◌≤◌}
use Rattle.sdd_sites.proofs.ByTable.{does_by, there_at}
use Rattle.sdd_needs.specs.site_module.SiteLog.{Does}
use Rattle.sdd_needs.specs.site_module.SiteLog as site
use Rattle.sdd_needs.specs.tm.Due as tm_due
use Rattle.sdd_needs.specs.tm.Fits as tm_fits
use Rattle.sdd_tm.specs.Represents as tm
use Rattle.sdd_dm.specs.State as dm_state
use Rattle.sdd_needs.specs.tm.State as tm_state
use Rattle.sdd_needs.specs.umod.State as um_state

-- an element of a list is read, and written anew

pub read_at : {V : Type 0} (represents : Representation V) (xs : List V) (k : ℕ) (x : V) (setting : Setting) (log : site.Log) → x ≡ get_or xs k x
    → At represents (slice_get xs k) setting log → represents x setting log
read_at represents xs k x setting log e h = subst (λ o. At represents o setting log) (there_at represents xs k x setting log e h) h

pub written_at : {V : Type 0} (old new : Representation V) (xs : List V) (k : ℕ) (x y : V) (setting : Setting) (log more : site.Log) → x ≡ get_or xs k x
    → At old (slice_get xs k) setting log → new y setting more → At new (slice_get (slice_set xs k y) k) setting more
written_at old new xs k x y setting log more e h n =
    subst (λ o. At new o setting more) (sym (get-set_same xs k x y (there_at old xs k x setting log e h))) n

-- what a transaction module represents, whether it takes part or not

pub queues : (part : Bool) (v : Kept tm_state.State) (setting : Setting) (log : site.Log) → LivesT part v setting log → tm.Queues v setting log
queues true v setting log h = represents_queues v setting log h.represents_log
queues false v setting log h = h.represents_log

pub is_live : (part : Bool) (v : Kept tm_state.State) (setting : Setting) (log : site.Log) → LivesT part v setting log → IsTrue v.live
is_live true v setting log h = h.live
is_live false v setting log h = h.live

-- a call that keeps both keeps either
pub keeps_both : (part : Bool) (v w : Kept tm_state.State) (setting : Setting) (log more : site.Log) → IsTrue w.live
    → (tm.Represents v setting log → tm.Represents w setting more) → (tm.Queues v setting log → tm.Queues w setting more)
    → LivesT part v setting log → LivesT part w setting more
keeps_both true v w setting log more live f h k = record { live = live; represents_log = f k.represents_log }
keeps_both false v w setting log more live f h k = record { live = live; represents_log = h k.represents_log }

-- the calls of a module that is down, and of one that came up, said of its place in a list

module _ (xs : List (Kept tm_state.State)) (k : ℕ) (v w : Kept tm_state.State) (res : Result Outcome NoMemory) (is : v ≡ get_or xs k v) where
  abbrev pub QueuesTxn : TxnNo → Txn → Outcome → Type 0
  QueuesTxn n txn o =
      (setting : Setting) (bases : Bases) (log : site.Log) → tm.Queues v setting log → tm_fits.FitsSubmit setting bases log n.0 txn
      → (o.recs ≡ Submission n ∷ []) × (o.out ≡ []) × tm.Queues w setting (Submits n.0 txn ∷ log)

  abbrev pub QueuesThere : TxnNo → Txn → Outcome → Type 0
  QueuesThere n txn o =
      (setting : Setting) (bases : Bases) (log : site.Log) → At (LivesT false) (slice_get xs k) setting log → tm_fits.FitsSubmit setting bases log n.0 txn
      → (o.recs ≡ Submission n ∷ []) × (o.out ≡ []) × At (LivesT false) (slice_get (slice_set xs k w) k) setting (Submits n.0 txn ∷ log)

  queued_so : (n : TxnNo) (txn : Txn) (o : Outcome) → QueuesTxn n txn o → IsTrue w.live → QueuesThere n txn o
  queued_so n txn o law live = λ setting bases log h f.
      let d = law setting bases log (read_at (LivesT false) xs k v setting log is h).represents_log f in
      (d.0, d.1, written_at (LivesT false) (LivesT false) xs k v w setting log (Submits n.0 txn ∷ log) is h (record { live = live; represents_log = d.2 }))

  pub queued_in : (n : TxnNo) (txn : Txn) → IfOk res (QueuesTxn n txn) → IfOk res (λ o. IsTrue w.live) → IfOk res (QueuesThere n txn)
  queued_in n txn law live = by res law live
    where
      by : (r : Result Outcome NoMemory) → IfOk r (QueuesTxn n txn) → IfOk r (λ o. IsTrue w.live) → IfOk r (QueuesThere n txn)
      by (Ok o) law live = queued_so n txn o law live
      by (Err e) law live = tt

  abbrev pub Resumes : Outcome → Type 0
  Resumes o = (setting : Setting) (bases : Bases) (log : site.Log) → tm.Queues v setting log → FitsSite setting bases log
      → Does (tm_due.next setting bases) log o.recs o.out (tm.Represents w setting)

  abbrev pub ResumesThere : Outcome → Type 0
  ResumesThere o = (setting : Setting) (bases : Bases) (log : site.Log) → At (LivesT false) (slice_get xs k) setting log → FitsSite setting bases log
      → Does (tm_due.next setting bases) log o.recs o.out (At (LivesT true) (slice_get (slice_set xs k w) k) setting)

  resumed_so : (o : Outcome) → Resumes o → IsTrue w.live → ResumesThere o
  resumed_so o law live = λ setting bases log h f.
      does_by (tm_due.next setting bases) (tm_due.next setting bases) (λ l. refl) log o.recs o.out (tm.Represents w setting)
      (At (LivesT true) (slice_get (slice_set xs k w) k) setting)
      (λ more x. written_at (LivesT false) (LivesT true) xs k v w setting log more is h (record { live = live; represents_log = x }))
      (law setting bases log (read_at (LivesT false) xs k v setting log is h).represents_log f)

  pub resumed_in : IfOk res Resumes → IfOk res (λ o. IsTrue w.live) → IfOk res ResumesThere
  resumed_in law live = by res law live
    where
      by : (r : Result Outcome NoMemory) → IfOk r Resumes → IfOk r (λ o. IsTrue w.live) → IfOk r ResumesThere
      by (Ok o) law live = resumed_so o law live
      by (Err e) law live = tt

-- and of its number

pub queued_at : (u : Kept um_state.State) (tms tms2 : List (Kept tm_state.State)) (dms : List (Kept dm_state.State)) (at : Site)
    (n : TmNo) (number : TxnNo) (txn : Txn) (res : Result Outcome NoMemory) → at ≡ T n
    → IfOk res (λ o. (setting : Setting) (bases : Bases) (log : site.Log) → At (LivesT false) (slice_get tms (n.0 - 1)) setting log
    → tm_fits.FitsSubmit setting bases log number.0 txn
    → (o.recs ≡ Submission number ∷ []) × (o.out ≡ []) × At (LivesT false) (slice_get tms2 (n.0 - 1)) setting (Submits number.0 txn ∷ log))
    → IfOk res (λ o. (setting : Setting) (bases : Bases) (log : site.Log) → RepresentsAt LivesU (LivesT false) LivesD u tms dms at setting log
    → fits_submit at setting bases log number.0 txn
    → (o.recs ≡ Submission number ∷ []) × (o.out ≡ []) × RepresentsAt LivesU (LivesT false) LivesD u tms2 dms at setting (Submits number.0 txn ∷ log))
queued_at u tms tms2 dms at n number txn (Ok o) e law = λ setting bases log.
    subst (λ z. RepresentsAt LivesU (LivesT false) LivesD u tms dms z setting log → fits_submit z setting bases log number.0 txn
    → (o.recs ≡ Submission number ∷ []) × (o.out ≡ []) × RepresentsAt LivesU (LivesT false) LivesD u tms2 dms z setting (Submits number.0 txn ∷ log)) (sym e)
    (λ h f. (let d = law setting bases log h.1 f in (d.0, d.1, (h.0, d.2))))
queued_at u tms tms2 dms at n number txn (Err x) e law = tt

pub resumed_at : (xs : List (Kept tm_state.State)) (n : TmNo) (v w : Kept tm_state.State) (res : Result Outcome NoMemory) (is : v ≡ get_or xs (n.0 - 1) v)
    → IfOk res (Resumes xs (n.0 - 1) v w res is) → IfOk res (λ o. IsTrue w.live)
    → IfOk res (λ o. (setting : Setting) (bases : Bases) (log : site.Log) → (1 ≤ n.0) × At (LivesT false) (slice_get xs (n.0 - 1)) setting log
    → FitsSite setting bases log → Does (tm_due.next setting bases) log o.recs o.out
    (λ more. (1 ≤ n.0) × At (LivesT true) (slice_get (slice_set xs (n.0 - 1) w) (n.0 - 1)) setting more))
resumed_at xs n v w (Ok o) is law live = λ setting bases log h f.
    does_by (tm_due.next setting bases) (tm_due.next setting bases) (λ l. refl) log o.recs o.out
    (At (LivesT true) (slice_get (slice_set xs (n.0 - 1) w) (n.0 - 1)) setting)
    (λ more. (1 ≤ n.0) × At (LivesT true) (slice_get (slice_set xs (n.0 - 1) w) (n.0 - 1)) setting more) (λ more x. (h.0, x))
    (resumed_so xs (n.0 - 1) v w (Ok o) is o law live setting bases log h.1 f)
resumed_at xs n v w (Err e) is law live = tt

-- what a call at one site leaves

apart : (k n : ℕ) → 1 ≤ k → 1 ≤ n → (k == n) ≡ false → k - 1 ≢ n - 1
apart k n low first e = λ p. (let same : k ≡ n = omega (arith, p, low, first) in
    let yes : (k == n) ≡ true = eq-eqb k n same in let no : true ≡ false = sym yes ∙ e in cc)

pub t_stays : (u : Kept um_state.State) (tms tms2 : List (Kept tm_state.State)) (dms : List (Kept dm_state.State)) (n : TmNo) → 1 ≤ n.0
    → ((k : ℕ) → k ≢ n.0 - 1 → slice_get tms2 k ≡ slice_get tms k)
    → (b : Site) (part : Bool) (setting : Setting) (log : site.Log) → same_site b (T n) ≡ false
    → RepresentsAt LivesU (LivesT part) LivesD u tms dms b setting log → RepresentsAt LivesU (LivesT part) LivesD u tms2 dms b setting log
t_stays u tms tms2 dms n first t U part setting log e h = h
t_stays u tms tms2 dms n first t (T k) part setting log e h =
    (h.0, subst (λ o. At (LivesT part) o setting log) (sym (t (k.0 - 1) (apart k.0 n.0 h.0 first e))) h.1)
t_stays u tms tms2 dms n first t (D k) part setting log e h = h

pub if_any : {A E : Type 0} (r : Result A E) (P : Type 0) → P → IfOk r (λ o. P)
if_any (Ok o) P h = h
if_any (Err e) P h = tt
