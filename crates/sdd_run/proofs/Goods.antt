-- What is given by a valid workload is what the modules' facts ask for, with each part of its schedule.
use Rattle.sdd_progress.proofs.obligations.AllObligations.{all_obligations}
use Rattle.sdd_run.proofs.All.{All, All-at, All-cons, All-head, All-nil, All-tail, All-weaker, AllFewTicks, AreTables, Catalogue, Entry, Event, FitsInput, FitsStart, HoldsValues, IsDatabase, IsGood, IsHeld, IsSoundCatalogue, IsValid, IsValidEvent, IsValidRow, IsValidTxn, IsValue, List, MAX_TICKS, PutsHeld, RelNo, Row, Stmt, Value, Workload, [], arith, both as and_both, database_of, first_input, get_or as slice_index_or, inl, inr, le-leb, length, map, nat_le, no_database, numbers_to, refl, rows_make_database, subst, suc, sym, ticks_of, whole_in, zero, ℕ, ◌++◌, ◌-◌, ◌∷◌, ◌≡◌, ◌≤◌, ◌⊎◌}
use Rattle.sdd_run.proofs.Allowed.{IsGoodAlong}
use Rattle.sdd_run.proofs.ErasWithTables.{has_eras}
use Rattle.sdd_run.proofs.Submissions.{once, once_before}
use Rattle.sdd_run.proofs.Whole.{events_valid, rows_valid, txns_valid}
use Rattle.sdd_progress.specs.obligations.base.declared.value.Value.TheVariants as values

-- values are numbers of 64 bits, or texts
pub held : (v : Value) → IsValue v → IsHeld v
held v h = grind (arith, le-leb, and_both, nat_le)

pub puts_held : (s : Stmt) → HoldsValues s → PutsHeld s
puts_held s h = grind (arith, held)

-- the rows with which a data module begins: those of the workload, or none where there is no such module
one_of_all : (r : List (RelNo × Row)) (dms : List ℕ) (k : ℕ) → (slice_index_or (map (λ d. r) dms) k [] ≡ r) ⊎ (slice_index_or (map (λ d. r) dms) k [] ≡ [])
one_of_all r [] k = inr refl
one_of_all r (d ∷ dms) zero = inl refl
one_of_all r (d ∷ dms) (suc k) = one_of_all r dms k

rows_database : (cat : Catalogue) (rows : List (RelNo × Row)) → All (IsValidRow cat) rows → IsDatabase cat (database_of cat rows)
rows_database cat rows valid =
    rows_make_database cat rows (All-weaker (IsValidRow cat) (FitsStart cat) (λ r v. v.fits) rows valid)
    (All-weaker (IsValidRow cat) (λ (r : RelNo × Row). All IsHeld r.1) (λ r v. All-weaker IsValue IsHeld held r.1 v.values) rows valid)

one_tick : (cat : Catalogue) (count : ℕ) (e : Event) → IsValidEvent cat count e → ticks_of e ≤ MAX_TICKS
one_tick cat count e h = grind arith

pub few_ticks : (cat : Catalogue) (count : ℕ) (es : List Event) → All (IsValidEvent cat count) es → AllFewTicks es
few_ticks cat count [] h = tt
few_ticks cat count (e ∷ es) h = (
  one_tick cat count e (All-head (IsValidEvent cat count) e es h),
  few_ticks cat count es (All-tail (IsValidEvent cat count) e es h),
)

fronts : (cat : Catalogue) (count : ℕ) (xs ys : List Event) → All (IsValidEvent cat count) (xs ++ ys) → All (IsValidEvent cat count) xs
fronts cat count [] ys h = All-nil (IsValidEvent cat count)
fronts cat count (x ∷ xs) ys h =
    All-cons (IsValidEvent cat count) x xs (All-head (IsValidEvent cat count) x (xs ++ ys) h)
    (fronts cat count xs ys (All-tail (IsValidEvent cat count) x (xs ++ ys) h))

front : (cat : Catalogue) (count : ℕ) (xs ys all : List Event) → xs ++ ys ≡ all → All (IsValidEvent cat count) all → All (IsValidEvent cat count) xs
front cat count xs ys all e h = fronts cat count xs ys (subst (All (IsValidEvent cat count)) (sym e) h)

module _ (cat : Catalogue) (tables : List (List Entry)) (work : Workload) (sound : IsSoundCatalogue (whole_in cat work)) (valid : IsValid cat work) where
  pub fits_given : (es : List Event) → FitsInput (record (first_input cat tables work) { events = es })
  fits_given es = record {
    sound = sound;
    txns = λ n txn e.
        (let v = All-at (IsValidTxn (whole_in cat work)) work.txns (n - 1) txn e (txns_valid cat work valid) in
        record { fits = v.fits; held = All-weaker HoldsValues PutsHeld puts_held txn.statements v.values });
    rows = λ d.
        elim (one_of_all work.rows (numbers_to cat.dms) (d.0 - 1)) [
          | inl e ↦ subst (λ r. IsDatabase (whole_in cat work) (database_of (whole_in cat work) r)) (sym e)
              (rows_database (whole_in cat work) work.rows (rows_valid cat work valid))
          | inr e ↦ subst (λ r. IsDatabase (whole_in cat work) (database_of (whole_in cat work) r)) (sym e) (no_database (whole_in cat work))
        ];
  }

  module _ (tabled : AreTables cat work tables) where
    pub good_along : IsGoodAlong IsGood (first_input cat tables work) work.events
    good_along xs ys e = record {
      given = fits_given xs;
      eras = has_eras cat tables work tabled;
      few_ticks = few_ticks (whole_in cat work) (length work.txns) xs
          (front (whole_in cat work) (length work.txns) xs ys work.events e (events_valid cat work valid));
      once = once_before xs ys work.events e (once work.events valid.submitted);
      needs = all_obligations;
    }

    pub good_begun : IsGood (first_input cat tables work)
    good_begun = good_along [] work.events refl
