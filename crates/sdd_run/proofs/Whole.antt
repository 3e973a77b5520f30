-- The catalogue with the classes of all lists of a workload differs from the catalogue in its classes alone. So what fits
-- the catalogue fits the whole one.
use Rattle.sdd_run.proofs.All.{All, All-weaker, Assign, Catalogue, Class, Condition, FitsAssign, FitsCondition, FitsStart, FitsStatement, IsSite, IsValid, IsValidEvent, IsValidRow, IsValidTxn, List, RelNo, Row, Site, Stmt, Txn, U, Workload, [], ap, arith, classes_in, extended, length, refl, subst, sym, whole, whole_in, ℕ, ◌∷◌, ◌≡◌}

-- other classes
abbrev pub with_classes : Catalogue → List Class → Catalogue
with_classes cat classes = record cat { classes = classes }

whole_is : (cat : Catalogue) (lists : List (List Class)) → whole cat lists ≡ with_classes cat (whole cat lists).classes
whole_is cat [] = refl
whole_is cat (classes ∷ lists) = whole_is (extended classes cat) lists

-- what speaks of no classes

module _ (cat : Catalogue) (classes : List Class) where
  abbrev other : Catalogue
  other = with_classes cat classes

  cond_fits : (rels : List RelNo) (q : Condition) → FitsCondition cat rels q → FitsCondition other rels q
  cond_fits rels q h = grind arith

  assign_fits : (rel : ℕ) (a : Assign) → FitsAssign cat rel a → FitsAssign other rel a
  assign_fits rel a h = grind arith

  statement_fits : (s : Stmt) → FitsStatement cat s → FitsStatement other s
  statement_fits s h = grind (arith, cond_fits, other, assign_fits)

  valid_txn : (txn : Txn) → IsValidTxn cat txn → IsValidTxn other txn
  valid_txn txn v = record { named = v.named; fits = (grind (arith, other, statement_fits)); values = v.values }

  valid_row : (r : RelNo × Row) → IsValidRow cat r → IsValidRow other r
  valid_row r v = record { fits = v.fits; values = v.values }

  site : (at : Site) → IsSite cat at → IsSite other at
  site U h = h
  site _ h = h

-- of a valid workload

pub same_tms : (cat : Catalogue) (work : Workload) → (whole_in cat work).tms ≡ cat.tms
same_tms cat work = ap (λ (c : Catalogue). c.tms) (whole_is cat (classes_in cat work))

pub same_dms : (cat : Catalogue) (work : Workload) → (whole_in cat work).dms ≡ cat.dms
same_dms cat work = ap (λ (c : Catalogue). c.dms) (whole_is cat (classes_in cat work))

module _ (cat : Catalogue) (work : Workload) (valid : IsValid cat work) where
  -- the whole catalogue is one with other classes
  in_whole : (P : Catalogue → Type 0) → P (with_classes cat (whole_in cat work).classes) → P (whole_in cat work)
  in_whole P h = subst P (sym (whole_is cat (classes_in cat work))) h

  pub rows_valid : All (IsValidRow (whole_in cat work)) work.rows
  rows_valid =
      let classes = (whole_in cat work).classes in
      in_whole (λ c. All (IsValidRow c) work.rows)
      (All-weaker (IsValidRow cat) (IsValidRow (with_classes cat classes)) (valid_row cat classes) work.rows valid.rows)

  pub txns_valid : All (IsValidTxn (whole_in cat work)) work.txns
  txns_valid =
      let classes = (whole_in cat work).classes in
      in_whole (λ c. All (IsValidTxn c) work.txns)
      (All-weaker (IsValidTxn cat) (IsValidTxn (with_classes cat classes)) (valid_txn cat classes) work.txns valid.txns)

  pub events_valid : All (IsValidEvent (whole_in cat work) (length work.txns)) work.events
  events_valid =
      let classes = (whole_in cat work).classes in
      let count = length work.txns in
      in_whole (λ c. All (IsValidEvent c count) work.events)
      (All-weaker (IsValidEvent cat count) (IsValidEvent (with_classes cat classes) count) (grind (arith, site)) work.events valid.events)

  -- the rows fit
  pub rows_start : All (FitsStart (whole_in cat work)) work.rows
  rows_start = All-weaker (IsValidRow (whole_in cat work)) (FitsStart (whole_in cat work)) (λ r v. v.fits) work.rows rows_valid
