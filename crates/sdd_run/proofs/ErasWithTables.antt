-- The class lists of a workload as they are given: each is an era of the whole catalogue, and has its protocol table.
use Rattle.sdd_run.proofs.All.{AllZip, AllZip-long, AreTables, Catalogue, Class, Entry, Era, HasEras, IsEra, IsEraOf, IsTable, List, Some, Workload, [], ap, arith, cases_lt, classes_in, era_of_itself, era_of_whole, eras, eras_in, eras_with_tables, extended, get_or_past, input_of, length, nth_era, refl, retired, slice_get, slice_get-get_or, suc, whole_in, zero, ℕ, ◌∙◌, ◌∷◌, ◌≡◌, ◌≤◌}

-- as many as catalogues, that is one more than lists

pub eras_are : (cat : Catalogue) (lists : List (List Class)) → length (eras cat lists) ≡ suc (length lists)
eras_are cat [] = refl
eras_are cat (classes ∷ lists) = ap (λ n. suc n) (eras_are (extended classes (retired (length cat.classes) cat)) lists)

eras_with_tables_are : (cats : List Catalogue) (tables : List (List Entry)) → AllZip IsTable cats tables → length (eras_with_tables cats tables) ≡ length cats
eras_with_tables_are [] tables h = refl
eras_with_tables_are (cat ∷ cats) [] h = absurd h
eras_with_tables_are (cat ∷ cats) (table ∷ tables) h = ap (λ n. suc n) (eras_with_tables_are cats tables h.1)

pub tables_are : (cat : Catalogue) (tables : List (List Entry)) (work : Workload) → AreTables cat work tables → length tables ≡ length (eras_in cat work)
tables_are cat tables work tabled = AllZip-long IsTable (eras_in cat work) tables tabled

pub some_table : (cat : Catalogue) (tables : List (List Entry)) (work : Workload) → AreTables cat work tables → 1 ≤ length tables
some_table cat tables work tabled =
    let many = eras_are cat (classes_in cat work) in
    omega (arith, (tables_are cat tables work tabled), many)

-- the first catalogue in force is the one without the lists
first_there : (cat : Catalogue) (lists : List (List Class)) → slice_get (eras cat lists) 0 ≡ Some cat
first_there cat [] = refl
first_there cat (classes ∷ lists) = refl

pub first_era : (cat : Catalogue) (work : Workload) → IsEraOf (whole_in cat work) cat
first_era cat work = era_of_whole cat (classes_in cat work) 0 cat (first_there cat (classes_in cat work))

-- that of one list
pub record IsOfList (cats : List Catalogue) (k : ℕ) (f : Era) : Type 0 where
  pub there : slice_get cats k ≡ Some f.catalogue
  pub era : IsEra f

pub of_list : (cats : List Catalogue) (tables : List (List Entry)) → AllZip IsTable cats tables
    → (k : ℕ) (f : Era) → slice_get (eras_with_tables cats tables) k ≡ Some f → IsOfList cats k f
of_list [] tables h k f e = cc
of_list (cat ∷ cats) [] h k f e = absurd h
of_list (cat ∷ cats) (table ∷ tables) h zero f e = grind (arith, IsOfList)
of_list (cat ∷ cats) (table ∷ tables) h (suc k) f e = let i = of_list cats tables h.1 k f e in record { there = i.there; era = i.era }

module _ (cat : Catalogue) (tables : List (List Entry)) (work : Workload) (tabled : AreTables cat work tables) where
  pub how_many : length (input_of cat tables work).eras ≡ suc (length (classes_in cat work))
  how_many = eras_with_tables_are (eras_in cat work) tables tabled ∙ eras_are cat (classes_in cat work)

  -- beyond the last list there is none
  abbrev none : Era
  none = record { catalogue = whole_in cat work; table = [] }

  pub list_at : (k : ℕ) → k ≤ length (classes_in cat work) → IsOfList (eras_in cat work) k (nth_era (input_of cat tables work) k)
  list_at k l =
      of_list (eras_in cat work) tables tabled k (nth_era (input_of cat tables work) k)
      (slice_get-get_or (input_of cat tables work).eras k none (omega (arith, l, how_many)))

  pub era_at : (k : ℕ) → k ≤ length (classes_in cat work) → IsEraOf (whole_in cat work) (nth_era (input_of cat tables work) k).catalogue
  era_at k l = era_of_whole cat (classes_in cat work) k (nth_era (input_of cat tables work) k).catalogue (list_at k l).there

  pub has_eras : HasEras (input_of cat tables work)
  has_eras k = grind (arith, cases_lt, how_many, get_or_past, none, era_of_itself, era_at)
