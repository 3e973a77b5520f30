-- Which rows are held after a reduction, and which are shipped.
use Rattle.sdd_serving.proofs.All.{Bool, Frozen, Has, Has-filter, Has-filter_from, Has-filter_map, Has-filter_map_from, Has-flat_map, Has-flat_map_from, Has-map, Has-map_from, IsHeldAt, List, Row, Space, Value, all_held, all_rows, arith, column, false, filter, if◌then◌else◌, is_among, map, nat_tests, reduced, refl, subst, sym, true, ℕ, ◌==◌, ◌∙◌, ◌≡◌}
use Rattle.sdd_rules.specs.All.{rows_for}

-- the rows of a use, as they are kept
abbrev pub Kept : Type 0
Kept = ℕ × List Row

-- an entry of a module has the row for the use
pub record HasRow (f : Frozen) (u : ℕ) (row : Row) : Type 0 where
  pub entry : Kept
  pub there : Has f.uses entry
  pub number : entry.0 ≡ u
  pub has : Has entry.1 row

abbrev numbered : Kept → List (ℕ × Row)
numbered e = map (λ row. (e.0, row)) e.1

pub has_row : (f : Frozen) (u : ℕ) (row : Row) → Has (all_rows f) (u, row) → HasRow f u row
has_row f u row h = grind (arith, Has-flat_map_from, numbered, Kept, Has-map_from)

pub row_there : (f : Frozen) (u : ℕ) (row : Row) → HasRow f u row → Has (all_rows f) (u, row)
row_there f u row h =
    Has-flat_map numbered f.uses h.entry (u, row) h.there
    (subst (λ n. Has {X = ℕ × Row} (numbered h.entry) (n, row)) h.number (Has-map (λ (row : Row). ((h.entry).0, row)) (h.entry).1 row h.has))

module _ (n col : ℕ) (values : List Value) where
  abbrev stays : Row → Bool
  stays row = is_among values (column row col)

  abbrev pub lessened : Kept → Kept
  lessened e = if e.0 == n then (e.0, filter stays e.1) else e

  -- of an entry

  pub same_number : (e : Kept) → (lessened e).0 ≡ e.0
  same_number e = elim (e.0 == n) as (λ b. (if b then (e.0, filter stays e.1) else e).0 ≡ e.0) [ true ↦ refl | false ↦ refl ]

  in_lessened : (e : Kept) (row : Row) → Has (lessened e).1 row → Has e.1 row × (e.0 ≡ n → stays row ≡ true)
  in_lessened e row h = grind (arith, stays, Has-filter_from)

  lessened_in : (e : Kept) (row : Row) → Has e.1 row → (e.0 ≡ n → stays row ≡ true) → Has (lessened e).1 row
  lessened_in e row h passes = grind (arith, stays, Has-filter)

  -- what is held after a reduction was held before, and of the reduced use its value is among those
  pub reduced_from : (f : Frozen) (u : ℕ) (row : Row) → Has (all_rows (reduced n col values f)) (u, row)
      → Has (all_rows f) (u, row) × (u ≡ n → stays row ≡ true)
  reduced_from f u row h =
      grind (arith, has_row (reduced n col values f) u row h, nat_tests, Has-map_from, lessened, Kept, in_lessened, same_number, row_there)

  -- and the other way round
  pub stays_held : (f : Frozen) (u : ℕ) (row : Row) → Has (all_rows f) (u, row) → (u ≡ n → stays row ≡ true) → Has (all_rows (reduced n col values f)) (u, row)
  stays_held f u row h passes =
      let k = has_row f u row h in
      let e : Kept = k.entry in
      row_there (reduced n col values f) u row
      (record {
        entry = lessened e;
        there = Has-map lessened f.uses e k.there;
        number = same_number e ∙ k.number;
        has = lessened_in e row k.has (λ same. passes (sym k.number ∙ same));
      })

-- shipped

pub shipped_held : (dms : List ℕ) (space : Space) (s : ℕ × Row) → Has (all_held dms space) s → IsHeldAt dms space s.0 s.1
shipped_held dms space s h = let m = Has-flat_map_from (λ d. all_rows (space d)) dms s h in record { at = m.0; there = m.1; held = m.2 }

pub held_shipped : (dms : List ℕ) (space : Space) (u : ℕ) (row : Row) → IsHeldAt dms space u row → Has (all_held dms space) (u, row)
held_shipped dms space u row h = Has-flat_map (λ d. all_rows (space d)) dms h.at (u, row) h.there h.held

pub use_row : (shipped : List (ℕ × Row)) (u : ℕ) (row : Row) → Has (rows_for shipped u) row → Has shipped (u, row)
use_row shipped u row h = grind (arith, Has-filter_map_from)

pub row_of_use : (shipped : List (ℕ × Row)) (u : ℕ) (row : Row) → Has shipped (u, row) → Has (rows_for shipped u) row
row_of_use shipped u row h = grind (arith, Has-filter_map)
