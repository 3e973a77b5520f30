-- The rows that a data module holds frozen for the uses of an attempt.
use Rattle.std.specs.Prelude.{ℕ, ◌==◌, ◌≡◌, ℤ, pos, Bool, cond, if◌then◌else◌, List, [], ◌∷◌, map, filter, fold, length, Option, Some, None, refl}
use Rattle.std.specs.List.{list_all, list_any, flat_map}
use Rattle.std.specs.Ordering.{int_cmp, is_eq}
use Rattle.std.specs.BTreeMap.{insert_entry}
use Rattle.sdd_lang.specs.All.{Int, Le, Restriction, Use, Value, column, first_some, meets, value_cmp, with_values}

-- what the copy of each fragment holds: rows with their keys, ascending
abbrev pub CopyRows : Type 0
CopyRows = ℕ → List (ℤ × List Value)

-- what is frozen for the attempt with this timestamp: the rows of each use, by its number
pub record Frozen : Type 0 where
  pub ts : ℕ
  pub uses : List (ℕ × List (List Value))

-- of rows with keys those that meet all restrictions
abbrev pub chosen : List Restriction → List (ℤ × List Value) → List (ℤ × List Value)
chosen restrictions rows = filter (λ e. list_all (meets e.1) restrictions) rows

abbrev pub with_keyed : List (ℤ × List Value) → ℤ × List Value → List (ℤ × List Value)
with_keyed rows e = insert_entry int_cmp rows e.0 e.1

-- the rows of a use: of all its fragments those that meet its restrictions, ascending by key
abbrev pub rows_for : CopyRows → Use → List (List Value)
rows_for copies u = map (λ e. e.1) (fold with_keyed [] (flat_map (λ f. chosen u.restrictions (copies f.0)) u.frags))

-- what is frozen at an Answer
abbrev pub frozen_for : CopyRows → ℕ → List Use → Frozen
frozen_for copies ts uses = record { ts = ts; uses = map (λ u. (u.number, rows_for copies u)) uses }

abbrev pub or_nothing : Option (List (List Value)) → List (List Value)
or_nothing None = []
or_nothing (Some rows) = rows

-- the rows that are held for a use; the numbers of an attempt's uses differ
abbrev pub rows_of : ℕ → Frozen → List (List Value)
rows_of number f = or_nothing (first_some (λ e. cond (e.0 == number) (Some e.1) None) f.uses)

-- the distinct values of a column, ascending
abbrev pub values_in : List (List Value) → ℕ → List Value
values_in rows col = with_values [] (map (λ row. column row col) rows)

abbrev pub is_among : List Value → Value → Bool
is_among values v = list_any (λ x. is_eq (value_cmp x v)) values

-- of the rows of a use those stay whose column is among the values
abbrev pub reduced : ℕ → ℕ → List Value → Frozen → Frozen
reduced number col values f =
    record f { uses = map (λ e. if e.0 == number then (e.0, filter (λ row. is_among values (column row col)) e.1) else e) f.uses }

-- how many rows are held for each use
abbrev pub counts_of : Frozen → List (ℕ × ℕ)
counts_of f = map (λ e. (e.0, length e.1)) f.uses

-- all rows, by use and then by key
abbrev pub all_rows : Frozen → List (ℕ × List Value)
all_rows f = flat_map (λ e. map (λ row. (e.0, row)) e.1) f.uses

-- worked: of the rows (1, 7) and (2, 8) of fragment 1 and (10, 7) of fragment 2, use 1 of both fragments with
-- `column 1 <= 9` holds the first two, and after a reduction to the value 8 of column 2 the second
abbrev pair : ℕ → ℕ → List Value
pair a b = Int (pos a) ∷ Int (pos b) ∷ []

abbrev example_copies : CopyRows
example_copies f = if f == 1 then (pos 1, pair 1 7) ∷ (pos 2, pair 2 8) ∷ [] else (pos 10, pair 10 7) ∷ []

abbrev up_to_9 : Use
up_to_9 = record { number = 1; rel = record { 0 = 1 }; frags = record { 0 = 1 } ∷ record { 0 = 2 } ∷ []; restrictions = record { column = 1; op = Le; value = Int (pos 9) } ∷ [] }

abbrev example : Frozen
example = frozen_for example_copies 65 (up_to_9 ∷ [])

pub two_rows : rows_of 1 example ≡ pair 1 7 ∷ pair 2 8 ∷ []
two_rows = refl

pub two_values : values_in (rows_of 1 example) 2 ≡ Int (pos 7) ∷ Int (pos 8) ∷ []
two_values = refl

pub one_left : all_rows (reduced 1 2 (Int (pos 8) ∷ []) example) ≡ (1, pair 2 8) ∷ []
one_left = refl
