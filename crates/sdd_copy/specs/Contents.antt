-- What the copies of fragments hold, from dated changes: of the changes of one item the one with the greatest
-- date stands, and a deletion leaves no row.
use Rattle.std.specs.Prelude.{ℕ, nat_lt, ◌==◌, ◌≡◌, ℤ, pos, cond, if◌then◌else◌, List, [], ◌∷◌, filter, filter_map, fold, Option, Some, None, refl}
use Rattle.std.specs.Ordering.{int_cmp, is_eq}
use Rattle.std.specs.BTreeSet.{insert_key}
use Rattle.sdd_lang.specs.All.{Change, Int, Value, frag_no}
pub use Rattle.sdd_items.specs.Items.{Dated}
use Rattle.sdd_items.specs.Items.{initial}

-- of two dated changes the one with the greater date; of equal dates the first stands
abbrev pub newer : ℕ × Change → Option (ℕ × Change) → Option (ℕ × Change)
newer first None = Some first
newer first (Some second) = cond (nat_lt first.0 second.0) (Some second) (Some first)

-- of the changes of a key the one that stands
abbrev pub latest : ℤ → Dated → Option (ℕ × Change)
latest key [] = None
latest key (x ∷ xs) = if is_eq (int_cmp x.1.key key) then newer x (latest key xs) else latest key xs

abbrev pub row_with : ℤ → Option (List Value) → Option (ℤ × List Value)
row_with key None = None
row_with key (Some row) = Some (key, row)

-- the row that a change leaves at its key
abbrev pub row_left : ℤ → Option (ℕ × Change) → Option (ℤ × List Value)
row_left key None = None
row_left key (Some x) = row_with key x.1.row

-- the keys of changes, ascending and without repeats
abbrev pub keys_in : Dated → List ℤ
keys_in xs = fold (λ ks x. insert_key int_cmp ks x.1.key) [] xs

-- the rows that changes of one fragment leave, with their keys, ascending
abbrev pub rows_left : Dated → List (ℤ × List Value)
rows_left xs = filter_map (λ k. row_left k (latest k xs)) (keys_in xs)

-- the changes of fragment f
abbrev pub of_fragment : ℕ → Dated → Dated
of_fragment f xs = filter (λ x. x.1.frag.0 == f) xs

-- the rows of fragment f with their keys, ascending
abbrev pub contents : ℕ → Dated → List (ℤ × List Value)
contents f xs = rows_left (of_fragment f xs)

-- worked: changes of the item with key 4 in fragment 1
abbrev row_of : ℕ → List Value
row_of n = Int (pos 4) ∷ Int (pos n) ∷ []

abbrev change_to : Option (List Value) → Change
change_to row = record { frag = frag_no 1; key = pos 4; row = row }

-- a deletion at 90 outdoes a row at 70 that comes later
pub deleted : contents 1 ((0, change_to (Some (row_of 1))) ∷ (90, change_to None) ∷ (70, change_to (Some (row_of 2))) ∷ []) ≡ []
deleted = refl

-- and a row at 91 stands again
pub again : contents 1 ((0, change_to (Some (row_of 1))) ∷ (90, change_to None) ∷ (70, change_to (Some (row_of 2)))
    ∷ (91, change_to (Some (row_of 3))) ∷ []) ≡ (pos 4, row_of 3) ∷ []
again = refl

-- of two at 90 the first stands
pub first_is_kept : contents 1 ((90, change_to (Some (row_of 1))) ∷ (90, change_to (Some (row_of 2))) ∷ []) ≡ (pos 4, row_of 1) ∷ []
first_is_kept = refl

-- a change of another fragment doesn't count
pub other_fragment : contents 2 ((90, change_to (Some (row_of 1))) ∷ []) ≡ []
other_fragment = refl

-- of two initial rows with key 4 the later stands
pub later_is_kept : rows_left (initial (frag_no 1) 1 (row_of 1 ∷ row_of 2 ∷ [])) ≡ (pos 4, row_of 2) ∷ []
later_is_kept = refl
