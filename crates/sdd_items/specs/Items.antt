-- What a copy keeps of the changes of its fragment.
use Rattle.std.specs.Prelude.{ℕ, nat_lt, ◌≡◌, ℤ, pos, cond, Bool, true, List, [], ◌∷◌, map, filter_map, fold, reverse, Option, Some, None, refl}
use Rattle.std.specs.Ordering.{int_cmp}
use Rattle.std.specs.Map.{lookup}
use Rattle.std.specs.BTreeMap.{insert_entry, is_at}
use Rattle.sdd_lang.specs.All.{Change, FragNo, Int, Value, column, frag_no, number_in}

-- changes, each with its date: the timestamp of its transaction, or 0 for a row that was there from the beginning
abbrev pub Dated : Type 0
Dated = List (ℕ × Change)

-- by key the date of the last change that was applied, and its row, or None where it was a deletion
abbrev pub Items : Type 0
Items = List (ℤ × (ℕ × Option (List Value)))

-- the write rule: a change is applied where its date is greater than the item's
abbrev pub is_newer : ℕ → Option (ℕ × Option (List Value)) → Bool
is_newer t None = true
is_newer t (Some item) = nat_lt item.0 t

abbrev pub written : Items → ℕ × Change → Items
written items x = cond (is_newer x.0 (lookup (is_at (int_cmp x.1.key)) items)) (insert_entry int_cmp items x.1.key (x.0, x.1.row)) items

-- the items that dated changes of one fragment leave
abbrev pub items_of : Dated → Items
items_of xs = fold written [] xs

-- changes of one transaction, with its timestamp
abbrev pub dated : ℕ → List Change → Dated
dated t changes = map (λ x. (t, x)) changes

-- a row of fragment f that was there from the beginning
abbrev pub initial_row : FragNo → ℕ → List Value → ℕ × Change
initial_row f key row = (0, record { frag = f; key = number_in (column row key); row = Some row })

-- the rows that were there from the beginning: from the last to the first, since of two with one key the later stands
abbrev pub initial : FragNo → ℕ → List (List Value) → Dated
initial f key rows = map (initial_row f key) (reverse rows)

abbrev pub row_at : ℤ → Option (List Value) → Option (ℤ × List Value)
row_at key None = None
row_at key (Some row) = Some (key, row)

-- the rows that aren't deleted, with their keys, ascending
abbrev pub entries_in : Items → List (ℤ × List Value)
entries_in items = filter_map (λ e. row_at e.0 e.1.1) items

abbrev pub rows_in : Items → List (List Value)
rows_in items = map (λ e. e.1) (entries_in items)

-- the row with a key, where there is one that isn't deleted

abbrev pub row_of_item : Option (ℕ × Option (List Value)) → Option (List Value)
row_of_item None = None
row_of_item (Some item) = item.1

abbrev pub row_in : Items → ℤ → Option (List Value)
row_in items key = row_of_item (lookup (is_at (int_cmp key)) items)

-- worked: of an initial row with key 4, a row dated 1 outdoes it
abbrev pair : ℕ → ℕ → List Value
pair a b = Int (pos a) ∷ Int (pos b) ∷ []

pub dated_one : rows_in (written (items_of (initial (frag_no 1) 1 (pair 4 1 ∷ []))) (1, record { frag = frag_no 1; key = pos 4; row = Some (pair 4 3) })) ≡ pair 4 3 ∷ []
dated_one = refl
