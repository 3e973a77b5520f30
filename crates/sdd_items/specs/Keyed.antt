-- Items whose rows have their keys in one column, and the rows among them that meet restrictions.
use Rattle.std.specs.Prelude.{ℕ, ◌≡◌, ℤ, int_le, Bool, ◌&&◌, true, List, [], ◌∷◌, filter, Option, Some, None, IfSome, FitsSigned}
use Rattle.std.specs.Int.{w64}
use Rattle.std.specs.List.{All, list_all}
use Rattle.sdd_lang.specs.All.{Int, Interval, IsWithin, Restriction, Value, all_keys, column, common, meets}
use Rattle.sdd_items.specs.Items.{Items, entries_in}

-- an item's key is a whole number of 64 bits
abbrev pub HasHeldKey : ℤ × (ℕ × Option (List Value)) → Type 0
HasHeldKey e = FitsSigned w64 e.0

abbrev pub AreHeld : Items → Type 0
AreHeld items = All HasHeldKey items

-- an item's row, where it isn't deleted, has the item's key in this column
abbrev pub HasKey : ℕ → ℤ × (ℕ × Option (List Value)) → Type 0
HasKey key e = IfSome e.1.1 (λ row. column row key ≡ Int e.0)

-- where it is said so, each row has
abbrev pub AreKeyed : Bool → ℕ → Items → Type 0
AreKeyed is_keyed key items = is_keyed ≡ true → All (HasKey key) items

-- the rows that aren't deleted and meet all restrictions, with their keys, ascending
abbrev pub rows_meeting : List Restriction → Items → List (ℤ × List Value)
rows_meeting restrictions items = filter (λ e. list_all (meets e.1) restrictions) (entries_in items)

abbrev pub is_within : Interval → ℤ → Bool
is_within keys key = int_le keys.0 key && int_le key keys.1

-- the item with a key, where there is one
abbrev pub one_at : ℤ → Option (ℕ × Option (List Value)) → Items
one_at key None = []
one_at key (Some item) = (key, item) ∷ []

-- where an item's row meets the restrictions, its key is among those of the keys that have 64 bits
abbrev pub IsNear : List Restriction → Interval → ℤ × (ℕ × Option (List Value)) → Type 0
IsNear restrictions keys e =
    IfSome e.1.1 (λ row. list_all (meets row) restrictions ≡ true → IsWithin e.0 (common keys all_keys))
