-- Databases that a program holds: keys are whole numbers of 64 bits, and stand in the rows' key columns.
use Rattle.std.specs.Prelude.{ℕ, ℤ, ◌-◌, ◌≡◌, int_le, Bool, ◌&&◌, true, List, slice_index, FitsSigned}
use Rattle.std.specs.Int.{w64}
use Rattle.std.specs.List.{All}
use Rattle.std.specs.Map.{keys_of}
use Rattle.sdd_lang.specs.All.{Database, Int, Interval, IsWithin, Item, Row, all_keys, column, common, may_join}
use Rattle.sdd_lang.specs.declared.condition.Condition.{Condition}

abbrev pub HasHeldKey : Item → Type 0
HasHeldKey item = FitsSigned w64 item.1

abbrev pub AreHeld : Database → Type 0
AreHeld db = All HasHeldKey (keys_of db)

-- a row has its item's key in the key column of its relation, where these are the relations' key columns
abbrev pub HasKey : List ℕ → Item × Row → Type 0
HasKey columns e = column e.1 (slice_index columns (e.0.0 - 1)) ≡ Int e.0.1

-- where it is said so, each row has
abbrev pub AreKeyed : Bool → List ℕ → Database → Type 0
AreKeyed is_keyed columns db = is_keyed ≡ true → All (HasKey columns) db

-- among the keys is that of each row that may stand in a part, where rows have their keys in a column
abbrev pub AreKeysOf : ℕ → List Condition → ℕ → Interval → Type 0
AreKeysOf part conds key keys =
    (row : Row) (n : ℤ) → column row key ≡ Int n → IsWithin n all_keys → may_join conds part row ≡ true → IsWithin n keys

-- among those of the keys that have 64 bits is that of each row of a relation that may stand in a part
abbrev pub AreNear : Database → ℕ → ℕ → List Condition → Interval → Type 0
AreNear db rel part conds keys = All (λ e. e.0.0 ≡ rel → may_join conds part e.1 ≡ true → IsWithin e.0.1 (common keys all_keys)) db

abbrev pub is_within : Interval → ℤ → Bool
is_within keys key = int_le keys.0 key && int_le key keys.1
