-- What dated changes leave at an item: the row of the change with the greatest date, and none where that is a deletion.
use Rattle.std.specs.Prelude.{ℕ, ◌≤◌, ◌≡◌, List, Contains, Option, None}
use Rattle.std.specs.Map.{lookup}
use Rattle.std.specs.BTreeMap.{is_at}
use Rattle.sdd_lang.specs.All.{Catalogue, Change, Database, Item, Row, fragment_of, item_cmp, item_of}
use Rattle.sdd_copy.specs.Contents.{Dated}
use Rattle.sdd_laws.specs.Committed.{Writers}

-- of the changes of an item one with the greatest date
pub record IsLatest (cat : Catalogue) (xs : Dated) (item : Item) (x : ℕ × Change) : Type 0 where
  pub there : Contains xs x
  pub of : item_of cat x.1 ≡ item
  pub newest : (y : ℕ × Change) → Contains xs y → item_of cat y.1 ≡ item → y.0 ≤ x.0

-- the value of an item: what such a change leaves, or no row where none is of the item
pub data IsValue (cat : Catalogue) (xs : Dated) (item : Item) (v : Option Row) : Type 0 where
  written : (x : ℕ × Change) → IsLatest cat xs item x → x.1.row ≡ v → IsValue cat xs item v
  untouched : ((x : ℕ × Change) → Contains xs x → item_of cat x.1 ≡ item → ⊥) → None ≡ v → IsValue cat xs item v

-- the change names the fragment that holds its item
abbrev pub IsPlaced : Catalogue → Change → Type 0
IsPlaced cat c = fragment_of cat (item_of cat c).0 (item_of cat c).1 ≡ c.frag.0

abbrev pub ArePlaced : Catalogue → Dated → Type 0
ArePlaced cat xs = (x : ℕ × Change) → Contains xs x → IsPlaced cat x.1

-- changes of one item with one date leave one row
abbrev pub LeaveOneRow : Catalogue → Dated → Type 0
LeaveOneRow cat xs = (x y : ℕ × Change) → Contains xs x → Contains xs y → item_of cat x.1 ≡ item_of cat y.1 → x.0 ≡ y.0 → x.1.row ≡ y.1.row

-- the row of an item of a database, where it has one
abbrev pub row_at : Database → Item → Option Row
row_at db item = lookup (is_at (item_cmp item)) db

-- What the laws say of the changes of the committed transactions.
pub record AreWriters {T : Type 0} (cat : Catalogue) (w : Writers T) (commits : List T) : Type 0 where
  -- timestamps are above the date of first rows, and differ
  pub time : (x : T) → Contains commits x → 1 ≤ w.ts x
  pub one_time : (x y : T) → Contains commits x → Contains commits y → w.ts x ≡ w.ts y → w.changes x ≡ w.changes y
  -- each change names its item's fragment, and of an item there is one
  pub placed : (x : T) → Contains commits x → (c : Change) → Contains (w.changes x) c → IsPlaced cat c
  pub once : (x : T) → Contains commits x → (c d : Change) → Contains (w.changes x) c → Contains (w.changes x) d
      → item_of cat c ≡ item_of cat d → c ≡ d
