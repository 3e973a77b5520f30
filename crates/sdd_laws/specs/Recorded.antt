-- What the laws of a history say of its committed transactions, as far as replay needs it.
use Rattle.std.specs.Prelude.{ℕ, ◌<◌, ◌≤◌, ◌≡◌, true, false, List, Contains}
use Rattle.std.specs.List.{All}
use Rattle.sdd_lang.specs.All.{Catalogue, Database, FitsTxn, Item, PutsHeld, Row, effect}
use Rattle.sdd_laws.specs.Ledger.{Ledger, Reads, snapshot, gathered}

-- the entries of which the database of each transaction's snapshots is put together: they are those of the copies of the
-- fragments that it reads
pub record ArePieces {T : Type 0} (cat : Catalogue) (first : Database) (L : Ledger T) (commits : List T) (pieces : T → List (Item × Row)) : Type 0 where
  pub each : (x : T) → Contains commits x → (f : ℕ) (e : Item × Row) → Reads cat L x f
      → Contains (snapshot cat first L commits x f) e → Contains (pieces x) e
  pub of : (x : T) → Contains commits x → (e : Item × Row) → Contains (pieces x) e
      → (f : ℕ) × Reads cat L x f × Contains (snapshot cat first L commits x f) e

-- Every module began with the rows of the database `first`.
pub record AreRecorded {T : Type 0} (cat : Catalogue) (first : Database) (L : Ledger T) (commits : List T) : Type 0 where
  pub fits : (x : T) → Contains commits x → FitsTxn cat (L.txn x)
  pub puts_held : (x : T) → Contains commits x → All PutsHeld (L.txn x).statements
  -- timestamps are above 0, and two with one timestamp are one
  pub time : (x : T) → Contains commits x → 1 ≤ L.ts x
  pub one_time : (x y : T) → Contains commits x → Contains commits y → L.ts x ≡ L.ts y → L.result x ≡ L.result y
  -- none saw itself, and each is committed after those that it saw
  pub not_itself : (x : T) → Contains commits x → (f : ℕ) → Reads cat L x f → L.saw x f x ≡ false
  pub place : T → ℕ
  pub earlier : (x y : T) → Contains commits x → Contains commits y → (f : ℕ) → Reads cat L x f → L.saw x f y ≡ true
      → place y < place x
  -- the reply and the changes of each Commit are the effect on the database of its snapshots
  pub pieces : T → List (Item × Row)
  pub are_pieces : ArePieces cat first L commits pieces
  pub effect_is : (x : T) → Contains commits x → effect cat (gathered (pieces x)) (L.txn x) ≡ L.result x
