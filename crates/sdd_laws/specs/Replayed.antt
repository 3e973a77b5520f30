-- What one plain database gives if it runs the transactions one by one.
use Rattle.std.specs.Prelude.{ℕ, ◌≡◌, Bool, true, List, [], ◌∷◌, map, Contains}
use Rattle.sdd_lang.specs.All.{Catalogue, Change, Database, IsDatabase, Item, Reply, after_changes, effect, rows_in_fragment, serial}
use Rattle.sdd_laws.specs.Committed.{all_dated, copy_of, entries_of}
use Rattle.sdd_laws.specs.Values.{IsValue, row_at}
use Rattle.sdd_laws.specs.Ledger.{Ledger, changes, writers}

-- run on this database, each has the reply and the changes of its Commit
abbrev pub GivesResults : {T : Type 0} → Catalogue → Ledger T → Database → List T → Type 0
GivesResults cat L db [] = Unit {0}
GivesResults cat L db (x ∷ rest) = (effect cat db (L.txn x) ≡ L.result x) × GivesResults cat L (after_changes cat db (changes L x)) rest

-- a database in which each item has its value by the first rows and the changes of these transactions
pub record HasValues {T : Type 0} (cat : Catalogue) (first : Database) (L : Ledger T) (txns : List T) (db : Database) : Type 0 where
  pub is : IsDatabase cat db
  pub value : (item : Item) → IsValue cat (all_dated cat first (writers L) txns) item (row_at db item)

-- the serial run of transactions, on a database that begins with the first rows
abbrev pub run : {T : Type 0} → Catalogue → Database → Ledger T → List T → List Reply × Database
run cat first L order = serial cat first (map L.txn order)

-- the transaction changes the fragment
abbrev pub ChangesOf : {T : Type 0} → Ledger T → T → ℕ → Type 0
ChangesOf L x f = (c : Change) × Contains (changes L x) c × (c.frag.0 ≡ f)

-- The serial run along an order gives what the Commits record, and leaves what the copies hold.
pub record IsReplayed {T : Type 0} (cat : Catalogue) (first : Database) (L : Ledger T) (commits order : List T) : Type 0 where
  pub gives : GivesResults cat L first order
  pub replies : (run cat first L order).0 ≡ map (λ x. (L.result x).reply) order
  pub leaves : HasValues cat first L commits (run cat first L order).1
  -- a copy at which all that change its fragment are applied has the rows that are left
  pub copies : (f : ℕ) (applied : T → Bool) → ((x : T) → Contains commits x → ChangesOf L x f → applied x ≡ true)
      → rows_in_fragment cat (run cat first L order).1 f ≡ entries_of cat f (copy_of cat first (writers L) commits applied f)
