-- What a history says of committed transactions, and the copies that they read.
use Rattle.std.specs.Prelude.{ℕ, Bool, List, [], Contains, fold}
use Rattle.sdd_lang.specs.All.{Catalogue, Change, Database, Item, Row, read_set, with_row}
use Rattle.sdd_lang.specs.declared.effect.Effect.{Effect}
use Rattle.sdd_lang.specs.declared.transaction.Txn.{Txn}
use Rattle.sdd_laws.specs.Committed.{Writers, copy_of, entries_of}

-- Of transactions of any type:
pub record Ledger (T : Type 0) : Type 0 where
  pub txn : T → Txn
  -- the timestamp of the attempt that was committed
  pub ts : T → ℕ
  -- the reply and the changes of its Commit
  pub result : T → Effect
  -- whether the first saw the second, where it reads a fragment: the second was applied there before the first's Answer
  pub saw : T → ℕ → T → Bool

abbrev pub changes : {T : Type 0} → Ledger T → T → List Change
changes L x = (L.result x).changes

abbrev pub writers : {T : Type 0} → Ledger T → Writers T
writers L = record { ts = L.ts; changes = changes L }

-- a transaction reads a fragment
abbrev pub Reads : {T : Type 0} → Catalogue → Ledger T → T → ℕ → Type 0
Reads cat L x f = Contains (read_set cat (L.txn x)) f

-- the copy of a fragment as a transaction reads it: of those that it saw there
abbrev pub snapshot : {T : Type 0} → Catalogue → Database → Ledger T → List T → T → ℕ → Database
snapshot cat first L commits x f = entries_of cat f (copy_of cat first (writers L) commits (L.saw x f) f)

-- entries put together to a database
abbrev pub with_item : Database → Item × Row → Database
with_item db e = with_row db e.0 e.1

abbrev pub gathered : List (Item × Row) → Database
gathered entries = fold with_item [] entries
