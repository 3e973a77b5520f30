-- When the rows of a snapshot are enough to compute what a transaction does to a database.
use Rattle.std.specs.Prelude.{ℕ, ◌+◌, ◌≡◌, true, List, [], ◌∷◌, length, map}
use Rattle.std.specs.List.{list_all}
use Rattle.sdd_lang.specs.All.{Catalogue, Database, IsFrom1To, Restriction, Row, Tuple, Use, meets, meets_all, part_of, product, restrictions_of, rows_of, uses_in, uses_of}
use Rattle.sdd_lang.specs.declared.statement.Stmt.{Stmt}
use Rattle.sdd_lang.specs.declared.statement.Stmt.TheVariants.{Put, Query, Update, Delete}
use Rattle.sdd_lang.specs.declared.transaction.Txn.{Txn}
use Rattle.sdd_shipped.specs.Members.{Has}
use Rattle.sdd_shipped.specs.Snapshots.{Shipped, rows_for}

-- a row of a relation of the database which meets restrictions
abbrev pub IsRowOf : Database → ℕ → List Restriction → Row → Type 0
IsRowOf db rel restrictions row = Has (rows_of db rel) row × (list_all (meets row) restrictions ≡ true)

-- the rows of these uses are rows of the database, of the use's relation, which meet its restrictions
abbrev pub AreHeld : Database → Shipped → List Use → Type 0
AreHeld db snap uses = (u : Use) → Has uses u → (row : Row) → Has (rows_for snap u.number) row → IsRowOf db u.rel.0 u.restrictions row

-- a statement, before which so many uses stand, has every row that it needs: a query the rows of the tuples that meet
-- its conditions, an update or delete each row that meets its restrictions
abbrev pub AreEnough : Database → Shipped → ℕ → Stmt → Type 0
AreEnough db snap before (Put rel row) = Unit {0}
AreEnough db snap before (Query out rels conds) =
    (tuple : Tuple) → Has (product (map (λ rel. rows_of db rel.0) rels)) tuple → meets_all conds tuple ≡ true
    → (part : ℕ) → IsFrom1To (length rels) part → Has (rows_for snap (before + part)) (part_of tuple part)
AreEnough db snap before (Update rel sets conds) = (row : Row) → IsRowOf db rel.0 (restrictions_of 1 conds) row → Has (rows_for snap (before + 1)) row
AreEnough db snap before (Delete rel conds) = (row : Row) → IsRowOf db rel.0 (restrictions_of 1 conds) row → Has (rows_for snap (before + 1)) row

abbrev pub AreEnoughAlong : Database → Shipped → ℕ → List Stmt → Type 0
AreEnoughAlong db snap before [] = Unit {0}
AreEnoughAlong db snap before (s ∷ rest) = AreEnough db snap before s × AreEnoughAlong db snap (before + uses_in s) rest

-- the snapshot serves the database for the transaction
pub record Serves (cat : Catalogue) (txn : Txn) (snap : Shipped) (db : Database) : Type 0 where
  pub named : (s : ℕ × Row) → Has snap s → (u : Use) × Has (uses_of cat txn) u × (u.number ≡ s.0)
  pub held : AreHeld db snap (uses_of cat txn)
  pub enough : AreEnoughAlong db snap 0 txn.statements
