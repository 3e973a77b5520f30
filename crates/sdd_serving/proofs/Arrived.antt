-- In which order the rows arrive doesn't matter.
use Rattle.sdd_serving.proofs.All.{AreEnough, AreEnoughAlong, Catalogue, Database, Has, List, Row, Serves, Shipped, Stmt, Txn, [], arith, nat_tests, part_of, uses_in, ℕ, ◌+◌, ◌∷◌}
use Rattle.sdd_serving.proofs.Held.{use_row, row_of_use}
use Rattle.sdd_rules.specs.All.{rows_for}

module _ (few many : Shipped) (go : (s : ℕ × Row) → Has few s → Has many s) where
  moved : (n : ℕ) (row : Row) → Has (rows_for few n) row → Has (rows_for many n) row
  moved n row h = row_of_use many n row (go (n, row) (use_row few n row h))

  enough : (db : Database) (before : ℕ) (s : Stmt) → AreEnough db few before s → AreEnough db many before s
  enough db before s h = grind (arith, nat_tests, moved, part_of)

  enough_along : (db : Database) (before : ℕ) (statements : List Stmt) → AreEnoughAlong db few before statements → AreEnoughAlong db many before statements
  enough_along db before [] h = tt
  enough_along db before (s ∷ rest) h = (enough db before s h.0, enough_along db (before + uses_in s) rest h.1)

-- rows with the same members serve the same databases
pub serves_by_members : (cat : Catalogue) (txn : Txn) (db : Database) (few many : Shipped)
    → ((s : ℕ × Row) → Has few s → Has many s) → ((s : ℕ × Row) → Has many s → Has few s) → Serves cat txn few db → Serves cat txn many db
serves_by_members cat txn db few many go come s = grind (arith, nat_tests, moved, enough, enough_along)
