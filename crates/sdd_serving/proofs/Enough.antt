-- What is shipped after any number of reductions serves the database.
use Rattle.sdd_serving.proofs.All.{AllByRecursion, AreEnough, AreEnoughAlong, Catalogue, Condition, Database, FitsCondition, FitsStatement, FitsTxn, Has, Has-left, Has-right, IsFrom1To, IsHeldAt, IsRowOf, List, Put, Query, Ref, RelNo, Row, Same, Serves, Space, Stmt, Txn, Use, [], all_held, all_rows, arith, inl, inr, length, length-statement_uses, list_all, meets, nat_tests, part_of, part_uses, parts_meet, recursion_from_All, refl, statement_uses, subst, sym, true, uses_from, uses_in, uses_of, ℕ, ◌+◌, ◌-◌, ◌∷◌, ◌≡◌}
use Rattle.sdd_serving.proofs.Held.{shipped_held, held_shipped, use_row, row_of_use}
use Rattle.sdd_serving.proofs.Keeps.{Leads, HoldEnough, HoldEnoughAlong, HasParts, all_keep, all_were}
use Rattle.sdd_serving.proofs.Uses.{one_use, HasPart, parts_there}

-- what is held at first: rows of the database for the uses of the transaction, and each row that a use wants somewhere
pub record Begins (cat : Catalogue) (txn : Txn) (db : Database) (dms : List ℕ) (first : Space) : Type 0 where
  pub of : (d n : ℕ) (row : Row) → Has (all_rows (first d)) (n, row)
      → (u : Use) × Has (uses_of cat txn) u × (u.number ≡ n) × IsRowOf db u.rel.0 u.restrictions row
  pub there : (u : Use) → Has (uses_of cat txn) u → (row : Row) → IsRowOf db u.rel.0 u.restrictions row → IsHeldAt dms first u.number row

-- parts of a statement that fits

each_fits : (cat : Catalogue) (rels : List RelNo) (conds : List Condition) (left right : Ref)
    → AllByRecursion (FitsCondition cat rels) conds → Has conds (Same left right) → IsFrom1To (length rels) left.part × IsFrom1To (length rels) right.part
each_fits cat rels [] left right fits h = absurd h
each_fits cat rels (c ∷ conds) left right fits (inl same) = grind (arith, nat_tests)
each_fits cat rels (c ∷ conds) left right fits (inr there) = each_fits cat rels conds left right fits.1 there

has_parts : (cat : Catalogue) (s : Stmt) → FitsStatement cat s → HasParts s
has_parts cat (Query out rels conds) fits = λ left right h. each_fits cat rels conds left right (recursion_from_All (FitsCondition cat rels) conds fits.4.1) h
has_parts cat _ fits = tt

all_have : (cat : Catalogue) (statements : List Stmt) → AllByRecursion (FitsStatement cat) statements → AllByRecursion HasParts statements
all_have cat [] fits = tt
all_have cat (s ∷ rest) fits = (has_parts cat s fits.0, all_have cat rest fits.1)

-- at first

module _ (cat : Catalogue) (db : Database) (dms : List ℕ) (first : Space) where
  abbrev Holds : List Use → Type 0
  Holds uses = (u : Use) → Has uses u → (row : Row) → IsRowOf db u.rel.0 u.restrictions row → IsHeldAt dms first u.number row

  first_enough : (before : ℕ) (s : Stmt) → Holds (statement_uses cat before s) → HoldEnough db dms first before s
  first_enough before (Put rel row) h = tt
  first_enough before (Query out rels conds) h =
      λ tuple there meet part range.
      let from = range.0 in
      let e : 1 + (part - 1) ≡ part = omega (arith, from) in
      let p : HasPart cat db conds (part_uses cat before conds 1 rels) (before + part) part (part_of tuple part) =
      subst (λ z. HasPart cat db conds (part_uses cat before conds 1 rels) (before + z) z (part_of tuple part)) e
      (parts_there cat db before conds 1 rels tuple there (part - 1) (omega (arith, from, range.1))) in
      let met : list_all (meets (part_of tuple part)) p.usage.restrictions ≡ true =
      subst (λ z. list_all (meets (part_of tuple part)) z ≡ true) (sym p.restricted) (parts_meet conds tuple part meet) in
      subst (λ z. IsHeldAt dms first z (part_of tuple part)) p.number_is (h p.usage p.there (part_of tuple part) (p.row_there, met))
  first_enough before _ h = λ row is. h _ (inl refl) row is

  first_enough_along : (before : ℕ) (statements : List Stmt) → Holds (uses_from cat before statements) → HoldEnoughAlong db dms first before statements
  first_enough_along before [] h = tt
  first_enough_along before (s ∷ rest) h = grind (arith, nat_tests, first_enough, Has-left, statement_uses, uses_from, uses_in, Has-right, length-statement_uses, (first_enough_along (before + uses_in s) rest (λ u k row is. h u (Has-right (statement_uses cat before s) (uses_from cat (before + length (statement_uses cat before s)) rest) u (subst (λ n. Has (uses_from cat (before + n) rest) u) (sym (length-statement_uses cat before s)) k)) row is)))

-- at the end

shipped_enough : (db : Database) (dms : List ℕ) (last : Space) (before : ℕ) (s : Stmt) → HoldEnough db dms last before s
    → AreEnough db (all_held dms last) before s
shipped_enough db dms last before s h = grind (arith, nat_tests, row_of_use, all_held, part_of, held_shipped)

shipped_along : (db : Database) (dms : List ℕ) (last : Space) (before : ℕ) (statements : List Stmt)
    → HoldEnoughAlong db dms last before statements → AreEnoughAlong db (all_held dms last) before statements
shipped_along db dms last before [] h = tt
shipped_along db dms last before (s ∷ rest) h = (shipped_enough db dms last before s h.0, shipped_along db dms last (before + uses_in s) rest h.1)

-- the rows that are shipped serve the database
pub serves : (cat : Catalogue) (txn : Txn) (db : Database) (dms : List ℕ) (first last : Space) → FitsTxn cat txn
    → Begins cat txn db dms first → Leads dms txn.statements first last → Serves cat txn (all_held dms last) db
serves cat txn db dms first last fits begins leads =
    record {
      named = λ s h. let o = origin s h in (o.0, o.1, o.2);
      held = λ u there row h.
          let o = origin (u.number, row) (use_row (all_held dms last) u.number row h) in
          let same : o.0 ≡ u = one_use cat 0 txn.statements o.0 u o.1 there o.2 in
          subst (λ (z : Use). IsRowOf db z.rel.0 z.restrictions row) same o.3;
      enough = shipped_along db dms last 0 txn.statements
          (all_keep db dms txn.statements (all_have cat txn.statements (recursion_from_All (FitsStatement cat) txn.statements fits.statements)) first last leads
          (first_enough_along cat db dms first 0 txn.statements (λ u k row is. begins.there u k row is)));
    }
  where
    origin : (s : ℕ × Row) → Has (all_held dms last) s → (u : Use) × Has (uses_of cat txn) u × (u.number ≡ s.0) × IsRowOf db u.rel.0 u.restrictions s.1
    origin s h =
        let k = shipped_held dms last s h in
        begins.of k.at s.0 s.1 (all_were dms txn.statements first last leads k.at s.0 s.1 k.held)
