-- The fragments of a transaction's uses are those of the catalogue.
use Rattle.sdd_rules.proofs.All.{All, All-append, All-cons, All-from_recursion, All-nil, AllByRecursion, AreThere, Catalogue, Condition, Delete, FragNo, IsThere, List, Put, Query, RelNo, Restriction, Stmt, Txn, Update, Use, [], fragments_for, fragments_there, length, map, part_uses, restrictions_of, statement_uses, uses_from, uses_of, ℕ, ◌+◌, ◌∷◌}

each_there : (cat : Catalogue) (fs : List FragNo) → AllByRecursion (IsThere cat) (map (λ (f : FragNo). f.0) fs)
    → AllByRecursion (λ (f : FragNo). IsThere cat f.0) fs
each_there cat [] all = tt
each_there cat (f ∷ fs) all = (all.0, each_there cat fs all.1)

use_there : (cat : Catalogue) (rel : ℕ) (restrictions : List Restriction) → AreThere cat (fragments_for cat rel restrictions)
use_there cat rel restrictions =
    All-from_recursion (λ (f : FragNo). IsThere cat f.0) (fragments_for cat rel restrictions)
    (each_there cat (fragments_for cat rel restrictions) (fragments_there cat rel restrictions))

abbrev UsesThere : Catalogue → List Use → Type 0
UsesThere cat uses = All (λ (u : Use). AreThere cat u.frags) uses

parts_there : (cat : Catalogue) (before : ℕ) (conds : List Condition) (part : ℕ) (rels : List RelNo) → UsesThere cat (part_uses cat before conds part rels)
parts_there cat before conds part [] = All-nil (λ (u : Use). AreThere cat u.frags)
parts_there cat before conds part (rel ∷ rels) =
    All-cons (λ (u : Use). AreThere cat u.frags)
    (record { number = before + part; rel = rel; frags = fragments_for cat rel.0 (restrictions_of part conds); restrictions = restrictions_of part conds })
    (part_uses cat before conds (part + 1) rels) (use_there cat rel.0 (restrictions_of part conds)) (parts_there cat before conds (part + 1) rels)

statement_there : (cat : Catalogue) (before : ℕ) (s : Stmt) → UsesThere cat (statement_uses cat before s)
statement_there cat before (Put rel row) = All-nil (λ (u : Use). AreThere cat u.frags)
statement_there cat before (Query out rels conds) = parts_there cat before conds 1 rels
statement_there cat before (Update rel sets conds) = parts_there cat before conds 1 (rel ∷ [])
statement_there cat before (Delete rel conds) = parts_there cat before conds 1 (rel ∷ [])

from_there : (cat : Catalogue) (before : ℕ) (sts : List Stmt) → UsesThere cat (uses_from cat before sts)
from_there cat before [] = All-nil (λ (u : Use). AreThere cat u.frags)
from_there cat before (s ∷ rest) =
    All-append (λ (u : Use). AreThere cat u.frags) (statement_uses cat before s) (uses_from cat (before + length (statement_uses cat before s)) rest)
    (statement_there cat before s) (from_there cat (before + length (statement_uses cat before s)) rest)

pub uses_there : (cat : Catalogue) (txn : Txn) → All (λ (u : Use). AreThere cat u.frags) (uses_of cat txn)
uses_there cat txn = from_there cat 0 txn.statements
