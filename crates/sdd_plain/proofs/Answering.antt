-- Queries are answered over the rows that may stand in their parts.
use Rattle.sdd_plain.proofs.All.{Condition, Database, List, Ref, RelNo, [], answer, arith, distinct, kept, map, meets_restrictions, product, projection, refl, restrictions_pushdown, rows_of, selection, standing, ℕ, ◌+◌, ◌∷◌, ◌≡◌}

standing_kept : (db : Database) (conds : List Condition) (part : ℕ) (rels : List RelNo)
    → standing db conds part rels ≡ kept (meets_restrictions conds) part (map (λ rel. rows_of db rel.0) rels)
standing_kept db conds part [] = refl
standing_kept db conds part (rel ∷ rels) = grind (arith, (standing_kept db conds (part + 1) rels))

-- what the tuples of these rows give is the answer
pub answer_standing : (db : Database) (out : List Ref) (rels : List RelNo) (conds : List Condition)
    → distinct (projection out (selection conds (product (standing db conds 1 rels)))) ≡ answer db out rels conds
answer_standing db out rels conds = grind (arith, standing_kept, restrictions_pushdown)
