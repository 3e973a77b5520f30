-- The uses of a transaction have different numbers, and each part of a statement has one.
use Rattle.sdd_serving.proofs.All.{Catalogue, Condition, Database, Has, Has-append, Has-flat_map_from, Has-map_from, List, RelNo, Row, Stmt, Tuple, Use, [], ap, arith, inl, inr, length, length-statement_uses, map, nat_tests, part_uses, product, refl, rel, restrictions_of, slice_index_or, statement_uses, subst, suc, use_of, uses_from, uses_in, zero, ℕ, ◌+◌, ◌<◌, ◌∙◌, ◌∷◌, ◌≡◌, ◌≤◌, ◌⊎◌}
use Rattle.sdd_laws.specs.lang.Database as databases

part_range : (cat : Catalogue) (before : ℕ) (conds : List Condition) (k : ℕ) (rels : List RelNo) (u : Use)
    → Has (part_uses cat before conds k rels) u → (before + k ≤ u.number) × (u.number < before + k + length rels)
part_range cat before conds k [] u h = absurd h
part_range cat before conds k (rel ∷ rels) u (inl same) = let e : before + k ≡ u.number = ap (λ (z : Use). z.number) same in (omega arith, omega arith)
part_range cat before conds k (rel ∷ rels) u (inr there) = grind (arith, nat_tests, (part_range cat before conds (k + 1) rels u there))

one_part : (cat : Catalogue) (before : ℕ) (conds : List Condition) (k : ℕ) (rels : List RelNo) (u v : Use)
    → Has (part_uses cat before conds k rels) u → Has (part_uses cat before conds k rels) v → u.number ≡ v.number → u ≡ v
one_part cat before conds k [] u v h i e = absurd h
one_part cat before conds k (rel ∷ rels) u v (inr a) (inl b) e =
    let n : before + k ≡ v.number = grind (arith, nat_tests) in let r = (part_range cat before conds (k + 1) rels u a).0 in absurd (omega (arith, r))
one_part cat before conds k (rel ∷ rels) u v (inr a) (inr b) e = one_part cat before conds (k + 1) rels u v a b e
one_part cat before conds k (rel ∷ rels) u v (inl a) i e = grind (arith, part_range)

statement_range : (cat : Catalogue) (before : ℕ) (s : Stmt) (u : Use) → Has (statement_uses cat before s) u
    → (before < u.number) × (u.number ≤ before + uses_in s)
statement_range cat before s u h = grind (arith, part_range)

one_in_statement : (cat : Catalogue) (before : ℕ) (s : Stmt) (u v : Use) → Has (statement_uses cat before s) u
    → Has (statement_uses cat before s) v → u.number ≡ v.number → u ≡ v
one_in_statement cat before s u v h i e = grind (arith, one_part)

-- the uses of the first statement, and the others
pub uses_split : (cat : Catalogue) (before : ℕ) (s : Stmt) (rest : List Stmt) (u : Use) → Has (uses_from cat before (s ∷ rest)) u
    → Has (statement_uses cat before s) u ⊎ Has (uses_from cat (before + uses_in s) rest) u
uses_split cat before s rest u h = grind (arith, Has-append, length-statement_uses)

use_behind : (cat : Catalogue) (before : ℕ) (statements : List Stmt) (u : Use) → Has (uses_from cat before statements) u → before < u.number
use_behind cat before [] u h = absurd h
use_behind cat before (s ∷ rest) u h = grind (arith, uses_split, statement_range, uses_in, (use_behind cat (before + uses_in s) rest u))

-- of a number there is one use
pub one_use : (cat : Catalogue) (before : ℕ) (statements : List Stmt) (u v : Use)
    → Has (uses_from cat before statements) u → Has (uses_from cat before statements) v → u.number ≡ v.number → u ≡ v
one_use cat before [] u v h i e = absurd h
one_use cat before (s ∷ rest) u v h i e =
    by (λ a b. one_use cat (before + uses_in s) rest u v a b e) (uses_split cat before s rest u h) (uses_split cat before s rest v i)
  where
    by : (Has (uses_from cat (before + uses_in s) rest) u → Has (uses_from cat (before + uses_in s) rest) v → u ≡ v)
        → Has (statement_uses cat before s) u ⊎ Has (uses_from cat (before + uses_in s) rest) u
        → Has (statement_uses cat before s) v ⊎ Has (uses_from cat (before + uses_in s) rest) v → u ≡ v
    by rec (inl a) (inl b) = one_in_statement cat before s u v a b e
    by rec (inl a) (inr b) =
        let l = (statement_range cat before s u a).1 in
        let m = use_behind cat (before + uses_in s) rest v b in absurd (omega (arith, l, m))
    by rec (inr a) (inl b) =
        let l = (statement_range cat before s v b).1 in
        let m = use_behind cat (before + uses_in s) rest u a in absurd (omega (arith, l, m))
    by rec (inr a) (inr b) = rec a b

-- a tuple has of each part a row of its relation, and the part has a use
pub record HasPart (cat : Catalogue) (db : Database) (conds : List Condition) (uses : List Use) (number part : ℕ) (row : Row) : Type 0 where
  pub usage : Use
  pub there : Has uses usage
  pub number_is : usage.number ≡ number
  pub restricted : usage.restrictions ≡ restrictions_of part conds
  pub row_there : Has (databases.rows_of db usage.rel.0) row

pub parts_there : (cat : Catalogue) (db : Database) (before : ℕ) (conds : List Condition) (k : ℕ) (rels : List RelNo) (tuple : Tuple)
    → Has (product (map (λ (rel : RelNo). databases.rows_of db rel.0) rels)) tuple → (i : ℕ) → i < length rels
    → HasPart cat db conds (part_uses cat before conds k rels) (before + (k + i)) (k + i) (slice_index_or tuple i [])
parts_there cat db before conds k [] tuple h i within = absurd (omega arith)
parts_there cat db before conds k (rel ∷ rels) tuple h i within =
    let f =
    Has-flat_map_from
    (λ (row : Row).
    map (λ (tuple : Tuple). row ∷ tuple) (product (map (λ (rel : RelNo). databases.rows_of db rel.0) rels))) (databases.rows_of db rel.0) tuple h in
    let row : Row = f.0 in
    let g =
    Has-map_from (λ (tuple : Tuple). row ∷ tuple) (product (map (λ (rel : RelNo). databases.rows_of db rel.0) rels))
    tuple f.2 in
    subst
    (λ z.
    HasPart cat db conds (part_uses cat before conds k (rel ∷ rels)) (before + (k + i)) (k + i) (slice_index_or z i []))
    g.2 (at (λ rest t i l. parts_there cat db before conds (k + 1) rels rest t i l) row g.0 f.1 g.1 i within)
  where
    at :
        ((rest : Tuple) → Has (product (map (λ (rel : RelNo). databases.rows_of db rel.0) rels)) rest → (i : ℕ) → i <
        length rels → HasPart cat db conds (part_uses cat before conds (k + 1) rels) (before + (k + 1 + i)) (k + 1 + i) (slice_index_or rest i []))
        → (row : Row) (rest : Tuple) → Has (databases.rows_of db rel.0) row → Has
        (product (map (λ (rel : RelNo). databases.rows_of db rel.0) rels)) rest → (i : ℕ) → i < suc (length rels)
        → HasPart cat db conds (part_uses cat before conds k (rel ∷ rels)) (before + (k + i)) (k + i)
        (slice_index_or (row ∷ rest) i [])
    at rec row rest r t zero l =
        let e : k ≡ k + zero = omega arith in
        record {
          usage = use_of cat (before + k) rel (restrictions_of k conds);
          there = inl refl;
          number_is = ap (λ z. before + z) e;
          restricted = ap (λ z. restrictions_of z conds) e;
          row_there = r;
        }
    at rec row rest r t (suc i) l =
        let p = rec rest t i (omega arith) in
        let e : k + 1 + i ≡ k + suc i = omega arith in
        record {
          usage = p.usage;
          there = inr p.there;
          number_is = p.number_is ∙ ap (λ z. before + z) e;
          restricted = p.restricted ∙ ap (λ z. restrictions_of z conds) e;
          row_there = p.row_there;
        }
