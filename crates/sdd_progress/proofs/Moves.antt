-- The use that a next move reduces has rows, at a module that reads it.
use Rattle.sdd_progress.proofs.All.{AllHaveParts, Asking, Condition, Const, CountsRead, Exchange, IsRead, List, Move, None, Option, Same, Some, Step, [], and_right, arith, chosen, cond, count_of, counts_for, fewest, filter, filter_map, flat_map, inl, is_candidate, joins_from, ltb-true, map, move_at, moves_by, next_move, range_with_len, refl, rows_at, same_or_not, slice_index_or, subst, suc, sym, zero, ℕ, ◌+◌, ◌<◌, ◌==◌, ◌∷◌, ◌≡◌, ◌≤◌, ◌⊎◌}

-- the moves of a query reduce parts that count from 1
abbrev AllReduceParts : List Move → Type 0
AllReduceParts [] = Unit {0}
AllReduceParts (m ∷ ms) = (1 ≤ m.target.part) × AllReduceParts ms

moves_parts : (k : ℕ) (conds : List Condition) → AllHaveParts conds → AllReduceParts (flat_map moves_by (joins_from k conds))
moves_parts k [] h = tt
moves_parts k (Const left op value ∷ rest) h = moves_parts (k + 1) rest h.1
moves_parts k (Same left right ∷ rest) h = grind (arith, (moves_parts (k + 1) rest h.1))

-- the one that is chosen has a target with rows
abbrev HasTarget : List ℕ → Move → Type 0
HasTarget counts m = (1 ≤ m.target.part) × (0 < rows_at counts m.target.part)

abbrev AllHaveTargets : List ℕ → List Move → Type 0
AllHaveTargets counts [] = Unit {0}
AllHaveTargets counts (m ∷ ms) = HasTarget counts m × AllHaveTargets counts ms

some_rows : (a b : ℕ) → a < b → 0 < b
some_rows a b l = omega (arith, l)

candidates : (counts : List ℕ) (done : List Step) (ms : List Move) → AllReduceParts ms → AllHaveTargets counts (filter (is_candidate counts done) ms)
candidates counts done [] h = tt
candidates counts done (m ∷ ms) h = grind (arith, AllHaveTargets, some_rows, rows_at, ltb-true, and_right, (candidates counts done ms h.1))

fewest_has : (counts : List ℕ) (ms : List Move) (m : Move) → AllHaveTargets counts ms → fewest counts ms ≡ Some m → HasTarget counts m
fewest_has counts [] m h e = cc
fewest_has counts (x ∷ ms) m h e = chosen (HasTarget counts) counts x (fewest counts ms) m h.0 (λ y f. fewest_has counts ms y h.1 f) e

-- the counts of a query are those of its uses
index_at : (f : ℕ → ℕ) (a n k : ℕ) → 0 < slice_index_or (map f (range_with_len a n)) k 0 → 0 < f (a + k)
index_at f a zero k l = absurd (omega (arith, l))
index_at f a (suc n) zero l = let z : a + 0 ≡ a = omega arith in subst (λ x. 0 < f x) (sym z) l
index_at f a (suc n) (suc k) l = let i = index_at f (a + 1) n k l in let z : a + 1 + k ≡ a + suc k = omega arith in subst (λ x. 0 < f x) z i

rows_counted : (counts : List ((ℕ × ℕ) × ℕ)) (q : Asking) (part : ℕ) → 1 ≤ part → 0 < rows_at (counts_for counts q) part → 0 < count_of counts (q.before + part)
rows_counted counts q part l r = grind (arith, index_at)

-- a use of which rows are counted is read
abbrev counted_of : ℕ → (ℕ × ℕ) × ℕ → Option ℕ
counted_of u e = cond (e.0.0 == u) (Some e.1) None

none_or_read : (modules : List (ℕ × List ℕ)) (counts : List ((ℕ × ℕ) × ℕ)) (u : ℕ) → CountsRead modules counts
    → (filter_map (counted_of u) counts ≡ []) ⊎ IsRead modules u
none_or_read modules [] u h = inl refl
none_or_read modules (e ∷ counts) u h = grind (arith, same_or_not, (none_or_read modules counts u h.1))

count_read : (modules : List (ℕ × List ℕ)) (counts : List ((ℕ × ℕ) × ℕ)) (u : ℕ) → CountsRead modules counts → 0 < count_of counts u → IsRead modules u
count_read modules counts u h l = grind (arith, none_or_read)

pub move_reads : (x : Exchange) (q : Asking) (done : List Step) (m : Move) → CountsRead x.modules x.counts → AllHaveParts q.conds
    → next_move q.conds (counts_for x.counts q) done ≡ Some m → IsRead x.modules (move_at q.before m).target.part
move_reads x q done m h parts e = grind (arith, fewest_has, candidates, moves_parts, count_read, rows_counted)
