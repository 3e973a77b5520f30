-- Whether no node is twice in a list, by marks.
use Rattle.sdd_advise.proofs.All.{Bool, Differ, Has, List, [], arith, both_ways, differ_push, false, get_or, get_or-replicate, has_push_cases, has_push_last, inl, inr, length, length-replicate, length-set, nat_tests, read_set, replicate, set, subst, suc, sym, take, take_all, take_more, true, zero, ℕ, ◌++◌, ◌+◌, ◌<◌, ◌∷◌, ◌≡◌, ◌≤◌}

-- the nodes so far differ, and are those that are marked
pub record IsMarking (nodes : List ℕ) (count limit : ℕ) (marks : List Bool) : Type 0 where
  pub one_each : length marks ≡ limit
  pub differ : Differ (take count nodes)
  pub marked : (v : ℕ) → v < limit → get_or marks v false ≡ true → Has (take count nodes) v
  pub has : (v : ℕ) → v < limit → Has (take count nodes) v → get_or marks v false ≡ true

pub none_marked : (nodes : List ℕ) (limit : ℕ) (marks : List Bool) → marks ≡ replicate limit false
    → IsMarking nodes 0 limit marks
none_marked nodes limit marks e = grind (arith, nat_tests, length-replicate, both_ways, get_or-replicate)

has_left : (xs ys : List ℕ) (v : ℕ) → Has xs v → Has (xs ++ ys) v
has_left [] ys v h = absurd h
has_left (x ∷ xs) ys v (inl e) = inl e
has_left (x ∷ xs) ys v (inr h) = inr (has_left xs ys v h)

pub one_marked : (nodes : List ℕ) (count limit : ℕ) (marks more : List Bool) → IsMarking nodes count limit marks
    → count < length nodes → get_or nodes count 0 < limit
    → get_or marks (get_or nodes count 0) false ≡ false → more ≡ set marks (get_or nodes count 0) true
    → IsMarking nodes (count + 1) limit more
one_marked nodes count limit marks more m l w fresh e =
    let v = get_or nodes count 0 in
    let longer : take (count + 1) nodes ≡ take count nodes ++ v ∷ [] = take_more nodes count 0 l in
    let room : v < length marks = omega (arith, m.one_each) in
    subst (λ z. IsMarking nodes (count + 1) limit z) (sym e)
    (grind (arith, length-set, differ_push, both_ways, get_or, read_set, has_push_last, has_left, has_push_cases))

has_at : (xs : List ℕ) (k : ℕ) → k < length xs → Has xs (get_or xs k 0)
has_at (x ∷ xs) (suc k) l = inr (has_at xs k (omega arith))
has_at _ _ l = grind (arith, nat_tests)

pub met_again : (nodes : List ℕ) (count : ℕ) → count < length nodes → Has (take count nodes) (get_or nodes count 0)
    → ¬ Differ nodes
met_again [] count l h d = absurd (omega arith)
met_again (x ∷ xs) zero l h d = h
met_again (x ∷ xs) (suc count) l (inl e) d = d.0 (subst (λ z. Has xs z) (sym e) (has_at xs count (omega arith)))
met_again (x ∷ xs) (suc count) l (inr h) d = met_again xs count (omega arith) h d.1

pub all_marked : (nodes : List ℕ) (count limit : ℕ) (marks : List Bool) → IsMarking nodes count limit marks
    → length nodes ≤ count → Differ nodes
all_marked nodes count limit marks m l = subst Differ (take_all count nodes l) m.differ
