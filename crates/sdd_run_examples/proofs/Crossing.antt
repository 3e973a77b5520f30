-- An edge that alone leads from a set of nodes to the others lies on no cycle.
use Rattle.std.proofs.Common.{ap, arith, inl, inr, sym}
use Rattle.std.proofs.lemmas.Bool.{and_parts}
use Rattle.std.specs.Prelude.{ℕ, zero, suc, ◌&&◌, ◌≡◌, ◌≢◌, Bool, true, cond, not, List, [], ◌∷◌, slice_get, Some, refl}
use Rattle.std.proofs.lemmas.Option.{some_pair_parts}
use Rattle.sdd_blocks.proofs.Bridges.{cycle_joined_ends}
use Rattle.sdd_blocks.specs.Blocks.{OnACycle}
use Rattle.sdd_blocks.specs.Graph.{Has, IsWalk, Step, edges_of}

abbrev stays : (ℕ → Bool) → ℕ × ℕ → Bool
stays side e = cond (side e.0) (side e.1) (not (side e.1))

abbrev all_stay : (ℕ → Bool) → List (ℕ × ℕ) → Bool
all_stay side [] = true
all_stay side (e ∷ edges) = stays side e && all_stay side edges

abbrev pub others_stay : (ℕ → Bool) → ℕ → List (ℕ × ℕ) → Bool
others_stay side k [] = true
others_stay side zero (e ∷ edges) = all_stay side edges
others_stay side (suc k) (e ∷ edges) = stays side e && others_stay side k edges

each_stays : (side : ℕ → Bool) (edges : List (ℕ × ℕ)) (j c d : ℕ) → all_stay side edges ≡ true → slice_get edges j ≡ Some (c, d) → side c ≡ side d
each_stays side [] j c d e g = absurd (cc)
each_stays side (x ∷ edges) zero c d e g = grind (arith, and_parts, stays, all_stay, some_pair_parts)
each_stays side (x ∷ edges) (suc j) c d e g = each_stays side edges j c d (and_parts (stays side x) (all_stay side edges) e).1 g

each_other : (side : ℕ → Bool) (k : ℕ) (edges : List (ℕ × ℕ)) (j c d : ℕ) → others_stay side k edges ≡ true → j ≢ k
    → slice_get edges j ≡ Some (c, d) → side c ≡ side d
each_other side k [] j c d e n g = absurd (cc)
each_other side zero (x ∷ edges) zero c d e n g = absurd (n refl)
each_other side zero (x ∷ edges) (suc j) c d e n g = each_stays side edges j c d e g
each_other side (suc k) (x ∷ edges) zero c d e n g = grind (arith, and_parts, stays, others_stay, some_pair_parts)
each_other side (suc k) (x ∷ edges) (suc j) c d e n g = grind (arith, and_parts, stays, others_stay, (each_other side k edges j c d (and_parts (stays side x) (others_stay side k edges) e).1 (λ p. n (ap suc p)) g))

-- a walk without that one stays on its side
walk_stays : (side : ℕ → Bool) (k : ℕ) (edges : List (ℕ × ℕ)) → others_stay side k edges ≡ true
    → (from : ℕ) (steps : List Step) (to : ℕ) → IsWalk edges from steps to → (¬ Has (edges_of steps) k) → side from ≡ side to
walk_stays side k edges e from [] to w n = ap side w
walk_stays side k edges e from (s ∷ steps) to w n = grind (arith, each_other, (walk_stays side k edges e s.to steps to w.1 (λ m. n (inr m))))

-- so that one, which crosses, lies on no cycle
pub crosses_alone : (side : ℕ → Bool) (edges : List (ℕ × ℕ)) (k a b : ℕ) → others_stay side k edges ≡ true
    → slice_get edges k ≡ Some (a, b) → side a ≢ side b → ¬ OnACycle edges k
crosses_alone side edges k a b e g n c =
    let w = cycle_joined_ends edges k a b c (inl g) in
    n (sym (walk_stays side k edges e b w.steps a w.walk w.avoids))
