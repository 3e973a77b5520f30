-- The edges of one simple cycle have one block number, which is not 0.
use Rattle.sdd_blocks.proofs.All.{AreBlocks, Has, HaveNumber, IsSimpleCycle, IsWalk, List, OneNumberACycle, Some, Step, [], ap, arith, edges_of, inl, inr, last, length, refl, slice_get, slice_get-get_or, slice_index, subst, ℕ, ◌<◌, ◌∙◌, ◌∷◌, ◌≡◌, ◌≢◌}
use Rattle.sdd_blocks.proofs.Classes.{joins_within}

-- the edges of a walk are edges of the graph
walk_within : (edges : List (ℕ × ℕ)) (from : ℕ) (steps : List Step) (to k : ℕ)
    → IsWalk edges from steps to → Has (edges_of steps) k → k < length edges
walk_within edges from [] to k w h = absurd h
walk_within edges from (s ∷ steps) to k w (inl e) = omega (arith, joins_within)
walk_within edges from (s ∷ steps) to k w (inr h) = walk_within edges s.to steps to k w.1 h

module _ (edges : List (ℕ × ℕ)) (blocks : List ℕ) (are : AreBlocks edges blocks)
    (start : ℕ) (steps : List Step) (cycle : IsSimpleCycle edges start steps)
  where
    -- an edge of the cycle has a number
    number_at : (k : ℕ) → Has (edges_of steps) k → slice_get blocks k ≡ Some (slice_index blocks k)
    number_at k h = grind (arith, slice_get-get_or, walk_within)

    -- it isn't 0
    pub not_zero_on_cycle : (k : ℕ) → Has (edges_of steps) k → slice_index blocks k ≢ 0
    not_zero_on_cycle k h z = are.none k (subst (λ n. slice_get blocks k ≡ Some n) z (number_at k h))
        (record { start = start; steps = steps; cycle = cycle; first = h; second = h })

    -- two edges of the cycle have one
    pub same_on_cycle : (j k : ℕ) → Has (edges_of steps) j → Has (edges_of steps) k
        → slice_index blocks j ≡ slice_index blocks k
    same_on_cycle j k h g = grind (arith, slice_index, number_at, not_zero_on_cycle, last)

    -- the number of an edge of the cycle is that of all
    number_of_all : (j : ℕ) → Has (edges_of steps) j → HaveNumber blocks steps (slice_index blocks j)
    number_of_all j h k g = number_at k g ∙ ap (λ n. Some n) (same_on_cycle k j g h)

pub one_number_a_cycle : OneNumberACycle
one_number_a_cycle edges blocks are start [] cycle = let long = cycle.long in absurd (omega arith)
one_number_a_cycle edges blocks are start (s ∷ steps) cycle = (
  slice_index blocks s.edge,
  not_zero_on_cycle edges blocks are start (s ∷ steps) cycle s.edge (inl refl),
  number_of_all edges blocks are start (s ∷ steps) cycle s.edge (inl refl),
)

-- where every edge has the number 0 there is no simple cycle
pub no_cycle : (edges : List (ℕ × ℕ)) (blocks : List ℕ) → AreBlocks edges blocks
    → ((k : ℕ) → slice_index blocks k ≡ 0) → (start : ℕ) (steps : List Step) → ¬ IsSimpleCycle edges start steps
no_cycle edges blocks are zeros start [] cycle = let long = cycle.long in omega arith
no_cycle edges blocks are zeros start (s ∷ steps) cycle =
    not_zero_on_cycle edges blocks are start (s ∷ steps) cycle s.edge (inl refl) (zeros s.edge)
