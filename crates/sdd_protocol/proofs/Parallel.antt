-- Parallel edges: two edges between the same two nodes lie in one block.
use Rattle.sdd_protocol.proofs.All.{AreBlocks, IsSimpleCycle, List, Some, Step, [], arith, inl, inr, nat_tests, one_number_a_cycle, refl, same_Some, slice_get, sym, ℕ, ◌∙◌, ◌∷◌, ◌≡◌, ◌≢◌}

-- there by one edge, and back by the other
abbrev there_and_back : ℕ → ℕ → ℕ → ℕ → List Step
there_and_back j k a b = record { edge = j; to = b } ∷ record { edge = k; to = a } ∷ []

-- two edges between the same two nodes form a simple cycle
parallel_cycle : (edges : List (ℕ × ℕ)) (j k a b : ℕ) → j ≢ k → a ≢ b
    → slice_get edges j ≡ Some (a, b) → slice_get edges k ≡ Some (a, b) → IsSimpleCycle edges a (there_and_back j k a b)
parallel_cycle edges j k a b n m p q = grind (arith, nat_tests)

-- so they have one number
pub parallel_number : (edges : List (ℕ × ℕ)) (blocks : List ℕ) → AreBlocks edges blocks
    → (j k a b x y : ℕ) → j ≢ k → a ≢ b → slice_get edges j ≡ Some (a, b) → slice_get edges k ≡ Some (a, b)
    → slice_get blocks j ≡ Some x → slice_get blocks k ≡ Some y → x ≡ y
parallel_number edges blocks h j k a b x y n m p q e f =
    let one = one_number_a_cycle edges blocks h a (there_and_back j k a b) (parallel_cycle edges j k a b n m p q) in
    same_Some x one.0 (sym e ∙ one.2 j (inl refl)) ∙ same_Some one.0 y (sym (one.2 k (inr (inl refl))) ∙ f)
