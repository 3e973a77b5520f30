-- Nodes joined by walks that do not meet one node.
use Rattle.sdd_blocks.proofs.All.{JoinedWithout, Joins, List, [], arith, inl, inr, nat_tests, refl, ℕ, ◌++◌, ◌∷◌, ◌≢◌}
use Rattle.sdd_blocks.proofs.Members.{has_append_cases}
use Rattle.sdd_blocks.proofs.Walks.{walk_append, nodes_of-append, walk_back}

-- a node other than the one without is joined to itself
pub joined_self : (edges : List (ℕ × ℕ)) (w a : ℕ) → a ≢ w → JoinedWithout edges w a a
joined_self edges w a n = record { steps = []; walk = refl; avoids = λ m. elim m [ inl e ↦ n e | inr h ↦ h ] }

-- an edge joins its ends
pub joined_edge : (edges : List (ℕ × ℕ)) (w k a b : ℕ) → Joins edges k a b → a ≢ w → b ≢ w → JoinedWithout edges w a b
joined_edge edges w k a b j n m =
    record { steps = record { edge = k; to = b } ∷ []; walk = (j, refl); avoids = grind (arith, nat_tests) }

-- walks without a node follow one another
pub joined_on : (edges : List (ℕ × ℕ)) (w a b c : ℕ) → JoinedWithout edges w a b
    → JoinedWithout edges w b c → JoinedWithout edges w a c
joined_on edges w a b c p q =
    record {
      steps = p.steps ++ q.steps;
      walk = walk_append edges a p.steps b q.steps c p.walk q.walk;
      avoids = grind (arith, nat_tests, nodes_of-append, has_append_cases);
    }

-- a walk without a node turned round is one without it
pub joined_back : (edges : List (ℕ × ℕ)) (w a b : ℕ) → JoinedWithout edges w a b → JoinedWithout edges w b a
joined_back edges w a b p = grind (arith, nat_tests, walk_back)
