-- The other ends of linked edges at a node are joined without it.
use Rattle.sdd_blocks.proofs.All.{JoinedWithout, Joins, Linked, List, Neighbours, arith, cases_eq, inl, inr, last, more, sym, ℕ, ◌∙◌, ◌≢◌}
use Rattle.sdd_blocks.proofs.Walks.{joins_back}
use Rattle.sdd_blocks.proofs.Joined.{joined_self, joined_edge, joined_on, joined_back}
use Rattle.sdd_blocks.proofs.Cycles.{same_ends}
use Rattle.sdd_blocks.proofs.Around.{carried_on_cycle}

-- each end of the edge, but for a, is joined to x without a
abbrev pub IsBeside : List (ℕ × ℕ) → ℕ → ℕ → ℕ → Type 0
IsBeside edges a x k = (p q : ℕ) → Joins edges k p q → p ≢ a → JoinedWithout edges a p x

module _ (edges : List (ℕ × ℕ)) (a x : ℕ) where
  -- where both edges meet at the node b, what is known of the one is known of the other
  meet_beside : (j k b one other : ℕ) → Joins edges j b one → Joins edges k b other
      → JoinedWithout edges b one other → IsBeside edges a x j → IsBeside edges a x k
  meet_beside j k b one other f g around beside p q h n =
      elim (cases_eq b a) [
        | inl e ↦
            let from_one = beside one b (joins_back edges j b one f) (λ d. around.avoids (inl (d ∙ sym e))) in
            elim (same_ends edges k p q b other h g) [
              | inl d ↦ absurd (n (d.0 ∙ e))
              | inr d ↦ rw d.0 (joined_on edges a other one x (joined_back edges a one other (rw e at around)) from_one)
            ]
        | inr m ↦
            elim (same_ends edges k p q b other h g) [
              | inl d ↦ rw d.0 (beside b one f m)
              | inr d ↦ joined_on edges a p b x (joined_edge edges a k p b (rw d.1 at h) n m) (beside b one f m)
            ]
      ]

  -- neighbours know the same of their ends
  neighbours_beside : (j k : ℕ) → Neighbours edges j k
      → (IsBeside edges a x j → IsBeside edges a x k) × (IsBeside edges a x k → IsBeside edges a x j)
  neighbours_beside j k h = (
    meet_beside j k h.node h.one h.other h.first h.second h.around,
    meet_beside k j h.node h.other h.one h.second h.first (joined_back edges h.node h.one h.other h.around),
  )

  -- and so do linked edges
  linked_beside : (j k : ℕ) → Linked edges j k → IsBeside edges a x j → IsBeside edges a x k
  linked_beside j k (last c) = carried_on_cycle edges (IsBeside edges a x) neighbours_beside j k c
  linked_beside j k (more {k = l} c h) = λ b. linked_beside l k h (carried_on_cycle edges (IsBeside edges a x) neighbours_beside j l c b)

-- the other ends of two linked edges at a node are joined by a walk without it
pub linked_around : (edges : List (ℕ × ℕ)) (a j x k y : ℕ) → Linked edges j k → Joins edges j a x
    → x ≢ a → Joins edges k a y → y ≢ a → JoinedWithout edges a x y
linked_around edges a j x k y h f n g m =
    let here : IsBeside edges a x j = grind (arith, same_ends, joined_self) in
    joined_back edges a y x (linked_beside edges a x j k h here y a (joins_back edges k a y g) m)
