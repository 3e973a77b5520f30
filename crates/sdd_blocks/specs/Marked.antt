-- Marks for the members of the pairs of a list.
use Rattle.std.specs.Prelude.{ℕ, suc, ◌≡◌, List, length, Some, slice_get, slice_index}
use Rattle.sdd_blocks.specs.Graph.{Joins}

-- some pair of the list has the number
abbrev pub IsPaired : List (ℕ × ℕ) → ℕ → Type 0
IsPaired pairs k = (i : ℕ) × (j : ℕ) × Joins pairs i k j

-- the mark of a number that is in a pair is one more than its label, and the mark of another is 0
pub record AreMarked (pairs : List (ℕ × ℕ)) (labels marks : List ℕ) : Type 0 where
  pub one_each : length marks ≡ length labels
  pub none : (k : ℕ) → slice_get marks k ≡ Some 0 → ¬ IsPaired pairs k
  pub some : (k x : ℕ) → slice_get marks k ≡ Some (suc x)
      → (slice_index labels k ≡ x) × IsPaired pairs k
