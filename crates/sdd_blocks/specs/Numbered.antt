-- Numbers for the classes of a list, by their first members.
use Rattle.std.specs.Prelude.{ℕ, suc, ◌<◌, ◌≡◌, ◌↔◌, List, length, Some, slice_get}

-- the numbers say which of the marks are equal, from 1 by their first places; the mark 0 has the number 0
pub record AreNumbered (marks : List ℕ) (numbers : List ℕ) : Type 0 where
  pub one_each : length numbers ≡ length marks
  pub none : (k b x : ℕ) → slice_get numbers k ≡ Some b → slice_get marks k ≡ Some x
      → (b ≡ 0) ↔ (x ≡ 0)
  pub same : (j k a b x y : ℕ) → slice_get numbers j ≡ Some a → slice_get numbers k ≡ Some b
      → slice_get marks j ≡ Some x → slice_get marks k ≡ Some y → (a ≡ b) ↔ (x ≡ y)
  pub in_order : (k b : ℕ) → slice_get numbers k ≡ Some (suc (suc b))
      → (j : ℕ) × (j < k) × (slice_get numbers j ≡ Some (suc b))
