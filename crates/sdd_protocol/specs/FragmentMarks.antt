-- Marks for fragments, by their numbers.
use Rattle.std.specs.Prelude.{ℕ, ◌≡◌, Bool, false, List, slice_index_or}

-- whether the fragment is marked
abbrev pub is_marked : List Bool → ℕ → Bool
is_marked marks f = slice_index_or marks f false

-- the fragments that pass the test are marked, and no others
abbrev pub AreMarks : (ℕ → Bool) → List Bool → Type 0
AreMarks test marks = (f : ℕ) → is_marked marks f ≡ test f
