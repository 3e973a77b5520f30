-- A line that stands behind others.
use Rattle.std.specs.Prelude.{ℕ, ◌+◌, ◌≡◌, List, Some, length, slice_get}
use Rattle.sdd_certify.specs.declared.replies.Skipped.{Skipped}
use Rattle.sdd_certify.specs.declared.replies.Skipped.TheVariants.{Left, Line}

-- the line that stands behind so many of these; or how many it stands behind their end
abbrev pub IsSkipped : List (List ℕ) → ℕ → Skipped → Type 0
IsSkipped lines skipped (Line line) = slice_get lines skipped ≡ Some line
IsSkipped lines skipped (Left left) = length lines + left ≡ skipped
