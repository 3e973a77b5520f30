-- Histories.
use Rattle.std.specs.Prelude.{ℕ, List}
use Rattle.std.specs.List.Sorted.{IsNonDecreasingBy}
use Rattle.sdd_history.specs.declared.record.Rec.{Rec}

-- records, each with the number of its event, in the order in which they were made
abbrev pub History : Type 0
History = List (ℕ × Rec)

-- no record is of an earlier event than one before it
abbrev pub IsInOrder : History → Type 0
IsInOrder history = IsNonDecreasingBy (λ made. made.0) history
