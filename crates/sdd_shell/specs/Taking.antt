-- What a sink took of a text.
use Rattle.std.specs.Prelude.{◌≡◌, ℕ, ◌≤◌, ◌<◌, List, length, take, Option}
use Rattle.sdd_lang.specs.base.Outside.{Rose, with_end}

-- All of it, or a first part of it where the count rose. The count stays where the sink was sure to take so much.
pub record TakesOrFaults (sure : ℕ → Type 0) (before now : Option (List ℕ)) (faults_before faults_now : ℕ) (text : List ℕ) : Type 0 where
  pub later : faults_before ≤ faults_now
  pub front : (n : ℕ) × (now ≡ with_end before (take n text)) × (n < length text → Rose faults_before faults_now)
  pub still : (room : ℕ) → sure room → length text ≤ room → faults_now ≡ faults_before
