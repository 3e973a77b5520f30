-- What is known of a shelf and of a sink at one moment.
use Rattle.std.specs.Prelude.{◌≡◌, ◌≤◌, ℕ, List, Option, Result, MatchResult, length, take}
use Rattle.sdd_lang.specs.base.declared.files.ShelfFile.{ShelfFile}
use Rattle.sdd_lang.specs.base.Outside.{Opened, Rose, with_end}
use Rattle.sdd_shell.specs.Taking.{TakesOrFaults}
use Rattle.sdd_shell.specs.declared.status.Status.{Status}
use Rattle.sdd_shell.specs.declared.status.Status.TheVariants.{Done, WriteFault}

pub record ShelfState : Type 1 where
  pub files : Option (List ShelfFile)
  pub is_open : ℕ → Type 0
  pub opened : ℕ → Option Opened
  pub faults : ℕ
  pub sure : ℕ → Type 0

-- as the ghost members of the shelf tell it
abbrev pub shelf_by : {S : Type 0} → (S → Option (List ShelfFile)) → (S → ℕ → Type 0) → (S → ℕ → Option Opened) → (S → ℕ)
    → (S → ℕ → Type 0) → S → ShelfState
shelf_by files is_open opened faults sure shelf = record {
  files = files shelf;
  is_open = is_open shelf;
  opened = opened shelf;
  faults = faults shelf;
  sure = sure shelf;
}

pub record SinkState : Type 1 where
  pub taken : Option (List ℕ)
  pub faults : ℕ
  pub sure : ℕ → Type 0

abbrev pub sink_by : {S : Type 0} → (S → Option (List ℕ)) → (S → ℕ) → (S → ℕ → Type 0) → S → SinkState
sink_by taken faults sure sink = record { taken = taken sink; faults = faults sink; sure = sure sink }

-- all of the text is taken, or a first part of it where the count of faults rose
abbrev pub Takes : List ℕ → SinkState → SinkState → Type 0
Takes text before after = TakesOrFaults before.sure before.taken after.taken before.faults after.faults text

-- The text is written whole, or a first part of it where the sink failed.
abbrev pub IsWritten : List ℕ → SinkState → SinkState → Status → Type 0
IsWritten text before after Done = after.taken ≡ with_end before.taken text
IsWritten text before after WriteFault = Rose before.faults after.faults × (n : ℕ) × (after.taken ≡ with_end before.taken (take n text))
IsWritten text before after status = ⊥

-- It is whole over a sink that was sure to take so much.
abbrev pub SurelyWritten : List ℕ → SinkState → SinkState → Status → Type 0
SurelyWritten text before after status =
    (room : ℕ) → before.sure room → length text ≤ room → (status ≡ Done) × (after.faults ≡ before.faults)

-- nothing is written
abbrev pub IsSilent : SinkState → SinkState → Type 0
IsSilent before after = (after.taken ≡ before.taken) × (after.faults ≡ before.faults)

-- How a call ends whose answer is known: the text is written, or the status is that of the answer and nothing is written.
abbrev pub EndsWith : Result (List ℕ) Status → SinkState → SinkState → Status → Type 0
EndsWith answer before after result =
    MatchResult answer (λ text. IsWritten text before after result × SurelyWritten text before after result)
    (λ status. (result ≡ status) × IsSilent before after)
