-- Runs of an exchange: for a move the modules that hold rows of its source send their values, one after the other; once
-- none is missing, modules of the target are reduced by all these values, in any order; then the next move may begin.
use Rattle.std.specs.Prelude.{ℕ, ◌≡◌, ◌≢◌, Bool, true, List, []}
use Rattle.sdd_laws.specs.All.{Stmt, Value, is_empty, reduced, with_values}
use Rattle.sdd_rules.specs.All.{Has, Move, without}
use Rattle.sdd_serving.specs.Reducing.{Space, IsMoveAlong, TellsAll}

-- Between moves; or values of the move's source are sent, where some modules' answers are missing and these values came;
-- or its target is reduced by the values.
pub data Stage : Type 0 where
  Resting : Stage
  Telling : Move → List ℕ → List Value → Stage
  Reducing : Move → List Value → Stage

-- whether the target may be reduced, where the values of these modules are missing
abbrev pub may_reduce : List ℕ → Bool
may_reduce lacks = is_empty lacks

-- A run over these modules leads to what they hold and a stage of the exchange. `asked d u` tells whether module d was
-- asked for the rows of use u, and `first` what each held at first.
pub data Runs (dms : List ℕ) (statements : List Stmt) (asked : ℕ → ℕ → Bool) (first : Space) : Space → Stage → Type 0 where
  begins : Runs dms statements asked first first Resting
  -- the values of each module that was asked for the source's rows are missing
  asks : {space : Space} → Runs dms statements asked first space Resting → (m : Move) → IsMoveAlong 0 statements m
      → (lacks : List ℕ) → ((d : ℕ) → Has dms d → asked d m.source.part ≡ true → Has lacks d)
      → Runs dms statements asked first space (Telling m lacks [])
  -- the values that come of a module have those of all rows that it holds now
  tells : {space : Space} (m : Move) (lacks : List ℕ) (union : List Value) → Runs dms statements asked first space (Telling m lacks union)
      → (d : ℕ) (values : List Value) → TellsAll (space d) m.source values
      → Runs dms statements asked first space (Telling m (without lacks d) (with_values union values))
  sends : {space : Space} (m : Move) (lacks : List ℕ) (union : List Value) → Runs dms statements asked first space (Telling m lacks union)
      → may_reduce lacks ≡ true → Runs dms statements asked first space (Reducing m union)
  reduces : {space after : Space} (m : Move) (union : List Value) → Runs dms statements asked first space (Reducing m union)
      → (at : ℕ) → after at ≡ reduced m.target.part m.target.column union (space at) → ((d : ℕ) → d ≢ at → after d ≡ space d)
      → Runs dms statements asked first after (Reducing m union)
  rests : {space : Space} (m : Move) (union : List Value) → Runs dms statements asked first space (Reducing m union)
      → Runs dms statements asked first space Resting
