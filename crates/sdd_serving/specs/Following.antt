-- The exchange of an attempt follows a run.
use Rattle.std.specs.Prelude.{ℕ, ◌==◌, ◌≡◌, Bool, true, ◌&&◌, List}
use Rattle.sdd_laws.specs.All.{Stmt, Value}
use Rattle.sdd_rules.specs.All.{Asking, Exchange, Fetching, Has, Move, Msg, Over, Phase, Reading, Ready, Reduced, Reducing as Cutting, Rows, Shipping, Values, askings, with_use}
use Rattle.sdd_serving.specs.Reducing.{Space, TellsAll}
use Rattle.sdd_serving.specs.Runs.{Stage, Runs}
use Rattle.sdd_serving.specs.Runs.Stage.{Resting, Telling, Reducing}

-- the stage of the run, where in a phase these modules lack and these values came
abbrev pub stage_with : Phase → List ℕ → List Value → Stage
stage_with Reading lacks union = Resting
stage_with (Fetching m) lacks union = Telling m lacks union
stage_with (Cutting m) lacks union = Reducing m union
stage_with Shipping lacks union = Resting
stage_with Over lacks union = Resting

abbrev pub stage_of : Exchange → Stage
stage_of x = stage_with x.phase x.lacks x.union

pub record Follows (dms : List ℕ) (statements : List Stmt) (asked : ℕ → ℕ → Bool) (first space : Space) (x : Exchange) : Type 0 where
  pub runs : Runs dms statements asked first space (stage_of x)
  -- what may still be reduced are queries of the statements, and each module that was asked for a use is known to read it
  pub left : (q : Asking) → Has x.left q → Has (askings 0 statements) q
  pub modules : (d u : ℕ) → Has dms d → asked d u ≡ true → Has (with_use x u) d

-- no VALUES are awaited
abbrev pub AwaitsNoValues : Phase → Type 0
AwaitsNoValues (Fetching m) = ⊥
AwaitsNoValues _ = Unit {0}

-- What a message of module d to the attempt of class c with timestamp ts meets: VALUES come while they are awaited, and
-- tell all that the module holds; other answers come while none are awaited.
abbrev pub Suits : ℕ → ℕ → Space → ℕ → Exchange → Msg → Type 0
Suits ts c space d x (Ready t k counts) = ((t.0 == ts) && (k.0 == c)) ≡ true → AwaitsNoValues x.phase
Suits ts c space d x (Values t k u values) =
    ((t.0 == ts) && (k.0 == c)) ≡ true → (m : Move) × (x.phase ≡ Fetching m) × TellsAll (space d) m.source values
Suits ts c space d x (Reduced t k u n) = ((t.0 == ts) && (k.0 == c)) ≡ true → AwaitsNoValues x.phase
Suits ts c space d x (Rows t k rows) = ((t.0 == ts) && (k.0 == c)) ≡ true → AwaitsNoValues x.phase
Suits ts c space d x _ = Unit {0}
