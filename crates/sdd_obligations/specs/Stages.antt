-- An exchange in lockstep: both sides have the same turn, but for one question or one answer that is under way.
use Rattle.std.specs.Prelude.{◌∷◌, ◌≡◌, List, [], drop}
use Rattle.sdd_invariants.specs.All.{Input, Log, Msg, Site, handed, local_of, puts_to}
use Rattle.sdd_obligations.specs.Turns.{MayAnswer, MayAsk, Turn, turn_after_answer, turn_after_question}

-- the messages of the link from a to b that are put and not handed over
abbrev pub flight : Input → Site → Site → Log → List Msg
flight g a b log = drop (handed a b log) (puts_to b (local_of g a log))

-- v is the turn at the site that asks and w the one at the data module; of the attempt these questions and these answers
-- are put and not handed over yet
pub data IsStage (v w : Turn) (qs xs : List Msg) : Type 0 where
  agreed : v ≡ w → qs ≡ [] → xs ≡ [] → IsStage v w qs xs
  question_goes : (m : Msg) → qs ≡ m ∷ [] → xs ≡ [] → v ≡ turn_after_question m w → MayAsk w m → IsStage v w qs xs
  answer_goes : (x : Msg) → qs ≡ [] → xs ≡ x ∷ [] → w ≡ turn_after_answer x v → MayAnswer v x → IsStage v w qs xs
