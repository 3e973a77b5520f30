-- What the calls of a transaction module promise of their parts.
use Rattle.std.specs.Prelude.{ℕ, ◌==◌, false, List, [], ◌∷◌, map, filter, length}
use Rattle.sdd_asks.specs.rules.All.{Bases, Catalogue, Era, Log, Notes, Reached, Setting, at_zero, class_at, numbers_to}
use Rattle.sdd_attempt.specs.All.{no_line}
use Rattle.sdd_asks.specs.rules.tm.Due.{next}
use Rattle.sdd_asks.specs.rules.tm.State.{ClassState, State}
use Rattle.sdd_tm.specs.Represents.{IsAmid}

-- From one state acts were made to another, each of which was due, and this is what was noted for them: by whatever log
-- the first state was kept, and for whatever databases.
abbrev pub Works : State → State → Notes → Notes → Type 0
Works before now old new = (s : Setting) (bases : Bases) (log : Log) → IsAmid s bases before log
    → Reached (IsAmid s bases) (next s bases) (λ e l. e ∷ l) log now old new

-- before the first message: the first classes are in force, and none has a transaction

abbrev pub first_class : Catalogue → ℕ → ClassState
first_class cat c = record { line = no_line cat c; asks = [] }

abbrev pub classes_of : Catalogue → ℕ → List ℕ
classes_of cat tm = filter (λ c. (class_at cat c).tm.0 == tm) (numbers_to (length cat.classes))

abbrev pub first_state : Catalogue → Era → ℕ → State
first_state whole era tm = record {
  era = era;
  clock = at_zero tm;
  on_hold = false;
  owes_held = false;
  classes = map (first_class whole) (classes_of whole tm);
}
