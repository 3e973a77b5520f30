-- What the calls of the module promise of its parts.
use Rattle.std.specs.Prelude.{◌∷◌, map}
use Rattle.sdd_counts.specs.rules.All.{Bases, Catalogue, Log, Notes, Reached, Setting, at_zero, numbers_to}
use Rattle.sdd_attempt.specs.All.{no_line}
use Rattle.sdd_counts.specs.rules.umod.Due.{next}
use Rattle.sdd_counts.specs.Counts.{no_counts}
use Rattle.sdd_counts.specs.Serving.{nothing_served}
use Rattle.sdd_counts.specs.rules.umod.State.{State}
use Rattle.sdd_umod.specs.Represents.{IsAmid}

-- From one state acts were made to another, each of which was due, and this is what was noted for them: by whatever log
-- the first state was kept, and for whatever databases.
abbrev pub Works : State → State → Notes → Notes → Type 0
Works before now old new = (s : Setting) (bases : Bases) (log : Log) → IsAmid s bases before log
    → Reached (IsAmid s bases) (next s bases) (λ e l. e ∷ l) log now old new

-- before the first message
abbrev pub first_state : Catalogue → State
first_state cat = record {
  line = no_line cat 0;
  clock = at_zero 0;
  served = nothing_served;
  counts = map no_counts (numbers_to cat.tms);
}
