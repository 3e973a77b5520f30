-- An event of a run, between the log before it and the log after it.
use Rattle.std.specs.Prelude.{◌≡◌, ◌∷◌, ◌++◌}
use Rattle.sdd_world.specs.Represents.{Calm}
use Rattle.sdd_world.specs.declared.world.World.{World}
use Rattle.sdd_world.specs.needs.All.{Event, Input, IsPossible, Log, Mark, Redeclare, Redeclares, Rests, marks}
use Rattle.sdd_world.specs.needs.logs.Entries.{Entry}
use Rattle.sdd_schedule.specs.Places.{last_event, round_at, scheduled_at}
use Rattle.sdd_schedule.specs.declared.turn.Turn.{Turn}

-- an event, or a class list that is put in force
abbrev pub IsMark : Entry → Type 0
IsMark (Mark e) = Unit {0}
IsMark (Redeclares t) = Unit {0}
IsMark _ = ⊥

-- One event lies between two logs: after the first its mark is next, where a round that begins has its entry before it, and
-- after the second nothing more of it is due.
pub record IsBetween (g : Input) (old new : Log) : Type 0 where
  pub mark : Entry
  pub is_mark : IsMark mark
  pub more : Log
  pub parts : new ≡ more ++ mark ∷ old
  pub no_marks : marks more ≡ 0
  pub before : Rests g old
  pub after : Rests g new

-- where the event stands in the schedule
pub record IsTurn (g : Input) (old new : Log) (turn : Turn) : Type 0 where
  pub event : turn.event ≡ last_event new
  pub scheduled : turn.scheduled ≡ scheduled_at g old
  pub round : turn.round ≡ round_at g old

-- what names there are in an event: a class list that is put in force names nothing
abbrev pub IsTellable : Input → Event → Type 0
IsTellable g Redeclare = Unit {0}
IsTellable g e = IsPossible g e

-- What an observer follows next: one event lies between two logs, the world is that after it, and this is what the event is
-- and where it stands.
pub record IsToFollow (g : Input) (old new : Log) (w : World) (turn : Turn) : Type 0 where
  pub between : IsBetween g old new
  pub calm : Calm w g new
  pub turn_is : IsTurn g old new turn
  pub tellable : IsTellable g turn.event
