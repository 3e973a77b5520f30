-- What is needed to tell an event says that it is over.
use Rattle.sdd_watch.proofs.All.{Calm, Foreseen, Found, Input, IsOver, IsTellable, IsToTell, Log, Turn, Watch, World, foreseen_by, found_by, ◌≡◌}

pub over_when : (g : Input) (old new : Log) (w : World) (watch : Watch) (turn : Turn) (foreseen : Foreseen) (found : Found)
    → IsToTell g old new w watch turn foreseen
    → ((g : Input) (old new : Log) → Calm w g new → IsTellable g turn.event → foreseen ≡ foreseen_by turn.event old → found ≡ found_by turn.event old new)
    → IsOver g old new w turn.event found
over_when g old new w watch turn foreseen found t finds =
    record { between = t.between; calm = t.calm; event_is = t.turn_is.event; found_is = finds g old new t.calm t.tellable t.foreseen_is }
