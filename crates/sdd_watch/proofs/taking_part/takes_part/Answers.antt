use Rattle.sdd_watch.proofs.TakingPart.{takes_otherwise, takes_reached}
use Rattle.sdd_watch.proofs.taking_part.takes_part.Goals as goal

pub returns-then-is_reached : goal.returns-then-is_reached
returns-then-is_reached c = λ g old new event found same home.
    takes_reached g old new c.args.at c.args.arrived.now c.is_reached.result c.is_reached.ensures same c.if-is_reached.true

pub returns : goal.returns
returns c = λ g old new event found same home.
    takes_otherwise g old new c.args.at c.args.arrived.now c.is_reached.result c.concerns.result c.args.event.now c.args.found.now c.is_reached.ensures
    same c.if-is_reached.false event found (c.concerns.ensures g new home)
