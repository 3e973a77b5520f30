use Rattle.sdd_watch.proofs.All.{ap, filter, takes_part, ◌∙◌}
use Rattle.sdd_watch.proofs.ReachedAlone.{reached_alone}
use Rattle.sdd_watch.proofs.taking_part.busy.Goals as goal

pub returns-then-is_on_link : goal.returns-then-is_on_link
returns-then-is_on_link c = λ g old new event found same home all.
    c.in_ok-busy.ensures
    ∙ reached_alone g old new c.args.arrived.now c.args.event.now same c.if-arrived-lt2.true event
    (λ found at. c.is_on_link.ensures c.if-is_on_link.true g new found at)

pub returns : goal.returns
returns c = λ g old new event found same home all.
    c.in_ok-busy-2.ensures g old new event found same home ∙ ap (filter (takes_part g old new)) all
