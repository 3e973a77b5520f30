use Rattle.sdd_watch.proofs.All.{U, takes_part}
use Rattle.sdd_moments.proofs.SoFar.{filtered_all, filtered_to}
use Rattle.sdd_watch.proofs.taking_part.busy_among.Goals as goal

pub loop-at-preserved : goal.loop-at-preserved
loop-at-preserved c = λ g old new event found same home.
    filtered_to (takes_part g old new) c.args.sites.now c.loop-at.at-index U c.loop-at.busy.items c.add_busy.new.busy.items c.loop-at-test.true
    (c.in_ok-add_busy.ensures g old new event found same home) (c.loop-at.invariant g old new event found same home)

pub returns : goal.returns
returns c = λ g old new event found same home.
    filtered_all (takes_part g old new) c.args.sites.now c.loop-at.at-index c.loop-at.busy.items c.loop-at-test.false
    (c.loop-at.invariant g old new event found same home)
