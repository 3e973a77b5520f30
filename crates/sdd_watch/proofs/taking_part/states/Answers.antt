use Rattle.sdd_watch.proofs.All.{All-get_or, IsSiteOf, U, state_of}
use Rattle.sdd_moments.proofs.SoFar.{mapped_all, mapped_to}
use Rattle.sdd_watch.proofs.taking_part.states.Goals as goal

pub state-requires : goal.state-requires
state-requires c =
    let r = c.requires in
    (r.0, r.1, All-get_or (IsSiteOf r.0) c.args.busy.now c.loop-at.at-index U c.loop-at-test.true r.4, r.2)

pub loop-at-preserved : goal.loop-at-preserved
loop-at-preserved c = λ g log calm dones all.
    mapped_to (state_of g log) c.args.busy.now c.loop-at.at-index U c.loop-at.states.items c.push.new.self.items c.in_ok-state.field-0 c.loop-at-test.true
    (c.in_ok-state.ensures g log (All-get_or (IsSiteOf g) c.args.busy.now c.loop-at.at-index U c.loop-at-test.true all) calm dones)
    c.in_ok-push.ensures.items (c.loop-at.invariant g log calm dones all)

pub returns : goal.returns
returns c = λ g log calm dones all.
    mapped_all (state_of g log) c.args.busy.now c.loop-at.at-index c.loop-at.states.items c.loop-at-test.false (c.loop-at.invariant g log calm dones all)
