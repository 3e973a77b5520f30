use Rattle.sdd_make.proofs.Drawn.{turn_more, turns_end}
use Rattle.sdd_make.proofs.turns.add_turns.Goals as goal

pub turns-preserved : goal.turns-preserved
turns-preserved c =
    turn_more c.args.n c.turns.i c.turns.random c.add_turn.new.random c.turns.txns.items c.add_turn.new.txns.items _ c.turns.events.items c.add_turn.new.events.items _
    c.turns-test.true c.in_ok-add_turn.ensures.random c.in_ok-add_turn.ensures.txns c.in_ok-add_turn.ensures.events c.turns.invariant

pub returns-clause-txns : goal.returns-clause-txns
returns-clause-txns c = (turns_end c.args.n c.turns.i c.turns.random c.turns.txns.items _ c.turns.events.items _ c.turns-test.false c.turns.invariant).0

pub returns-clause-events : goal.returns-clause-events
returns-clause-events c = (turns_end c.args.n c.turns.i c.turns.random c.turns.txns.items _ c.turns.events.items _ c.turns-test.false c.turns.invariant).1
