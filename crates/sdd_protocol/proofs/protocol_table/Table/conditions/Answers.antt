use Rattle.sdd_protocol.proofs.All.{condition_by, is_marked, up_to}
use Rattle.sdd_protocol.proofs.CollectedValues.{chosen_more}
use Rattle.sdd_protocol.proofs.protocol_table.Table.conditions.Goals as goal

pub loop-writer-preserved : goal.loop-writer-preserved
loop-writer-preserved c =
    chosen_more (condition_by (is_marked c.args.asked.now) c.args.self.now c.args.attempt)
    _ _ c.loop-writer.writer _ _ (up_to c.loop-writer.writer c.loop-writer.auto.writer)
    c.loop-writer.invariant c.in_ok-add_condition.ensures
