use Rattle.std.proofs.Common.{arith}
use Rattle.std.proofs.lemmas.Grind.{elements}
use Rattle.sdd_schedule.proofs.All.{AreCommitted, history, pending_at_last, subst, ◌∙◌}
use Rattle.sdd_schedule.proofs.Lists.{chosen_more}
use Rattle.sdd_schedule.proofs.pending.pending_txns.Goals as goal

pub loop-entry-preserved : goal.loop-entry-preserved
loop-entry-preserved c = λ given log s.
    let is = c.as_slice-history.ensures ∙ c.history.ensures given log s.calm in
    chosen_more (pending_at_last given log (history log)) c.as_slice-history.result.now
    c.loop-entry.entry-index c.entry-item.result c.loop-entry.found.items c.add_pending.new.found.items
    c.loop-entry-test.true c.entry-item.is
    (c.in_ok-add_pending.ensures given log (history log) s (subst (AreCommitted c.in_ok-committed.committed) is c.in_ok-committed.ensures))
    (c.loop-entry.invariant given log s)

pub returns : goal.returns
returns c = grind (arith, elements)
