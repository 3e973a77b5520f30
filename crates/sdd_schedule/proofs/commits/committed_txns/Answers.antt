use Rattle.sdd_schedule.proofs.All.{commits, contains, nat_cmp}
use Rattle.sdd_schedule.proofs.Lists.{any_more}
use Rattle.sdd_schedule.proofs.commits.committed_txns.Goals as goal

pub loop-entry-preserved : goal.loop-entry-preserved
loop-entry-preserved c = λ n.
    any_more (commits n) c.args.history.now c.loop-entry.entry-index c.entry-item.result
    (contains nat_cmp c.loop-entry.numbers n) (contains nat_cmp c.add_committed.new.numbers n)
    c.loop-entry-test.true c.entry-item.is (c.in_ok-add_committed.ensures n) (c.loop-entry.invariant n)
