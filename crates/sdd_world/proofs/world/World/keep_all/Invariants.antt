use Rattle.sdd_world.proofs.All.{Input, Keeping, Log, length, ◌≡◌}
use Rattle.sdd_world.proofs.world.World.keep_all.Given as goal

abbrev pub invariant-loop-msg : goal.invariant-loop-msg
invariant-loop-msg l = record {
  same : l.self ≡ record l.fn.self { spool = l.self.spool };
  some : (given : Input) × (log : Log) × Keeping given log l.self.spool l.from l.at l.queue.items;
  so_far : (given : Input) (log : Log) → Keeping given log l.fn.self.spool l.from l.at l.fn.messages
      → Keeping given log l.self.spool l.from l.at l.queue.items;
}

abbrev pub decreases-loop-msg : goal.decreases-loop-msg
decreases-loop-msg l = length l.queue.items
