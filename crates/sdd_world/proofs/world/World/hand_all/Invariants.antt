use Rattle.sdd_world.proofs.All.{HandedOn, Handing, Input, IsLinkOf, Log, position_of, from_one, length}
use Rattle.sdd_world.proofs.world.World.hand_all.Given as goal

abbrev pub invariant-loop-msg : goal.invariant-loop-msg
invariant-loop-msg l = record {
  some : (given : Input) × (log : Log) × IsLinkOf given l.from l.to × Handing l.self given log l.to (from_one l.from l.queue.items);
  so_far : (given : Input) (log : Log) → IsLinkOf given l.from l.to
      → Handing l.fn.self given log
      l.to (from_one l.from l.fn.messages)
      → HandedOn l.self given l.to
      (from_one l.from l.queue.items) (position_of given log) l.fn.self.spool;
}

abbrev pub decreases-loop-msg : goal.decreases-loop-msg
decreases-loop-msg l = length l.queue.items
