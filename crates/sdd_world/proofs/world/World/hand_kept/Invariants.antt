use Rattle.sdd_world.proofs.All.{Handing, Input, Log, Rising, position_of, kept_count, kept_from, mailbox_at, ◌≡◌}
use Rattle.sdd_world.proofs.world.World.hand_kept.Given as goal

abbrev pub invariant-loop-from : goal.invariant-loop-from
invariant-loop-from l = record {
  some : (given : Input) × (log : Log) × Handing l.self given log l.at (kept_from (mailbox_at l.self.spool l.at)) × Rising given l.self.spool l.at;
  so_far : (given : Input) (log : Log) → Handing l.fn.self given log l.at (kept_from (mailbox_at l.fn.self.spool l.at))
      → Rising given l.fn.self.spool l.at → (more : Log) × Handing
      l.self given more l.at (kept_from (mailbox_at l.self.spool l.at))
      × Rising given l.self.spool l.at × (position_of given more ≡ position_of given log);
}

abbrev pub decreases-loop-from : goal.decreases-loop-from
decreases-loop-from l = kept_count (mailbox_at l.self.spool l.at)
