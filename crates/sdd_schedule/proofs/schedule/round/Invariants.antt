use Rattle.sdd_schedule.proofs.All.{Event, Input, Log, WithinRound, length, marks, ◌+◌, ◌≡◌}
use Rattle.sdd_schedule.proofs.schedule.round.Given as goal

abbrev pub invariant-loop-event : goal.invariant-loop-event
invariant-loop-event t l = record {
  so_far : (g : Input) (log : Log) (e : Event)
      → WithinRound l.fn.world (t.O.Observer.follows l.fn.observer) g log e l.fn.events.items l.fn.place l.fn.number
      → (more : Log) × WithinRound l.world (t.O.Observer.follows l.observer) g more e l.left.items l.fn.place l.fn.number
      × (marks more + length l.left.items ≡ marks log + length l.fn.events.items);
}

abbrev pub decreases-loop-event : goal.decreases-loop-event
decreases-loop-event t l = length l.left.items
