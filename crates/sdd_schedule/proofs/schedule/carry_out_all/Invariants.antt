use Rattle.sdd_schedule.proofs.All.{AreAllowed, Input, IsFollowed, Log, length, suc, with_events, ◌+◌, ◌≡◌}
use Rattle.sdd_schedule.proofs.schedule.carry_out_all.Given as goal

abbrev pub invariant-loop-event : goal.invariant-loop-event
invariant-loop-event t l = record {
  so_far : (given : Input) (log : Log) → IsFollowed l.fn.world (t.O.Observer.follows l.fn.observer) given log 1
      → AreAllowed given l.fn.events.items l.fn.lists.items
      → (now : Input) × (more : Log) × IsFollowed l.world (t.O.Observer.follows l.observer) now more (suc l.place)
      × AreAllowed now l.left.items l.further.items × (with_events now l.left.items ≡ with_events given l.fn.events.items);
  count : l.place + length l.left.items ≡ length l.fn.events.items;
}

abbrev pub decreases-loop-event : goal.decreases-loop-event
decreases-loop-event t l = length l.left.items
