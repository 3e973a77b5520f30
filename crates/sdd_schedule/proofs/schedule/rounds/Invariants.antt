use Rattle.sdd_schedule.proofs.All.{BetweenTwo, Input, IsFollowed, IsGood, Log, TakesRounds, events_of, with_event, ◌-◌, ◌^◌}
use Rattle.sdd_schedule.proofs.schedule.rounds.Given as goal

abbrev pub invariant-rounds : goal.invariant-rounds
invariant-rounds t l = record {
  so_far : (g : Input) (log : Log) → IsFollowed l.fn.world (t.O.Observer.follows l.fn.observer) g log l.fn.place → TakesRounds l.fn.event
      → IsGood (with_event g l.fn.event)
      → (more : Log) × BetweenTwo l.world (t.O.Observer.follows l.observer) (with_event g l.fn.event) more l.fn.event l.fn.place l.number;
}

abbrev pub decreases-rounds : goal.decreases-rounds
decreases-rounds t l = 2 ^ 32 - events_of l.world
