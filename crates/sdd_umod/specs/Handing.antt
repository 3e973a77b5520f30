-- What becomes of what the module keeps when a message is handed to it, or a transaction is given to it.
use Rattle.std.specs.Prelude.{ℕ, ◌/◌, ◌<◌, ◌^◌, List, [], ◌∷◌, ◌++◌, map}
use Rattle.sdd_counts.specs.rules.All.{Done, Held, Msg, Site, T, Ticking, Txn, active_handed, pushed}
use Rattle.sdd_counts.specs.Counts.{counted}
use Rattle.sdd_counts.specs.Serving.{done_after_message}
use Rattle.sdd_counts.specs.declared.tm_count.Sign.TheVariants as signs
use Rattle.sdd_counts.specs.rules.umod.Views.{Served, TmCounts}
use Rattle.sdd_counts.specs.rules.umod.State.{State}

-- a message: of those that come to the module a HELD alone pushes its clock

abbrev pub clock_after_message : Msg → Ticking → Ticking
clock_after_message (Held time) k = pushed k time.0
clock_after_message _ k = k

-- a clock has room for that
abbrev pub IsEarly : Msg → Type 0
IsEarly (Held time) = time.0 / 64 < 2 ^ 57
IsEarly _ = Unit {0}

abbrev pub served_after_message : Msg → Served → Served
served_after_message (Done ts) served = done_after_message ts.0 served
served_after_message _ served = served

-- a HELD of a T counts
abbrev pub held_from : Site → List TmCounts → List TmCounts
held_from (T tm) counts = map (counted signs.Held tm.0) counts
held_from _ counts = counts

abbrev pub counts_after_message : Site → Msg → List TmCounts → List TmCounts
counts_after_message from (Held time) counts = held_from from counts
counts_after_message from _ counts = counts

abbrev pub with_counted_message : Site → Msg → State → State
with_counted_message from m state = record state {
  clock = clock_after_message m state.clock;
  served = served_after_message m state.served;
  counts = counts_after_message from m state.counts;
}

abbrev pub state_handed : Site → Msg → State → State
state_handed from m state = record (with_counted_message from m state) {
  line = record state.line { active = active_handed state.line.class from m state.line.active };
}

-- a transaction goes to the end of the queue
abbrev pub state_given : ℕ → Txn → State → State
state_given n txn state = record state {
  line = record state.line { queue = state.line.queue ++ record { number = n; text = txn; tries = 0 } ∷ [] };
}
