use Rattle.sdd_watch.proofs.All.{All, AreDones, Calm, Input, IsSiteOf, Log, map, state_of, take, ◌≡◌}
use Rattle.sdd_watch.proofs.taking_part.states.Given as goal

-- those so far
abbrev pub invariant-loop-at : goal.invariant-loop-at
invariant-loop-at l = (g : Input) (log : Log) → Calm l.world g log → AreDones g log l.dones → All (IsSiteOf g) l.busy
    → l.states.items ≡ map (state_of g log) (take l.at-index l.busy)
