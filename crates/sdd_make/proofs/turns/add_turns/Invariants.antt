use Rattle.sdd_make.proofs.All.{events_of, turns, turns_of, txns_of, ◌++◌, ◌+◌, ◌-◌, ◌≡◌}
use Rattle.sdd_make.proofs.turns.add_turns.Given as goal

-- what was made so far and what is left are all of it
abbrev pub invariant-turns : goal.invariant-turns
invariant-turns l =
    (l.txns.items ++ txns_of (turns (l.n - l.i) (l.i + 1) l.random).0 ≡ l.fn.txns.items ++ txns_of (turns_of l.fn.random l.n))
    × (l.events.items ++ events_of (turns (l.n - l.i) (l.i + 1) l.random).0 ≡ l.fn.events.items ++ events_of (turns_of l.fn.random l.n))
