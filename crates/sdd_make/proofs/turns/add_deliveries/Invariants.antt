use Rattle.sdd_make.proofs.All.{deliveries, ◌++◌, ◌-◌, ◌≡◌}
use Rattle.sdd_make.proofs.turns.add_deliveries.Given as goal

-- the events so far and those that are left are all of them, and so for the state
abbrev pub invariant-deliveries : goal.invariant-deliveries
invariant-deliveries l =
    (l.events.items ++ (deliveries (l.count - l.counter) l.random).0 ≡ l.fn.events.items ++ (deliveries l.count l.fn.random).0)
    × ((deliveries (l.count - l.counter) l.random).1 ≡ (deliveries l.count l.fn.random).1)
