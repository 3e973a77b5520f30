use Rattle.sdd_short_runs.proofs.All.{take, without, ◌≡◌}
use Rattle.sdd_short_runs.proofs.orders.without.Given as goal

-- those of the numbers so far
abbrev pub invariant-numbers : goal.invariant-numbers
invariant-numbers l = l.rest.items ≡ without (take l.other-index l.numbers) l.fn.number
