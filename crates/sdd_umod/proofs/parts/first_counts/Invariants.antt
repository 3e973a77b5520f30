-- Those before the number at hand are there.
use Rattle.sdd_umod.proofs.All.{map, no_counts, numbers_to, ◌-◌, ◌≡◌}
use Rattle.sdd_umod.proofs.parts.first_counts.Given as goal

abbrev pub invariant-loop-tm : goal.invariant-loop-tm
invariant-loop-tm l = l.counts.items ≡ map no_counts (numbers_to (l.tm - 1))
