use Rattle.sdd_running.proofs.All.{map, numbers_to, ◌-◌, ◌≡◌}
use Rattle.sdd_running.proofs.reads.all_modules.Given as goal

abbrev pub invariant-loop-number : goal.invariant-loop-number
invariant-loop-number l = map (λ n. n.0) l.dms.items ≡ numbers_to (l.number - 1)
