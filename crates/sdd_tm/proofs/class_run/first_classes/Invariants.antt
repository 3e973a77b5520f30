use Rattle.sdd_tm.proofs.All.{first_class, map, ◌-◌, ◌≡◌}
use Rattle.sdd_tm.proofs.FirstClasses.{classes_to}
use Rattle.sdd_tm.proofs.class_run.first_classes.Given as goal

abbrev pub invariant-loop-number : goal.invariant-loop-number
invariant-loop-number l = l.runs.items ≡ map (first_class l.catalogue) (classes_to l.catalogue l.tm.0 (l.number - 1))
