use Rattle.sdd_base.proofs.All.{drop, find_file, ◌≡◌}
use Rattle.sdd_base.proofs.memory_shelf.find.Given as goal

abbrev pub invariant-files : goal.invariant-files
invariant-files l = find_file l.files l.name ≡ find_file (drop l.i l.files) l.name
