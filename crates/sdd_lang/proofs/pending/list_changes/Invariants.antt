use Rattle.sdd_lang.proofs.All.{change_of, map, ◌≡◌}
use Rattle.sdd_lang.proofs.pending.list_changes.Given as goal

-- the changes so far
abbrev pub invariant-changes : goal.invariant-changes
invariant-changes l = l.changes.items ≡ map change_of l.yielded
