use Rattle.sdd_pipe.proofs.All.{drop, fold, with_room, ◌≡◌}
use Rattle.sdd_pipe.proofs.writes.make_entries.Given as goal

abbrev pub invariant-loop-change : goal.invariant-loop-change
invariant-loop-change l = fold with_room l.times.entries (drop l.change-index l.changes) ≡ fold with_room l.initial.times.entries l.changes
