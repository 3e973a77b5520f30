use Rattle.sdd_pipe.proofs.All.{drop, fold, with_write, ◌≡◌}
use Rattle.sdd_pipe.proofs.writes.raise_entries.Given as goal

abbrev pub invariant-loop-change : goal.invariant-loop-change
invariant-loop-change l =
    fold (with_write l.time) l.times.entries (drop l.change-index l.changes) ≡ fold (with_write l.time) l.initial.times.entries l.changes
