use Rattle.sdd_copy.proofs.All.{drop, known_use, map, take, ◌++◌, ◌≡◌}
use Rattle.sdd_copy.proofs.space.Space.reduce.Given as goal

-- the uses so far are reduced
abbrev pub invariant-loop-one : goal.invariant-loop-one
invariant-loop-one l =
    l.one-items ≡ map (known_use l.use_no l.column l.known.keys) (take l.one-index l.initial.one-items)
    ++ drop l.one-index l.initial.one-items
