use Rattle.sdd_exec.proofs.All.{flat_map, map, placed, take, ◌≡◌}
use Rattle.sdd_exec.proofs.joins.extend_each.Given as goal

abbrev pub invariant-loop-choice : goal.invariant-loop-choice
invariant-loop-choice l =
    l.made.items ≡ flat_map (λ choice. map (placed l.parts choice l.part) l.places) (take l.choice-index l.kept)
