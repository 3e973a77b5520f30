use Rattle.sdd_exec.proofs.All.{map, placed, take, ◌++◌, ◌≡◌}
use Rattle.sdd_exec.proofs.joins.extend.Given as goal

abbrev pub invariant-loop-place : goal.invariant-loop-place
invariant-loop-place l = l.kept.items ≡ l.fn.kept.items ++ map (placed l.parts l.choice l.part) (take l.place-index l.places)
