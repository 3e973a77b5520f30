use Rattle.sdd_exec.proofs.All.{[], flat_map, key_for, length, map, option_map_or, picked, placed, same_row, take, ◌≡◌}
use Rattle.std.specs.HashMap as hash
use Rattle.sdd_exec.proofs.joins.extend_all.Given as goal

abbrev pub invariant-loop-choice : goal.invariant-loop-choice
invariant-loop-choice l =
    l.made.items
    ≡ flat_map (λ choice. map (placed (length l.parts) choice l.part)
    (option_map_or (λ v. v.items) (hash.get same_row l.index (key_for l.ties (picked l.parts choice))) [])) (take l.choice-index l.kept)
