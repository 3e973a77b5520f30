use Rattle.sdd_exec.proofs.All.{List, Value, [], option_map_or, places, same_row, ◌++◌, ◌≡◌}
use Rattle.std.specs.HashMap as hash
use Rattle.sdd_exec.proofs.index.group_by_key.Given as goal

-- the places so far, with those of the pairs that are left, are all
abbrev pub invariant-pairs : goal.invariant-pairs
invariant-pairs l =
    (q : List Value) → option_map_or (λ v. v.items) (hash.get same_row l.index q) [] ++ places l.pair-iterator.rest.items q ≡ places l.fn.keyed.items q
