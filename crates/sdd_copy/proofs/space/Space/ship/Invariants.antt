use Rattle.sdd_copy.proofs.All.{all_rows, flat_map, map, ◌++◌, ◌≡◌}
use Rattle.sdd_copy.proofs.space.Space.ship.Given as goal

-- the rows so far, with those of the uses that are left
abbrev pub invariant-loop-number : goal.invariant-loop-number
invariant-loop-number l = l.all.items ++ flat_map (λ e. map (λ row. (e.0, row)) e.1) l.number-iterator.rest.items ≡ all_rows l.fn.self

-- and with those of this use
abbrev pub invariant-loop-row : goal.invariant-loop-row
invariant-loop-row l =
    l.all.items ++ map (λ row. (l.number, row)) l.row-iterator.rest.items
    ≡ l.initial.all.items ++ map (λ row. (l.number, row)) l.initial.row-iterator.rest.items
