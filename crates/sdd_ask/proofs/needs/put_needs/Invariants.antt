use Rattle.sdd_ask.proofs.All.{class_lines, flag_at, flat_map, needed_by, numbers_to, ◌++◌, ◌-◌, ◌≡◌}
use Rattle.sdd_ask.proofs.needs.put_needs.Given as goal

-- the lines of the classes so far
abbrev pub invariant-loop-class : goal.invariant-loop-class
invariant-loop-class l =
    l.out.items
    ≡ l.fn.out.items ++ flat_map (class_lines l.catalogue (needed_by l.catalogue (flag_at l.begun) (flag_at l.passing))) (numbers_to (l.class - 1))
