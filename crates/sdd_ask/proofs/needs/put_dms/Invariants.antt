use Rattle.sdd_ask.proofs.All.{dm_word, flag_at, flat_map, needs_by, numbers_to, ◌++◌, ◌-◌, ◌≡◌}
use Rattle.sdd_ask.proofs.needs.put_dms.Given as goal

-- the modules so far
abbrev pub invariant-loop-dm : goal.invariant-loop-dm
invariant-loop-dm l =
    l.out.items ≡ l.fn.out.items ++ flat_map (dm_word (needs_by l.catalogue (flag_at l.flags) l.class)) (numbers_to (l.dm - 1))
