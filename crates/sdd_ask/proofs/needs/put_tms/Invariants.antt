use Rattle.sdd_ask.proofs.All.{flag_at, flat_map, needs_by, numbers_to, tm_word, ◌++◌, ◌-◌, ◌≡◌}
use Rattle.sdd_ask.proofs.needs.put_tms.Given as goal

-- the modules so far
abbrev pub invariant-loop-tm : goal.invariant-loop-tm
invariant-loop-tm l =
    l.out.items ≡ l.fn.out.items ++ flat_map (tm_word (needs_by l.catalogue (flag_at l.flags) l.class)) (numbers_to (l.tm - 1))
