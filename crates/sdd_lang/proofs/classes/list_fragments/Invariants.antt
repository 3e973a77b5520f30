use Rattle.sdd_lang.proofs.All.{filter, frag_no, has, map, numbers_to, ◌-◌, ◌≡◌}
use Rattle.sdd_lang.proofs.classes.list_fragments.Given as goal

-- the members among the numbers so far
abbrev pub invariant-loop-number : goal.invariant-loop-number
invariant-loop-number l = l.frags.items ≡ map frag_no (filter (has l.set) (numbers_to (l.number - 1)))
