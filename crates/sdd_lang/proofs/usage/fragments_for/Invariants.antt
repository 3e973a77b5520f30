use Rattle.sdd_lang.proofs.All.{filter, frag_no, map, meets_keys, numbers_to, ◌-◌, ◌≡◌}
use Rattle.sdd_lang.proofs.usage.fragments_for.Given as goal

-- those of the numbers so far that hold such a key
abbrev pub invariant-loop-number : goal.invariant-loop-number
invariant-loop-number l = l.frags.items ≡ map frag_no (filter (meets_keys l.catalogue l.rel.0 l.keys) (numbers_to (l.number - 1)))
