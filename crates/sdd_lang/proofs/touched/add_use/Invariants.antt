use Rattle.sdd_lang.proofs.All.{filter, meets_keys, members, numbers_to, put_all, ◌-◌, ◌≡◌}
use Rattle.sdd_lang.proofs.touched.add_use.Given as goal

-- those of the numbers so far that hold such a key are added
abbrev pub invariant-loop-number : goal.invariant-loop-number
invariant-loop-number l =
    members l.catalogue l.set ≡ put_all (members l.catalogue l.fn.set) (filter (meets_keys l.catalogue l.rel.0 l.keys) (numbers_to (l.number - 1)))
