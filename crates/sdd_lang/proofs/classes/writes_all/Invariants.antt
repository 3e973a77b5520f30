use Rattle.sdd_lang.proofs.All.{length, list_all, members, writes, ◌+◌, ◌-◌, ◌≡◌}
use Rattle.sdd_lang.proofs.FragSets.{pass_from}
use Rattle.sdd_lang.proofs.classes.writes_all.Given as goal

-- those that are left decide
abbrev pub invariant-loop-number : goal.invariant-loop-number
invariant-loop-number l =
    list_all (writes l.catalogue l.class.0) (members l.catalogue l.set) ≡ pass_from (writes l.catalogue l.class.0) l.set l.number (length l.catalogue.fragments + 1 - l.number)
