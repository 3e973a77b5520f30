use Rattle.sdd_lang.proofs.All.{is_some, length, list_all, members, reads_at, ◌+◌, ◌-◌, ◌≡◌}
use Rattle.sdd_lang.proofs.FragSets.{pass_from}
use Rattle.sdd_lang.proofs.classes.reads_all.Given as goal

-- those that are left decide
abbrev pub invariant-loop-number : goal.invariant-loop-number
invariant-loop-number l =
    list_all (λ f. is_some (reads_at l.catalogue l.class.0 f)) (members l.catalogue l.set) ≡ pass_from (λ f. is_some (reads_at l.catalogue l.class.0 f)) l.set l.number
    (length l.catalogue.fragments + 1 - l.number)
