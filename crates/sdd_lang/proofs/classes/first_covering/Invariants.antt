use Rattle.sdd_lang.proofs.All.{class_for, length, ◌+◌, ◌-◌, ◌≡◌}
use Rattle.sdd_lang.proofs.Firsts.{first_from}
use Rattle.sdd_lang.proofs.classes.first_covering.Given as goal

-- none so far covers it
abbrev pub invariant-loop-class : goal.invariant-loop-class
invariant-loop-class l = class_for l.catalogue l.txn ≡ first_from l.catalogue l.txn l.class (length l.catalogue.classes + 1 - l.class)
