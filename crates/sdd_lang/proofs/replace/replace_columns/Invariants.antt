use Rattle.sdd_lang.proofs.All.{assigned_all, drop, replaced, ◌≡◌}
use Rattle.sdd_lang.proofs.replace.replace_columns.Given as goal

-- what is left to assign makes of the row what all assignments make of the old one
abbrev pub invariant-sets : goal.invariant-sets
invariant-sets l = assigned_all l.old l.values.items (drop l.set-index l.sets) ≡ replaced l.sets l.old
