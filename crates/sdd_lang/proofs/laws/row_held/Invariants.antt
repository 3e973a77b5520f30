use Rattle.sdd_lang.proofs.All.{All, IsHeld, take}
use Rattle.sdd_lang.proofs.laws.row_held.Given as goal

abbrev pub invariant-loop-value : goal.invariant-loop-value
invariant-loop-value l = All IsHeld (take l.value-index l.row)
