use Rattle.sdd_lang.proofs.All.{All, IsHeld, take}
use Rattle.sdd_lang.proofs.laws.law_rows_held.Given as goal

abbrev pub invariant-loop-row : goal.invariant-loop-row
invariant-loop-row l = All (λ r. All IsHeld r.1) (take l.row-index l.rows)
