use Rattle.sdd_copy.proofs.All.{None, ascend, drop, option_copied, ◌≡◌}
use Rattle.sdd_copy.proofs.freezing.ascend.Given as goal

-- the rows that are left ascend from the last one as all do
abbrev pub invariant-loop-row : goal.invariant-loop-row
invariant-loop-row l = ascend (option_copied l.last) (drop l.row-index l.rows) ≡ ascend None l.rows
