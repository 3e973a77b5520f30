use Rattle.sdd_exec.proofs.All.{distinct, filter_map, length, take, ◌≡◌, ◌≤◌}
use Rattle.sdd_exec.proofs.Product.{row_of_lent}
use Rattle.sdd_exec.proofs.joins.answers_of_one.Given as goal

abbrev pub invariant-loop-row : goal.invariant-loop-row
invariant-loop-row l =
    record {
      found : l.found ≡ distinct (filter_map (row_of_lent l.out l.conds) (take l.row-index l.rows));
      few : length l.found ≤ l.room;
    }
