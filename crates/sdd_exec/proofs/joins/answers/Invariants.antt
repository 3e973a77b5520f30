use Rattle.sdd_exec.proofs.All.{distinct, filter_map, length, row_from, take, ◌≡◌, ◌≤◌}
use Rattle.sdd_exec.proofs.joins.answers.Given as goal

abbrev pub invariant-loop-choice : goal.invariant-loop-choice
invariant-loop-choice l =
    record {
      rows : l.rows ≡ distinct (filter_map (row_from l.parts l.out l.conds) (take l.choice-index l.kept));
      few : length l.rows ≤ l.room;
    }
