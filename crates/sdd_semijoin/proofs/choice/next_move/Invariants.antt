use Rattle.std.proofs.Common.{◌≡◌, ◌+◌, drop, filter}
use Rattle.sdd_semijoin.specs.Choosing.{moves_from, best_after}
use Rattle.sdd_semijoin.specs.Steps.{is_candidate, next_move}
use Rattle.sdd_semijoin.proofs.choice.next_move.Given as goal

abbrev pub invariant-loop-cond : goal.invariant-loop-cond
invariant-loop-cond l = record {
  number : l.number ≡ l.cond-index;
  best :
      best_after l.counts l.best
      (filter (is_candidate l.counts l.done) (moves_from (l.cond-index + 1) (drop l.cond-index l.conds)))
      ≡ next_move l.conds l.counts l.done;
}
