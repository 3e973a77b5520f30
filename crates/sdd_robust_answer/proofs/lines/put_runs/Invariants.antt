use Rattle.std.proofs.Common.{map, take, ◌++◌, ◌≡◌}
use Rattle.sdd_robust_answer.specs.Answers.{run_lines}
use Rattle.sdd_robust_answer.proofs.lines.put_runs.Given as goal

-- the lines of the transactions so far are written
abbrev pub invariant-txns : goal.invariant-txns
invariant-txns l = l.out.items ≡ l.fn.out.items ++ run_lines (map (λ t. t.now) (take l.txn-index l.txns))
