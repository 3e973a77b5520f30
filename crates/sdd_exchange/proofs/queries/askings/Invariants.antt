use Rattle.sdd_exchange.proofs.All.{askings, drop, ◌*◌, ◌++◌, ◌≡◌, ◌≤◌}
use Rattle.sdd_exchange.proofs.queries.askings.Given as goal

abbrev pub invariant-loop-statement : goal.invariant-loop-statement
invariant-loop-statement l = record {
  few : l.before ≤ 6 * l.statement-index;
  queries : l.queries.items ++ askings l.before (drop l.statement-index l.text.statements) ≡ askings 0 l.text.statements;
}
