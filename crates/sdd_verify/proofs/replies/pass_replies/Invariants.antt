use Rattle.sdd_verify.proofs.All.{IsTrue, database_of, drop, lines_of, map, passed, replies_on, ◌≡◌}
use Rattle.sdd_verify.proofs.replies.pass_replies.Given as goal

-- the replies of the transactions that are left have to come before the lines that are left
abbrev pub invariant-txns : goal.invariant-txns
invariant-txns l = record {
  live : IsTrue l.plain.live;
  left : passed l.lines.number (lines_of (replies_on l.catalogue l.plain.value (map (λ t. t.now) (drop l.txn-index l.txns)))) (lines_of l.lines.bytes.now)
      ≡ passed l.report.number (lines_of (replies_on l.catalogue (database_of l.catalogue l.rows) (map (λ t. t.now) l.txns))) (lines_of l.report.bytes.now);
}
