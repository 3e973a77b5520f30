use Rattle.sdd_certify.proofs.All.{IsTrue, database_of, drop, lines_of, map, replies_on, slice_get, ◌≡◌}
use Rattle.sdd_certify.proofs.replies.replies_line.Given as goal

-- the line that is looked for stands behind so many of the replies of the transactions that are left
abbrev pub invariant-txns : goal.invariant-txns
invariant-txns l = record {
  live : IsTrue l.plain.live;
  left : slice_get (lines_of (replies_on l.catalogue l.plain.value (map (λ t. t.now) (drop l.txn-index l.txns)))) l.left
      ≡ slice_get (lines_of (replies_on l.catalogue (database_of l.catalogue l.rows) (map (λ t. t.now) l.txns))) l.skipped;
}
