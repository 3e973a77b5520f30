use Rattle.sdd_commands.proofs.All.{IsTrue, database_of, drop, map, replies_of, ◌++◌, ◌≡◌}
use Rattle.sdd_commands.proofs.serially.put_replies.Given as goal

-- what is written, and the replies of the transactions that are left, are all replies
abbrev pub invariant-txns : goal.invariant-txns
invariant-txns l = record {
  live : IsTrue l.plain.live;
  written : l.out.items ++ replies_of l.catalogue l.plain.value (map (λ t. t.now) (drop l.txn-index l.txns))
      ≡ l.fn.out.items ++ replies_of l.catalogue (database_of l.catalogue l.rows) (map (λ t. t.now) l.txns);
}
