use Rattle.std.proofs.Common.{drop, ◌++◌, ◌≡◌}
use Rattle.sdd_lang.specs.All.{database_of}
use Rattle.sdd_robust.specs.Members.{members_from, members_of}
use Rattle.sdd_robust.proofs.listing.members_in.Given as goal

-- with the transactions that are left these are all
abbrev pub invariant-txns : goal.invariant-txns
invariant-txns l = record {
  counted : l.place ≡ l.txn-index;
  all_are : l.all.items ++ members_from l.catalogue l.txns (database_of l.catalogue l.rows) l.place (drop l.txn-index l.txns)
      ≡ members_of l.catalogue l.txns (database_of l.catalogue l.rows);
}
