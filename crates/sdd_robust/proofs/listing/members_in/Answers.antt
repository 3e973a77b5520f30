use Rattle.std.proofs.Common.{arith, rules, sym}
use Rattle.sdd_lang.specs.All.{database_of}
use Rattle.sdd_robust.specs.Members.{members_of}
use Rattle.sdd_robust.proofs.Workloads.{members_more}
use Rattle.sdd_robust.proofs.listing.members_in.Goals as goal

pub txns-preserved : goal.txns-preserved
txns-preserved c =
    let first = database_of c.args.catalogue.now c.args.rows.now in
    let counted = c.txns.invariant.counted in
    record {
      counted = omega (arith, counted);
      all_are = members_more c.args.catalogue.now c.args.txns.now first c.args.txns.now c.txns.place c.txns.txn-index c.txns.all.items
          c.push.new.self.items (members_of c.args.catalogue.now c.args.txns.now first) c.txn-item.result c.in_ok-member_at.field-0
          (omega arith) (sym c.txn-item.is) (search rules) c.in_ok-push.ensures.items c.txns.invariant.all_are;
    }
