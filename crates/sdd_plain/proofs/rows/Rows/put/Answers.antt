use Rattle.sdd_plain.proofs.All.{All-keys-insert_entry, HasHeldKey, item_cmp, rules}
use Rattle.sdd_plain.proofs.Near.{keyed_inserted}
use Rattle.sdd_plain.proofs.rows.Rows.put.Goals as goal

pub invariant_of-self-2 : goal.invariant_of-self-2
invariant_of-self-2 c =
    let entries = c.self.inside.rows.entries in
    let columns = c.self.inside.columns.items in
    rw c.in_ok-insert.ensures.entries (
      All-keys-insert_entry item_cmp c.args.item c.args.row HasHeldKey entries c.self.invariant.0 (search rules),
      keyed_inserted c.self.inside.keyed c.keyed_with-self-inside.result columns entries c.args.item c.args.row c.self.invariant.1
          (rw c.as_slice.ensures.value at c.keyed_with-self-inside.ensures),
    )
