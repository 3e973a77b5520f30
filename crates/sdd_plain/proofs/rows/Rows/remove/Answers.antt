use Rattle.sdd_plain.proofs.All.{All-map-remove_entry, HasHeldKey, is_at, item_cmp}
use Rattle.sdd_plain.proofs.Near.{keyed_left}
use Rattle.sdd_plain.proofs.rows.Rows.remove.Goals as goal

pub invariant_of-self : goal.invariant_of-self
invariant_of-self c =
    let entries = c.self.inside.rows.entries in
    rw c.remove.ensures.entries (
      All-map-remove_entry (is_at (item_cmp c.args.item)) (λ e. e.0) HasHeldKey entries c.self.invariant.0,
      keyed_left c.self.inside.keyed c.self.inside.columns.items entries c.args.item c.self.invariant.1,
    )
