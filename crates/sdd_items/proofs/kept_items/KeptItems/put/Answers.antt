use Rattle.sdd_items.proofs.All.{FitsSigned, rules, to_z-of_z, w64}
use Rattle.sdd_items.proofs.Ranges.{held_put, keyed_put}
use Rattle.sdd_items.proofs.kept_items.KeptItems.put.Goals as goal

pub invariant_of-self-2 : goal.invariant_of-self-2
invariant_of-self-2 c =
    let entries = c.self.inside.items.entries in
    let fits : FitsSigned w64 c.args.item.0 = search rules in
    rw (c.in_ok-insert.ensures.entries, to_z-of_z fits) (
      held_put entries c.args.item.0 c.args.item.1 c.self.invariant.0 fits,
      keyed_put c.self.inside.keyed c.keyed_with-self-inside.result c.self.inside.key entries c.args.item.0 c.args.item.1
          c.self.invariant.1 c.keyed_with-self-inside.ensures,
    )
