use Rattle.sdd_items.proofs.All.{FitsSigned, int_cmp, is_at, is_newer, lookup, rules, to_z-of_z, w64}
use Rattle.sdd_items.proofs.Writing.{kept_after}
use Rattle.sdd_items.proofs.kept_items.KeptItems.write.Goals as goal

pub invariant_of-self : goal.invariant_of-self
invariant_of-self c =
    let entries = c.self.inside.items.entries in
    let fits : FitsSigned w64 c.args.change.key = search rules in
    kept_after c.write_at.result (is_newer c.args.ts.0 (lookup (is_at (int_cmp c.args.change.key)) entries)) c.self.inside.keyed c.keyed_with-self-inside.result
    c.self.inside.key entries c.write_at.new.items.entries c.args.change.key (c.args.ts.0, c.args.change.row)
    (rw (to_z-of_z fits) at c.write_at.ensures.ok) c.write_at.ensures.same c.self.invariant fits
    (rw (to_z-of_z fits) at c.keyed_with-self-inside.ensures)

pub returns : goal.returns
returns c =
    let fits : FitsSigned w64 c.args.change.key = search rules in
    rw (← c.self.view_is) (rw (to_z-of_z fits) at c.write_at.ensures.ok)
