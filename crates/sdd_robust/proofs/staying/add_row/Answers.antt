use Rattle.std.proofs.Common.{SFits as FitsSigned, rules, to_z-of_z, w64, ◌∙◌}
use Rattle.sdd_robust.proofs.Deleted.{row_put}
use Rattle.sdd_robust.proofs.staying.add_row.Goals as goal

pub returns : goal.returns
returns c =
    let fits : FitsSigned w64 c.key_of-key.result = search rules in
    row_put c.args.rel.0 c.args.found.now.entries c.insert.new.self.entries _ _ c.args.row (to_z-of_z fits ∙ c.key_of-key.ensures)
    c.in_ok-insert.ensures.entries
