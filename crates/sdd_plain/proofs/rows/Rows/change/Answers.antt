use Rattle.sdd_plain.proofs.All.{FitsSigned, rules, to_z-of_z, w64, ◌∙◌}
use Rattle.sdd_plain.proofs.Changing.{change_to_none}
use Rattle.sdd_plain.proofs.rows.Rows.change.Goals as goal

pub returns-in-None : goal.returns-in-None
returns-in-None c =
    let fits : FitsSigned w64 c.args.change.key = search rules in
    (rw (to_z-of_z fits) at c.remove.ensures)
    ∙ change_to_none c.args.catalogue.now c.args.self.now c.args.change c.relation_of.result c.relation_of.ensures c.in-None.is
