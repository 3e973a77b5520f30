use Rattle.sdd_changed.proofs.All.{FitsSigned, rules, to_z-of_z, w64, ◌∙◌}
use Rattle.sdd_changed.proofs.Chosen.{made_none}
use Rattle.sdd_changed.proofs.matching.make_change.Goals as goal

pub returns-in-None : goal.returns-in-None
returns-in-None c =
    let fits : FitsSigned w64 c.args.change.now.key = search rules in
    (rw (to_z-of_z fits) at c.remove.ensures)
    ∙ made_none c.args.conds.now c.args.rows.now.entries (c.args.rel.0, c.args.change.now.key) c.args.change.now.row c.in-None.is
