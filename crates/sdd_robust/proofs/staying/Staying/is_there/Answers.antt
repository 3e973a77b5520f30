use Rattle.std.proofs.Common.{SFits as FitsSigned, rules, to_z-of_z, w64, ◌∙◌}
use Rattle.sdd_robust.proofs.Deleted.{there_so}
use Rattle.sdd_robust.proofs.staying.Staying.is_there.Goals as goal

pub returns : goal.returns
returns c =
    let fits : FitsSigned w64 c.args.key.now = search rules in
    rw (← c.self.view_is)
    (c.contains_key.ensures ∙ there_so c.args.rel.0 c.self.inside.rows.entries _ c.args.key.now (to_z-of_z fits))
