use Rattle.sdd_script.proofs.All.{◌∙◌}
use Rattle.sdd_script.proofs.ClassNames.{named_by_number}
use Rattle.sdd_script.proofs.naming.has_class.Goals as goal

pub returns : goal.returns
returns c = c.has_numbered_class.ensures ∙ named_by_number c.args.catalogue.now c.args.name.now
