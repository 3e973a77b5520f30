use Rattle.sdd_app_inside.proofs.HasInside.{has_inside}
use Rattle.sdd_app_inside.proofs.law.law_has_inside.Goals as goal

pub returns : goal.returns
returns g = has_inside
