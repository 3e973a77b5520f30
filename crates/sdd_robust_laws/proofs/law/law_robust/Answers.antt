use Rattle.sdd_robust_laws.proofs.Theorems.{shown_is_robust}
use Rattle.sdd_robust_laws.proofs.law.law_robust.Goals as goal

pub returns : goal.returns
returns c = shown_is_robust c.args.catalogue.now c.law_is_sound.ensures.sound
