use Rattle.sdd_laws.proofs.CopyValues.{any_order}
use Rattle.sdd_laws.proofs.contents_law.law_any_order.Goals as goal

pub returns : goal.returns
returns g c = any_order c.args.catalogue.now c.law_is_sound.ensures.sound
