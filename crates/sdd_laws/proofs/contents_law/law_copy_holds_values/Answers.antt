use Rattle.sdd_laws.proofs.CopyValues.{holds_values}
use Rattle.sdd_laws.proofs.contents_law.law_copy_holds_values.Goals as goal

pub returns : goal.returns
returns g c = holds_values c.args.catalogue.now c.law_is_sound.ensures.sound
