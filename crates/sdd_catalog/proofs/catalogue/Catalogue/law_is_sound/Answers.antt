use Rattle.sdd_catalog.proofs.Sound.{sound_whole}
use Rattle.sdd_catalog.proofs.catalogue.Catalogue.law_is_sound.Goals as goal

pub returns-clause-whole : goal.returns-clause-whole
returns-clause-whole c = rw (← c.self.view_is) (sound_whole _ c.self.invariant.sound)

pub returns-clause-named : goal.returns-clause-named
returns-clause-named c = rw (← c.self.view_is) c.self.invariant.named
