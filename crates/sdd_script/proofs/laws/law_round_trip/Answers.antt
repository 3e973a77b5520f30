use Rattle.sdd_script.proofs.KnownCatalogues.{reads_again, reads_spelling}
use Rattle.sdd_script.proofs.laws.law_round_trip.Goals as goal

pub returns-clause-again : goal.returns-clause-again
returns-clause-again c = reads_again c.args.catalogue.now c.law_is_sound.ensures.sound c.law_is_sound.ensures.whole c.law_is_sound.ensures.named

pub returns-clause-spelled : goal.returns-clause-spelled
returns-clause-spelled c = reads_spelling c.args.catalogue.now c.law_is_sound.ensures.sound c.law_is_sound.ensures.whole
