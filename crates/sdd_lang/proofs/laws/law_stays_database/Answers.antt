use Rattle.sdd_lang.proofs.StaysDatabase.{stays_database}
use Rattle.sdd_lang.proofs.laws.law_stays_database.Goals as goal

pub returns : goal.returns
returns c = stays_database c.args.catalogue.now c.law_is_sound.ensures.sound c.args.txn.now c.requires c.law_puts_held.ensures
