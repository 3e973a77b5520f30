use Rattle.sdd_lang.proofs.EffectChanges.{changes_items, are_placed, one_an_item, lie_in_write_set}
use Rattle.sdd_lang.proofs.laws.law_changes.Goals as goal

pub returns-clause-items : goal.returns-clause-items
returns-clause-items c = changes_items c.args.catalogue.now c.law_is_sound.ensures.sound c.args.txn.now c.requires c.law_puts_held.ensures

pub returns-clause-placed : goal.returns-clause-placed
returns-clause-placed c = are_placed c.args.catalogue.now c.law_is_sound.ensures.sound c.args.txn.now c.requires c.law_puts_held.ensures

pub returns-clause-written : goal.returns-clause-written
returns-clause-written c = lie_in_write_set c.args.catalogue.now c.law_is_sound.ensures.sound c.args.txn.now c.requires

pub returns-clause-once : goal.returns-clause-once
returns-clause-once c = one_an_item c.args.catalogue.now c.law_is_sound.ensures.sound c.args.txn.now c.requires c.law_puts_held.ensures
