-- A module before its first message represents the log of what is in force.
use Rattle.sdd_tm.proofs.All.{Era, refl}
use Rattle.sdd_tm.proofs.Calls.{new_represents}
use Rattle.sdd_tm.proofs.txn_module.TxnModule.new.Goals as goal

pub returns : goal.returns
returns c =
    let era : Era = record { catalogue = c.args.catalogue.now; table = c.args.table.now } in
    new_represents (record { live = _; value = c.in_ok-new.field-0 }) c.args.whole.now era c.args.tm refl
    c.in_ok-new.ensures c.law_is_sound.ensures.sound c.law_is_sound.ensures.whole c.requires
