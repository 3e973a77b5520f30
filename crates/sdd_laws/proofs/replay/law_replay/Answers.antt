use Rattle.sdd_laws.proofs.Replayed.{gives_replies, leaves_copies}
use Rattle.sdd_laws.proofs.replay.law_replay.Goals as goal

pub returns-clause-replies : goal.returns-clause-replies
returns-clause-replies c =
    gives_replies c.args.catalogue.now c.law_is_sound.ensures.sound c.args.eras.now c.requires.fit.are_eras c.args.rows.now c.args.txns.now c.args.history.now
    c.requires.fit.txns_fit c.texts_held.ensures c.requires.starts c.requires.answers c.requires.applies c.law_rows_make_database.ensures c.args.order.now c.requires.order

pub returns-clause-copies : goal.returns-clause-copies
returns-clause-copies c =
    leaves_copies c.args.catalogue.now c.law_is_sound.ensures.sound c.args.eras.now c.requires.fit.are_eras c.args.rows.now c.args.txns.now c.args.history.now
    c.requires.fit.txns_fit c.texts_held.ensures c.requires.starts c.requires.answers c.requires.applies c.law_rows_make_database.ensures c.args.order.now c.requires.order
