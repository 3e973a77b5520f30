use Rattle.sdd_lang.proofs.All.{[]}
use Rattle.sdd_lang.proofs.StatementSets.{part_put}
use Rattle.sdd_lang.proofs.touched.Touched.add_change.Goals as goal

pub returns-clause-reads : goal.returns-clause-reads
returns-clause-reads c =
    part_put c.args.catalogue.now _ _ 1 c.args.conds.now c.args.rel [] c.relation.result.now c.keys_of-keys.result
    c.relation.ensures c.keys_of-keys.ensures c.add_changed.ensures.reads

pub returns-clause-writes : goal.returns-clause-writes
returns-clause-writes c =
    part_put c.args.catalogue.now _ _ 1 c.args.conds.now c.args.rel [] c.relation.result.now c.keys_of-keys.result
    c.relation.ensures c.keys_of-keys.ensures c.add_changed.ensures.writes
