use Rattle.sdd_lang.proofs.All.{arith, sym, writes, ◌∙◌}
use Rattle.sdd_lang.proofs.FragSets.{pass_all, pass_fails, pass_more, pass_none}
use Rattle.sdd_lang.proofs.classes.writes_all.Goals as goal

pub loop-number-init : goal.loop-number-init
loop-number-init c = pass_all (writes c.args.catalogue.now c.args.class.0) c.args.set.now _

pub returns-then-not-writes_where_set : goal.returns-then-not-writes_where_set
returns-then-not-writes_where_set c =
    sym (c.loop-number.invariant ∙ pass_fails (writes c.args.catalogue.now c.args.class.0) c.args.set.now c.loop-number.number _ (omega arith) c.if-not-writes_where_set.ensures)

pub loop-number-preserved : goal.loop-number-preserved
loop-number-preserved c =
    c.loop-number.invariant ∙ pass_more (writes c.args.catalogue.now c.args.class.0) c.args.set.now c.loop-number.number _ (omega arith) c.if-not-writes_where_set.ensures

pub returns : goal.returns
returns c = sym (c.loop-number.invariant ∙ pass_none (writes c.args.catalogue.now c.args.class.0) c.args.set.now c.loop-number.number _ (omega arith))
