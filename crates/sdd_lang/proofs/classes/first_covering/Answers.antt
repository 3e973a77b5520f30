use Rattle.sdd_lang.proofs.All.{arith, sym, ◌∙◌}
use Rattle.sdd_lang.proofs.Firsts.{first_of_all, first_here, first_later, first_of_none}
use Rattle.sdd_lang.proofs.classes.first_covering.Goals as goal

pub loop-class-init : goal.loop-class-init
loop-class-init c = first_of_all c.args.catalogue.now c.args.txn.now

pub returns-then-covers : goal.returns-then-covers
returns-then-covers c = sym (c.loop-class.invariant ∙ first_here c.args.catalogue.now c.args.txn.now c.loop-class.class _ (omega arith) c.if-covers.ensures)

pub loop-class-preserved : goal.loop-class-preserved
loop-class-preserved c = c.loop-class.invariant ∙ first_later c.args.catalogue.now c.args.txn.now c.loop-class.class _ (omega arith) c.if-covers.ensures

pub returns : goal.returns
returns c = sym (c.loop-class.invariant ∙ first_of_none c.args.catalogue.now c.args.txn.now c.loop-class.class _ (omega arith))
