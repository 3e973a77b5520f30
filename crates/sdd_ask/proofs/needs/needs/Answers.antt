use Rattle.sdd_ask.proofs.All.{arith, flag_at, leads_to, length, sym}
use Rattle.sdd_ask.proofs.Looking.{found_one, none_more}
use Rattle.sdd_ask.proofs.needs.needs.Goals as goal

pub returns-then-leads_to : goal.returns-then-leads_to
returns-then-leads_to c =
    sym (found_one (leads_to c.args.catalogue.now (flag_at c.args.flags.now) c.args.class c.args.site) (length c.args.catalogue.now.classes)
    c.loop-other.other c.loop-other.auto.other (omega arith) (sym c.if-leads_to.ensures))

pub loop-other-preserved : goal.loop-other-preserved
loop-other-preserved c =
    none_more (leads_to c.args.catalogue.now (flag_at c.args.flags.now) c.args.class c.args.site) c.loop-other.other c.loop-other.auto.other
    c.loop-other.invariant (sym c.if-leads_to.ensures)
