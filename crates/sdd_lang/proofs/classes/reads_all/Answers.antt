use Rattle.sdd_lang.proofs.All.{arith, is_some, reads_at, sym, ◌∙◌}
use Rattle.sdd_lang.proofs.FragSets.{pass_all, pass_fails, pass_more, pass_none}
use Rattle.sdd_lang.proofs.classes.reads_all.Goals as goal

pub loop-number-init : goal.loop-number-init
loop-number-init c = pass_all (λ f. is_some (reads_at c.args.catalogue.now c.args.class.0 f)) c.args.set.now _

pub returns-then-not-reads_where_set : goal.returns-then-not-reads_where_set
returns-then-not-reads_where_set c =
    sym (c.loop-number.invariant
    ∙ pass_fails (λ f. is_some (reads_at c.args.catalogue.now c.args.class.0 f)) c.args.set.now c.loop-number.number _
    (omega arith) c.if-not-reads_where_set.ensures)

pub loop-number-preserved : goal.loop-number-preserved
loop-number-preserved c =
    c.loop-number.invariant
    ∙ pass_more (λ f. is_some (reads_at c.args.catalogue.now c.args.class.0 f)) c.args.set.now c.loop-number.number _
    (omega arith) c.if-not-reads_where_set.ensures

pub returns : goal.returns
returns c =
    sym (c.loop-number.invariant ∙ pass_none (λ f. is_some (reads_at c.args.catalogue.now c.args.class.0 f)) c.args.set.now c.loop-number.number _ (omega arith))
