use Rattle.sdd_ask.proofs.All.{ap, flag_at, flags_of, through, ◌∙◌}
use Rattle.sdd_ask.proofs.Telling.{closed_all, closed_more, closed_none}
use Rattle.sdd_ask.proofs.flags.closed.Goals as goal

pub classes-init : goal.classes-init
classes-init c = closed_none c.args.flags.now _ (c.in_ok-all.ensures.items_if_clones_equal (λ y e h. h)) c.requires

pub classes-preserved : goal.classes-preserved
classes-preserved c =
    closed_more (flag_at c.args.flags.now) c.classes.all.items _ c.classes.k c.classes-test.true c.classes.invariant
    (c.in_ok-all-2.ensures ∙ ap (λ z. flags_of (through (flag_at z) c.classes.k)) c.deref.ensures.value)

pub returns : goal.returns
returns c = closed_all (flag_at c.args.flags.now) c.classes.all.items c.classes.k c.classes.auto.k-end c.classes-test.false c.classes.invariant
