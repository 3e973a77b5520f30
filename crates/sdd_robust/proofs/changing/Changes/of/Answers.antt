use Rattle.sdd_robust.specs.Changing.{changes_in}
use Rattle.sdd_robust.proofs.ByRelation.{list_more}
use Rattle.sdd_robust.proofs.changing.Changes.of.Goals as goal

pub lists-preserved : goal.lists-preserved
lists-preserved c =
    list_more (changes_in c.args.all.now) _ _ c.lists.list _ c.lists.invariant c.in_ok-push.ensures.items c.in_ok-changes_in.ensures
