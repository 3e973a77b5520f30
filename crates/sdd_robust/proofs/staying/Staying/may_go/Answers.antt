use Rattle.std.proofs.Common.{ap, ◌∙◌}
use Rattle.std.specs.List.{list_any}
use Rattle.sdd_robust.proofs.Deleted.{deleted_so}
use Rattle.sdd_robust.specs.Settings.{is_in_range}
use Rattle.sdd_robust.proofs.staying.Staying.may_go.Goals as goal

pub returns : goal.returns
returns c =
    rw (← c.self.view_is)
    (c.is_in_one.ensures
    ∙ ap (list_any (is_in_range (c.args.rel.0, c.args.key.now))) (c.as_slice.ensures.value ∙ c.self.invariant)
    ∙ deleted_so c.self.inside.catalogue.now (c.args.rel.0, c.args.key.now) c.self.inside.txns.now)
