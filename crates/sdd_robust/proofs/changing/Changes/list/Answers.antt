use Rattle.std.proofs.Common.{ap, arith, ◌∙◌}
use Rattle.sdd_robust.specs.Changing.{changes_in, held}
use Rattle.sdd_robust.proofs.ByRelation.{as_many, list_at}
use Rattle.sdd_robust.proofs.changing.Changes.list.Goals as goal

pub index-requires : goal.index-requires
index-requires c =
    let long = as_many (changes_in c.self.inside.all.now) c.self.inside.lists.items 65 c.self.invariant in
    omega (arith, long)

pub returns : goal.returns
returns c =
    rw (← c.self.view_is) (ap held c.as_slice.ensures.value
    ∙ list_at (changes_in c.self.inside.all.now) c.self.inside.lists.items 65 c.min.result _ c.index.result.now c.self.invariant (omega arith)
    c.index.ensures
    ∙ ap (changes_in c.self.inside.all.now) c.min.ensures)
