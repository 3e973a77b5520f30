use Rattle.sdd_graph.proofs.All.{IsClassOf, arith, length, ◌∙◌, ◌≡◌, ◌≤◌}
use Rattle.sdd_graph.proofs.Tables.{all_uses_long, uses_at}
use Rattle.sdd_graph.proofs.uses.Uses.class.Goals as goal

pub index-requires : goal.index-requires
index-requires c =
    let is : IsClassOf c.self.inside.catalogue.now c.args.class = rw (← c.self.view_is) at c.requires in
    let from : 1 ≤ c.args.class = is.from in
    let to : c.args.class ≤ length c.self.inside.catalogue.now.classes = is.to in
    let long : length c.self.inside.classes.items ≡ length c.self.inside.catalogue.now.classes = all_uses_long
    c.self.inside.catalogue.now c.self.inside.classes.items c.self.invariant in
    omega arith

pub returns : goal.returns
returns c =
    let is : IsClassOf c.self.inside.catalogue.now c.args.class = rw (← c.self.view_is) at c.requires in
    rw (← c.self.view_is) (c.index.ensures ∙ uses_at c.self.inside.catalogue.now c.self.inside.classes.items c.args.class _ c.self.invariant is)
