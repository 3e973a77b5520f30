use Rattle.std.proofs.Common.{arith}
use Rattle.std.proofs.lemmas.Grind.{common_steps}
use Rattle.sdd_links.proofs.Grouped.{chains_of}
use Rattle.sdd_links.proofs.groups.Groups.add_chains.Goals as goal

pub returns : goal.returns
returns c =
    chains_of (λ v. v.items) c.deref-list-items.result.now c.self.inside.lists.items c.args.self.now c.loop-list.list-index
    c.args.links.now.items c.loop-list.links.items (c.deref-list-items.ensures.value) c.self.view_is c.loop-list-test.false c.loop-list.invariant

pub loop-list-preserved : goal.loop-list-preserved
loop-list-preserved c = grind (arith, common_steps)
