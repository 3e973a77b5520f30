use Rattle.sdd_links.proofs.Grouped.{list_more}
use Rattle.sdd_links.proofs.groups.Groups.add.Goals as goal

pub returns : goal.returns
returns c =
    list_more (λ list. list.items) c.self.inside.lists.items c.args.self.now c.args.key c.args.number c.index_mut.result.now c.push.new.self
    c.self.view_is c.requires c.index_mut.ensures.value (c.in_ok-push.ensures.items)
