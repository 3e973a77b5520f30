use Rattle.sdd_items.proofs.All.{ap, row_in, row_of_item, ◌∙◌}
use Rattle.sdd_items.proofs.kept_items.KeptItems.row.Goals as goal

pub returns : goal.returns
returns c =
    c.row_of.ensures
    ∙ ap row_of_item c.get.ensures.value
    ∙ ap (λ items. row_in items c.args.key.now) c.self.view_is
