use Rattle.sdd_items.proofs.All.{ap, filter, is_within, one_at, ◌∙◌}
use Rattle.sdd_items.proofs.OneKey.{item_at_key}
use Rattle.sdd_items.proofs.kept_items.KeptItems.at.Goals as goal

pub returns : goal.returns
returns c =
    let key = c.args.key.now in
    ap (one_at key) c.get.ensures.value
    ∙ item_at_key key c.self.inside.items.entries c.len.ensures.ordered
    ∙ ap (filter (λ e. is_within (key, key) e.0)) c.self.view_is
