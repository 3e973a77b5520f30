use Rattle.sdd_catalog.proofs.All.{◌∙◌}
use Rattle.sdd_catalog.proofs.NameLemmas.{has_name_of_items}
use Rattle.sdd_catalog.proofs.named.has_name.Goals as goal

pub returns : goal.returns
returns g c = c.passes_name.ensures ∙ has_name_of_items g.T.Named.name_of c.args.name.now c.args.items.now
