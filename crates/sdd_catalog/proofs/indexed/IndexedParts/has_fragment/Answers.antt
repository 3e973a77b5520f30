use Rattle.sdd_catalog.proofs.All.{fragment_names, ◌∙◌}
use Rattle.sdd_catalog.proofs.Places.{place_there}
use Rattle.sdd_catalog.proofs.indexed.IndexedParts.has_fragment.Goals as goal

pub returns : goal.returns
returns c = c.is_some.ensures ∙ place_there c.args.name.now (fragment_names c.args.self.now.fragments) c.place_of.result c.place_of.ensures.value
