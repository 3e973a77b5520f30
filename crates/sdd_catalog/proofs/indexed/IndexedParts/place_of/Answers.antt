use Rattle.sdd_catalog.proofs.All.{FragmentPart, rules}
use Rattle.sdd_catalog.proofs.Places.{place_within}
use Rattle.sdd_catalog.proofs.indexed.IndexedParts.place_of.Goals as goal

pub returns-clause-within : goal.returns-clause-within
returns-clause-within c = place_within (λ (f : FragmentPart). f.name) c.args.name.now c.args.self.now.fragments c.copied.result (search rules)
