use Rattle.sdd_catalog.proofs.All.{FragmentPart}
use Rattle.sdd_catalog.proofs.Places.{item_at_place, no_item_at_place}
use Rattle.sdd_catalog.proofs.indexed.IndexedParts.fragment.Goals as goal

pub returns-in-Some : goal.returns-in-Some
returns-in-Some c =
    item_at_place (λ (f : FragmentPart). f.name) c.args.name.now c.args.self.now.fragments c.in-Some.place c.index-as_slice-place.result c.in-Some.ensures.value
    (rw (c.as_slice.ensures, c.parts.ensures) at c.index-as_slice-place.is)

pub returns-in-None : goal.returns-in-None
returns-in-None c = no_item_at_place (λ (f : FragmentPart). f.name) c.args.name.now c.args.self.now.fragments c.in-None.ensures.value
