use Rattle.sdd_catalog.proofs.All.{to_z-of_z}
use Rattle.sdd_catalog.proofs.FragmentOf.{one_holder}
use Rattle.sdd_catalog.proofs.catalogue.Catalogue.fragment_of.Goals as goal

pub returns : goal.returns
returns c =
    let number = rw (to_z-of_z c.ranges.key) at c.number_for.ensures in
    let one = one_holder c.args.self.now c.law_is_sound.ensures.sound c.args.rel.0 c.args.key c.number_for.result c.requires.from c.requires.to
    (rw c.ranges_of.ensures.is at number) in
    record { there = one.there; holds = one.holds; only = one.only; number = one.number }
