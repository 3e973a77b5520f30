use Rattle.sdd_catalog.proofs.All.{arith, ◌≤◌}
use Rattle.sdd_catalog.proofs.Sound.{lowest_is_few}
use Rattle.sdd_catalog.proofs.catalogue.Catalogue.lowest_copy.Goals as goal

pub overflow_cast-result : goal.overflow_cast-result
overflow_cast-result c =
    let found = rw (c.as_slice.ensures, c.fragment.ensures, c.dms.ensures) at c.in-Some.ensures in
    let few : c.in-Some.dm ≤ 16 = lowest_is_few c.args.self.now c.args.frag.0 c.in-Some.dm c.law_is_sound.ensures.sound c.requires.from c.requires.to found in
    omega arith
