use Rattle.sdd_catalog.proofs.All.{arith}
use Rattle.sdd_catalog.proofs.RoundTrip.{sound_has_few}
use Rattle.sdd_catalog.proofs.catalogue.Catalogue.fragments.Goals as goal

pub overflow_cast-result : goal.overflow_cast-result
overflow_cast-result c = let few = sound_has_few _ c.self.invariant.sound in rw c.as_slice.ensures (omega (arith, few.fragments))
