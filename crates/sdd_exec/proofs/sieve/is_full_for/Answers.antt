use Rattle.sdd_exec.proofs.Sieves.{full_is_many}
use Rattle.sdd_exec.proofs.sieve.is_full_for.Goals as goal

pub returns : goal.returns
returns c =
    λ full. full_is_many c.args.parts.now c.args.mesh.now c.args.sieve.now c.args.mesh.now.room _ c.requires
    (rw (c.in_ok-links.ensures, c.as_slice.ensures.value) at (c.is_full.ensures full))
