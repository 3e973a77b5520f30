use Rattle.sdd_world.proofs.All.{D, local_of, setting_of}
use Rattle.sdd_world.proofs.world.World.copies.Goals as goal

pub copies-requires : goal.copies-requires
copies-requires c = let r = c.requires in let at = D c.args.dm in (setting_of r.0 at, local_of r.0 at r.1, r.3.calm.parts.sites at r.2)

pub returns-clause-live : goal.returns-clause-live
returns-clause-live c = λ given log here s. let at =
    D c.args.dm in c.copies.ensures.live (setting_of given at) (local_of given at log) (s.calm.parts.sites at here)

pub returns-clause-represent : goal.returns-clause-represent
returns-clause-represent c = λ given log here s. let at =
    D c.args.dm in c.copies.ensures.represent (setting_of given at) (local_of given at log) (s.calm.parts.sites at here)

pub returns-clause-here : goal.returns-clause-here
returns-clause-here c = λ given log here s. let at =
    D c.args.dm in c.copies.ensures.here (setting_of given at) (local_of given at log) (s.calm.parts.sites at here)
