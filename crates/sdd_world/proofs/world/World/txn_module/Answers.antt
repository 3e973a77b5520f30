use Rattle.sdd_world.proofs.All.{T, local_of, setting_of, takes_part}
use Rattle.sdd_world.proofs.world.World.txn_module.Goals as goal

pub txn_module-requires : goal.txn_module-requires
txn_module-requires c =
    let r = c.requires in let at = T c.args.tm in (takes_part at r.1, setting_of r.0 at, local_of r.0 at r.1, r.3.calm.parts.sites at r.2)

pub returns : goal.returns
returns c = λ given log here s.
    let at = T c.args.tm in c.txn_module.ensures (takes_part at log) (setting_of given at) (local_of given at log) (s.calm.parts.sites at here)
