use Rattle.sdd_laws.proofs.Run.{replayed}
use Rattle.sdd_laws.proofs.replay_along_law.law_replay_along.Goals as goal

pub returns : goal.returns
returns g c = λ first L commits order is recorded is_order. replayed c.args.catalogue.now c.law_is_sound.ensures.sound first is L commits recorded order is_order
