use Rattle.sdd_control.proofs.Leader.{leader_ends_of}
use Rattle.sdd_control.proofs.laws.law_leader.Goals as goal

pub returns : goal.returns
returns c = leader_ends_of c.args.backups c.args.writes c.args.acts.now c.requires
