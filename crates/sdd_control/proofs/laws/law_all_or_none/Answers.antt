use Rattle.sdd_control.proofs.Known.{never_unknown_of}
use Rattle.sdd_control.proofs.Promises.{all_written_of, none_written_of}
use Rattle.sdd_control.proofs.laws.law_all_or_none.Goals as goal

pub returns-clause-all : goal.returns-clause-all
returns-clause-all c = all_written_of c.args.backups c.args.writes c.args.acts.now c.requires

pub returns-clause-none : goal.returns-clause-none
returns-clause-none c = none_written_of c.args.backups c.args.writes c.args.acts.now c.requires

pub returns-clause-known : goal.returns-clause-known
returns-clause-known c = never_unknown_of c.args.backups c.args.writes c.args.acts.now c.requires
