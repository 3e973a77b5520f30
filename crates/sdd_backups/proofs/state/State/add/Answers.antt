use Rattle.sdd_backups.proofs.All.{Adds, subst, sym}
use Rattle.sdd_backups.proofs.state.State.add.Goals as goal

pub returns-in-Finish : goal.returns-in-Finish
returns-in-Finish c = subst (Adds c.args.self.now c.finish.new.self) (sym c.in-Finish.is) (c.finish.ensures c.in-Finish.field-1)
