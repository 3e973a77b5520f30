use Rattle.sdd_run.proofs.All.{lawful_permitted}
use Rattle.sdd_run.proofs.Standings.{each_is_standing}
use Rattle.sdd_run.proofs.law.law_standings.Goals as goal

pub returns : goal.returns
returns g = λ given log at n good once lawful idle. each_is_standing given log (lawful_permitted given log once lawful) good lawful idle at n
