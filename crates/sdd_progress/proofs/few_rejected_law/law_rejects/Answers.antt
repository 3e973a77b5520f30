use Rattle.sdd_progress.proofs.Rejects.{keeps_rejects}
use Rattle.sdd_progress.proofs.few_rejected_law.law_rejects.Goals as goal

pub returns : goal.returns
returns c = λ given log eras sound permitted are. keeps_rejects given log eras sound.catalogue permitted are
