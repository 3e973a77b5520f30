use Rattle.sdd_progress.proofs.All.{lawful_permitted, of_one_era, one_era}
use Rattle.sdd_progress.proofs.OfLogs.{few_rejected}
use Rattle.sdd_progress.proofs.few_rejected_law.law_few_rejected.Goals as goal

pub returns-clause-permitted : goal.returns-clause-permitted
returns-clause-permitted c = λ given log eras sound permitted are. few_rejected given log eras sound.catalogue permitted are

pub returns-clause-lawful : goal.returns-clause-lawful
returns-clause-lawful c = λ given log sound once lawful era first none.
    few_rejected given log (one_era given.catalogue) sound.catalogue (lawful_permitted given log once lawful) (of_one_era given log era first none)
