use Rattle.sdd_progress.proofs.All.{lawful_numbered, lawful_permitted, of_one_era, one_era}
use Rattle.sdd_progress.proofs.OfLogs.{few_attempts, few_in_limit}
use Rattle.sdd_progress.proofs.few_rejected_law.law_few_attempts.Goals as goal

pub returns-clause-square : goal.returns-clause-square
returns-clause-square c = λ given rows log eras sound fine permitted are numbered. few_attempts given rows log eras sound.catalogue fine permitted are numbered

pub returns-clause-limit : goal.returns-clause-limit
returns-clause-limit c = λ given rows log eras sound fine permitted are numbered few.
    few_in_limit given rows log eras sound.catalogue fine permitted are numbered few

pub returns-clause-lawful : goal.returns-clause-lawful
returns-clause-lawful c = λ given rows log sound fine submits lawful era first none few.
    few_in_limit given rows log (one_era given.catalogue) sound.catalogue fine (lawful_permitted given log submits.once lawful)
    (of_one_era given log era first none) (lawful_numbered given log submits lawful) few
