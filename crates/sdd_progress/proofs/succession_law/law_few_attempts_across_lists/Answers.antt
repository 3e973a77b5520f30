use Rattle.sdd_progress.proofs.All.{eras_of, lawful_numbered, lawful_permitted}
use Rattle.sdd_progress.proofs.OfLogs.{few_in_limit, few_rejected}
use Rattle.sdd_progress.proofs.ErasOf.{are_eras_of}
use Rattle.sdd_progress.proofs.succession_law.law_few_attempts_across_lists.Goals as goal

pub returns-clause-rejected : goal.returns-clause-rejected
returns-clause-rejected g = λ given log sound once lawful lists.
    few_rejected given log (eras_of given log) sound.catalogue (lawful_permitted given log once lawful) (are_eras_of given log lists)

pub returns-clause-limit : goal.returns-clause-limit
returns-clause-limit g = λ given rows log sound fine submits lawful lists few.
    few_in_limit given rows log (eras_of given log) sound.catalogue fine (lawful_permitted given log submits.once lawful)
    (are_eras_of given log lists) (lawful_numbered given log submits lawful) few
