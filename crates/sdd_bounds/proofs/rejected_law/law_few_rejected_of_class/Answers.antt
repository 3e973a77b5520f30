use Rattle.sdd_bounds.proofs.All.{lawful_permitted, of_one_era, one_era}
use Rattle.sdd_bounds.proofs.OfLogs.{few_rejected_of_classes}
use Rattle.sdd_bounds.proofs.rejected_law.law_few_rejected_of_class.Goals as goal

pub returns-clause-permitted : goal.returns-clause-permitted
returns-clause-permitted c = λ given log eras sound permitted are. few_rejected_of_classes given log eras sound.catalogue permitted are

pub returns-clause-lawful : goal.returns-clause-lawful
returns-clause-lawful c = λ given log sound once lawful era first none.
    few_rejected_of_classes given log (one_era given.catalogue) sound.catalogue (lawful_permitted given log once lawful) (of_one_era given log era first none)
