use Rattle.sdd_verified.proofs.run.class_lists.WholeSound.{whole_named}
use Rattle.sdd_certified.proofs.RunComplete.{run_complete}
use Rattle.sdd_certified.proofs.law.law_run_complete.Goals as goal

pub returns : goal.returns
returns c = λ work text valid report small.
    run_complete c.args.catalogue.now work text (whole_named c.args.catalogue.now work c.law_is_sound.ensures.named valid) valid report small
