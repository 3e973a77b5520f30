use Rattle.sdd_verify.proofs.All.{◌∙◌}
use Rattle.sdd_verify.proofs.ClassesFit.{txns_fit}
use Rattle.sdd_verify.proofs.judging.classes_of.Goals as goal

pub submitted_classes-requires : goal.submitted_classes-requires
submitted_classes-requires c = txns_fit c.args.catalogue.now c.args.work.now c.eras.result.now (c.eras.ensures ∙ c.in_ok-lists.ensures.eras) c.requires

pub returns : goal.returns
returns c = rw (c.eras.ensures ∙ c.in_ok-lists.ensures.eras) at c.submitted_classes.ensures
