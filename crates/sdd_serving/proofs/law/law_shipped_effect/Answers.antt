use Rattle.sdd_serving.proofs.Serves.{shipped_effect}
use Rattle.sdd_serving.proofs.law.law_shipped_effect.Goals as goal

pub returns : goal.returns
returns c =
    λ class ts dms copies db space stage ok runs.
    shipped_effect c.args.catalogue.now c.law_is_sound.ensures.sound class c.args.txn.now c.requires ts dms copies db ok space stage
    runs
