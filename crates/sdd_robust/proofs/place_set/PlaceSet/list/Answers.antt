use Rattle.std.proofs.Common.{◌∙◌}
use Rattle.std.proofs.lemmas.Result.{IfOk-weaker}
use Rattle.sdd_robust.proofs.WordPlaces.{common_with_itself}
use Rattle.sdd_robust.proofs.place_set.PlaceSet.list.Goals as goal

pub returns : goal.returns
returns c = IfOk-weaker c.common.result _ _ (λ _ e. e ∙ common_with_itself c.args.self.now) c.common.ensures
