use Rattle.std.proofs.Common.{arith}
use Rattle.std.proofs.lemmas.Grind.{common_steps}
use Rattle.sdd_advise.proofs.All.{All, IsEdgeOf, length, subst, sym, ◌*◌, ◌<◌}
use Rattle.sdd_advise.proofs.Known.{good_edge, good_cycle, good_apart}
use Rattle.sdd_advise.proofs.spelling.put_advice.Goals as goal

pub put_first_line-requires : goal.put_first_line-requires
put_first_line-requires c = good_edge c.args.catalogue.now c.args.advice.now c.requires

pub put_cycle-requires : goal.put_cycle-requires
put_cycle-requires c =
    subst (All (IsEdgeOf c.args.catalogue.now)) (sym c.as_slice.ensures) (good_cycle c.args.catalogue.now c.args.advice.now c.requires)

pub put_apart-requires : goal.put_apart-requires
put_apart-requires c =
    subst (All (λ node. node < 2 * length c.args.catalogue.now.classes)) (sym c.as_slice-2.ensures) (good_apart c.args.catalogue.now c.args.advice.now c.requires)

pub returns : goal.returns
returns c = grind (arith, common_steps)
