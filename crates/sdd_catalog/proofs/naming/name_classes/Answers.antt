use Rattle.std.proofs.Common.{arith}
use Rattle.std.proofs.lemmas.Grind.{common_steps}
use Rattle.sdd_catalog.proofs.All.{NamesFragments, length, subst, sym}
use Rattle.sdd_catalog.proofs.naming.name_classes.Goals as goal

pub name_class-requires : goal.name_class-requires
name_class-requires c =
    subst (NamesFragments (length c.args.fragments.now)) (sym c.class-item.is) (c.requires c.loop-class.class-index c.class-item.result c.loop-class-test.true)

pub loop-class-preserved : goal.loop-class-preserved
loop-class-preserved c = grind (arith, common_steps)

pub returns : goal.returns
returns c = grind (arith, common_steps)
