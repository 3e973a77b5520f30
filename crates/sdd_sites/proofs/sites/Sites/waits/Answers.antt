use Rattle.std.proofs.Common.{arith}
use Rattle.std.proofs.lemmas.Grind.{elements}
use Rattle.sdd_sites.proofs.sites.Sites.waits.Goals as goal

pub index-module-requires : goal.index-module-requires
index-module-requires c = grind (arith, elements)

pub returns : goal.returns
returns c = grind (arith, elements)
