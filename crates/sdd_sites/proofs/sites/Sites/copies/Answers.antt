use Rattle.std.proofs.Common.{arith}
use Rattle.std.proofs.lemmas.Grind.{elements}
use Rattle.sdd_sites.proofs.sites.Sites.copies.Goals as goal

pub index-module-requires : goal.index-module-requires
index-module-requires c = grind (arith, elements)

pub returns-clause-here : goal.returns-clause-here
returns-clause-here c = grind (arith, elements)

pub returns-clause-live : goal.returns-clause-live
returns-clause-live c = grind (arith, elements)

pub returns-clause-represent : goal.returns-clause-represent
returns-clause-represent c = grind (arith, elements)
