use Rattle.std.proofs.Common.{arith}
use Rattle.std.proofs.lemmas.Grind.{common_steps, elements}
use Rattle.sdd_shell.proofs.telling.tell.Goals as goal

pub returns-in-BadCatalogue : goal.returns-in-BadCatalogue
returns-in-BadCatalogue g c = grind (arith, common_steps)

pub returns-in-BadWorkload : goal.returns-in-BadWorkload
returns-in-BadWorkload g c = grind (arith, common_steps)

pub returns-in-Done : goal.returns-in-Done
returns-in-Done g c = grind (arith, common_steps)

pub returns-in-Limit : goal.returns-in-Limit
returns-in-Limit g c = grind (arith, common_steps)

pub returns-in-NoMemory : goal.returns-in-NoMemory
returns-in-NoMemory g c = grind (arith, common_steps)

pub returns-in-ReadFault : goal.returns-in-ReadFault
returns-in-ReadFault g c = grind (arith, elements)

pub returns-in-Usage : goal.returns-in-Usage
returns-in-Usage g c = grind (arith, common_steps)

pub returns-in-WriteFault : goal.returns-in-WriteFault
returns-in-WriteFault g c = grind (arith, common_steps)
