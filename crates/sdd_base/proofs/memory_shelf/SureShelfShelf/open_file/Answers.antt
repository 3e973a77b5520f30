use Rattle.std.proofs.Common.{arith}
use Rattle.std.proofs.lemmas.Grind.{common_steps, elements}
use Rattle.sdd_base.proofs.Opened.{stay_open}
use Rattle.sdd_base.proofs.memory_shelf.SureShelfShelf.open_file.Goals as goal

pub returns-in-Some-clause-others : goal.returns-in-Some-clause-others
returns-in-Some-clause-others c =
    λ g any within. stay_open c.self.inside.files c.self.inside.opened c.push.new.self _ c.args.self.now c.self.inside.faults g c.self.view_is c.push.ensures within

pub returns-clause-fails : goal.returns-clause-fails
returns-clause-fails c = grind (arith, common_steps)

pub returns-clause-surely : goal.returns-clause-surely
returns-clause-surely c = grind (arith, common_steps)

pub returns-in-Some-clause-fails : goal.returns-in-Some-clause-fails
returns-in-Some-clause-fails c = grind (arith, common_steps)

pub returns-in-Some-clause-opens : goal.returns-in-Some-clause-opens
returns-in-Some-clause-opens c = grind (arith, elements)

pub returns-in-Some-clause-surely : goal.returns-in-Some-clause-surely
returns-in-Some-clause-surely c = grind (arith, common_steps)
