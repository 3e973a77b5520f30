use Rattle.std.proofs.Common.{arith}
use Rattle.std.proofs.lemmas.Grind.{common_steps}
use Rattle.sdd_base.proofs.All.{map, opened_at}
use Rattle.sdd_base.proofs.Opened.{reads, length-opened, Reads}
use Rattle.sdd_base.proofs.memory_shelf.SureShelfShelf.read.Goals as goal

pub at-opened-requires : goal.at-opened-requires
at-opened-requires c = rw (length-opened c.self.inside.files c.self.inside.opened c.args.self.now c.self.inside.faults c.self.view_is) c.requires

pub put-requires : goal.put-requires
put-requires c = rw (length-opened c.self.inside.files c.self.inside.opened c.args.self.now c.self.inside.faults c.self.view_is) c.requires

read_opened : (c : goal.After-put)
    → Reads c.args.self.now.opened (map (opened_at c.self.inside.files) c.put.new.self) c.args.f.0 c.read_at-n.result.0 c.read_at-n.new.buf
read_opened c =
    reads c.self.inside.files c.self.inside.opened c.put.new.self c.at-opened.result c.read_at-n.result.1
    c.args.self.now c.self.inside.faults c.args.f.0 c.read_at-n.result.0 c.read_at-n.new.buf c.self.view_is
    c.at-opened.ensures c.put.ensures
    c.read_at-n.ensures.next (rw (← c.as_slice.ensures) c.read_at-n.ensures.front) (rw (← c.as_slice.ensures) c.read_at-n.ensures.count)

pub returns-clause-gives : goal.returns-clause-gives
returns-clause-gives c = (read_opened c).gives

pub returns-clause-others : goal.returns-clause-others
returns-clause-others c = (read_opened c).others

pub returns-clause-open : goal.returns-clause-open
returns-clause-open c = (read_opened c).stays

pub returns-clause-count : goal.returns-clause-count
returns-clause-count c = (read_opened c).count

pub returns-clause-surely : goal.returns-clause-surely
returns-clause-surely c = grind (arith, common_steps)
