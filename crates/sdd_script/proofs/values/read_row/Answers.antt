use Rattle.sdd_script.proofs.FewRead.{rows_same}
use Rattle.sdd_script.proofs.values.read_row.Goals as goal

pub returns : goal.returns
returns c = rw (rows_same c.args.catalogue.now c.args.name.now c.args.words.now) at c.read_few.ensures
