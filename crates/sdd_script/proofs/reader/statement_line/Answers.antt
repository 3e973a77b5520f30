use Rattle.sdd_script.proofs.All.{statement_of}
use Rattle.sdd_script.proofs.Shortened.{same_rules}
use Rattle.sdd_script.proofs.reader.statement_line.Goals as goal

pub returns : goal.returns
returns c =
    rw (same_rules c.args.state.now (statement_of c.args.key c.args.catalogue.now c.args.words.now)) at c.short_statement_line.ensures
