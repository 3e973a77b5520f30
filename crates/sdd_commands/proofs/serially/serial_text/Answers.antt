use Rattle.sdd_commands.proofs.Submissions.{submitted_fit}
use Rattle.sdd_commands.proofs.serially.serial_text.Goals as goal

pub put_replies-requires-clause-txns : goal.put_replies-requires-clause-txns
put_replies-requires-clause-txns c =
    submitted_fit c.args.catalogue.now c.args.work.now c.as_slice-2.result.now c.requires (rw c.as_slice-2.ensures.value c.in_ok-txns.ensures)
