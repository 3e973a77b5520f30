use Rattle.sdd_lang.proofs.All.{FitsSigned, rules, to_z-of_z, w64}
use Rattle.sdd_lang.proofs.pending.put_in.Goals as goal

pub returns : goal.returns
returns c =
    let fits : FitsSigned w64 c.args.change.key = search rules in
    rw (to_z-of_z fits) at c.in_ok-insert.ensures.entries
