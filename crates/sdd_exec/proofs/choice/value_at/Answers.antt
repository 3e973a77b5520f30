use Rattle.sdd_exec.proofs.Picked.{value_missing}
use Rattle.sdd_exec.proofs.choice.value_at.Goals as goal

pub returns-in-None : goal.returns-in-None
returns-in-None c =
    let past = rw (c.place_at.ensures, c.saturating_sub-part.ensures) at c.in-None.ensures in
    value_missing c.args.parts.now c.args.choice.now c.args.at past
