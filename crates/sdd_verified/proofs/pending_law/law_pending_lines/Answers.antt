use Rattle.sdd_verified.proofs.All.{whole_named, whole_sound}
use Rattle.sdd_verified.proofs.PendingLines.{as_many_lines, no_line}
use Rattle.sdd_verified.proofs.pending_law.law_pending_lines.Goals as goal

pub returns-clause-as_many : goal.returns-clause-as_many
returns-clause-as_many g = λ cat work text sound named valid reported.
    as_many_lines cat work text (whole_sound cat work sound valid) (whole_named cat work named valid) valid reported

pub returns-clause-no_line : goal.returns-clause-no_line
returns-clause-no_line g = λ cat work text sound named valid reported.
    no_line cat work text (whole_sound cat work sound valid) (whole_named cat work named valid) valid reported
