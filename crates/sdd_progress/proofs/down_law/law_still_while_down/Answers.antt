use Rattle.sdd_progress.proofs.All.{D, contents, dated, setting_of}
use Rattle.std.proofs.Common.{ap}
use Rattle.sdd_progress.proofs.StillWhileDown.{still_while_down, waits_while_down}
use Rattle.sdd_progress.proofs.down_law.law_still_while_down.Goals as goal

pub returns-clause-log : goal.returns-clause-log
returns-clause-log g = λ given dm later before here lawful up. still_while_down given dm later before lawful up

pub returns-clause-copies : goal.returns-clause-copies
returns-clause-copies g = λ given dm later before frag here lawful up.
    ap (λ l. contents frag (dated (setting_of given (D dm)) l)) (still_while_down given dm later before lawful up)

pub returns-clause-waits : goal.returns-clause-waits
returns-clause-waits g = waits_while_down
