use Rattle.sdd_protocol.proofs.All.{Cond, IfOk-weaker, Option, condition_by, is_marked, ◌∙◌, ◌≡◌}
use Rattle.sdd_protocol.proofs.Between.{condition_on-between}
use Rattle.sdd_protocol.proofs.protocol_table.Table.condition_on.Goals as goal

pub returns : goal.returns
returns c =
    let marked = is_marked c.args.asked.now in
    let part = c.diagonals-diagonals.result.now in
    let attempt = c.args.attempt in
    let j = c.args.writer.0 in
    IfOk-weaker c.condition_on.result
    (λ (found : Option Cond). found ≡ condition_by marked part attempt j)
    (λ (found : Option Cond). found ≡ condition_by marked c.args.self.now attempt j)
    (λ (found : Option Cond) e.
    e
    ∙ condition_on-between marked part c.args.self.now attempt.class.0 attempt.own.0 attempt.p2.0 j
    c.diagonals-diagonals.ensures)
    c.condition_on.ensures
