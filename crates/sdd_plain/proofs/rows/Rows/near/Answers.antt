use Rattle.sdd_plain.proofs.All.{ap, filter, may_join, ◌∙◌}
use Rattle.sdd_plain.proofs.Near.{near_rows}
use Rattle.sdd_plain.proofs.rows.Rows.near.Goals as goal

pub returns : goal.returns
returns c =
    ap (filter (λ e. may_join c.args.conds.now c.args.part e.1)) c.within.ensures
    ∙ near_rows c.args.rel.0 c.args.part c.args.conds.now c.in_ok-keys.keys c.args.self.now c.in_ok-keys.ensures
