use Rattle.sdd_plain.proofs.All.{AreKeysOf, AreNear, IfOk-weaker, Interval}
use Rattle.sdd_plain.proofs.Near.{all_near, keyed_near}
use Rattle.sdd_plain.proofs.rows.Rows.keys_near.Goals as goal

pub returns-then-not-self : goal.returns-then-not-self
returns-then-not-self c =
    rw (c.all.ensures, ← c.self.view_is) (all_near c.args.rel.0 c.args.part c.args.conds.now c.self.inside.rows.entries c.self.invariant.0)

pub returns : goal.returns
returns c =
    let column = c.key_column-column.result in
    let db = c.self.inside.rows.entries in
    let are = λ (keys : Interval) (h : AreKeysOf c.args.part c.args.conds.now column keys).
    keyed_near c.self.inside.columns.items c.args.rel.0 c.args.part c.args.conds.now keys db c.self.invariant.0 (c.self.invariant.1 c.if-not-self.false)
    (rw (c.key_column-column.ensures, c.as_slice.ensures.value) at h) in
    rw (← c.self.view_is)
    (IfOk-weaker c.keys_of_part.result (AreKeysOf c.args.part c.args.conds.now column) (AreNear db c.args.rel.0 c.args.part c.args.conds.now) are c.keys_of_part.ensures)
