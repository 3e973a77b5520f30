use Rattle.std.proofs.Common.{rules}
use Rattle.sdd_exec.proofs.Planned.{nexts_more}
use Rattle.sdd_exec.proofs.plan.add_next.Goals as goal

pub returns-clause-nexts : goal.returns-clause-nexts
returns-clause-nexts c =
    rw c.in_ok-push-2.ensures.items
    (nexts_more c.args.parts.now c.args.conds.now c.args.taken.now c.args.nexts.now.items _ c.requires.nexts
    (record { within = search rules; new = search rules; tied = c.in_ok-ties.ensures; indexed = λ q. rw c.deref.ensures.value at (c.in_ok-rows.ensures.rows q) }))
