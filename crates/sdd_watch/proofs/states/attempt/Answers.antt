use Rattle.sdd_watch.proofs.All.{◌∙◌}
use Rattle.sdd_watch.proofs.Attempts.{attempt_is}
use Rattle.sdd_watch.proofs.states.attempt.Goals as goal

pub returns : goal.returns
returns c =
    let l = c.args.line.now in
    rw (c.unwrap_or-txn.ensures, c.unwrap_or-time.ensures, c.phase_by.ensures)
    (attempt_is l.class l.queue l.active c.args.answer c.class.result c.first.result c.tries.result c.active_ts.result c.from_vec.result
    c.requires.in_order c.requires.awaited c.class.ensures c.first.ensures c.tries.ensures c.active_ts.ensures
    (c.from_vec.ensures ∙ c.in_ok-lacks.ensures ∙ c.missing_dms.ensures))
