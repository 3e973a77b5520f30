use Rattle.sdd_watch.proofs.All.{ap, cond, contains, pair_cmp, same_pair, true, ◌∙◌}
use Rattle.sdd_watch.proofs.Saying.{said_by}
use Rattle.sdd_watch.proofs.dones.Dones.note_one.Goals as goal

pub returns-in_ok-insert : goal.returns-in_ok-insert
returns-in_ok-insert c = λ t d.
    said_by t d c.args.dm.0 c.args.message.now c.in-Applied.ts _ _ c.in-Applied.is
    (c.in_ok-insert.ensures.updates.0 (t, d)
    ∙ ap (λ b. cond b true (contains pair_cmp c.args.self.now.said (t, d))) (same_pair (c.in-Applied.ts.0, c.args.dm.0) (t, d)))
