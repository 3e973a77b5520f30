use Rattle.sdd_world.proofs.All.{Resumed, Resuming, T, no_end, subst, sym}
use Rattle.sdd_world.proofs.Resuming.{events_order, may_send, resume_asks, resume_done, resume_ends, resumed_other, taken}
use Rattle.sdd_world.proofs.Results.{of_ok as map_ok}
use Rattle.sdd_world.proofs.world.World.resume.Goals as goal

pub returns-in_default : goal.returns-in_default
returns-in_default c = record {
  ok = λ given log r. resumed_other c.args.self.now given log c.args.at c.in_default.not-T r;
  limit = λ e given log r. no_end _ tt e;
}

pub resume-requires : goal.resume-requires
resume-requires c = let r = c.requires in resume_asks c.args.self.now r.0 r.1 (T c.in-T.tm) (subst (Resuming c.args.self.now r.0 r.1) c.in-T.is r.2)

pub follow-requires-clause-sends : goal.follow-requires-clause-sends
follow-requires-clause-sends c =
    let r = c.requires in
    let up = subst (Resuming c.args.self.now r.0 r.1) c.in-T.is r.2 in
    may_send c.args.self.now r.0 r.1 (T c.in-T.tm) up c.resume.new.self c.in_ok-outcome.outcome
    (taken c.args.self.now r.0 r.1 (T c.in-T.tm) up c.resume.new.self c.in_ok-outcome.outcome c.in_ok-outcome.ensures.law)

pub follow-requires-clause-order : goal.follow-requires-clause-order
follow-requires-clause-order c =
    let r = c.requires in events_order c.args.self.now r.0 r.1 (T c.in-T.tm) (subst (Resuming c.args.self.now r.0 r.1) c.in-T.is r.2)

pub returns-clause-ok : goal.returns-clause-ok
returns-clause-ok c = map_ok c.follow.result _ _ c.follow.ensures.ok (λ x f given log r.
    let up = subst (Resuming c.args.self.now given log) c.in-T.is r in
    subst (Resumed c.follow.new.self given log) (sym c.in-T.is)
    (resume_done c.args.self.now given log (T c.in-T.tm) up c.resume.new.self c.follow.new.self c.in_ok-outcome.outcome
    (taken c.args.self.now given log (T c.in-T.tm) up c.resume.new.self c.in_ok-outcome.outcome c.in_ok-outcome.ensures.law)
    c.in_ok-outcome.ensures.others f))

pub returns-clause-limit : goal.returns-clause-limit
returns-clause-limit c = λ e given log r.
    let up = subst (Resuming c.args.self.now given log) c.in-T.is r in
    resume_ends c.args.self.now given log (T c.in-T.tm) up c.resume.new.self c.in_ok-outcome.outcome
    (taken c.args.self.now given log (T c.in-T.tm) up c.resume.new.self c.in_ok-outcome.outcome c.in_ok-outcome.ensures.law) (c.follow.ensures.limit e)
