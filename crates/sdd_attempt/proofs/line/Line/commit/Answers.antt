use Rattle.sdd_attempt.proofs.All.{IsLine, Line, ap, commit_next, line_done, line_of, subst, sym, ◌∙◌}
use Rattle.sdd_attempt.proofs.Noting.{any_result}
use Rattle.sdd_attempt.proofs.Queueing.{ended_at, ended_seen}
use Rattle.sdd_attempt.proofs.line.Line.commit.Goals as goal

pub invariant_of-self-in-Some-pop_front : goal.invariant_of-self-in-Some-pop_front
invariant_of-self-in-Some-pop_front c =
    let s = c.self.inside in
    subst (IsLine s.catalogue.now s.class.0 c.pop_front.new.self.items) (sym c.take.ensures.after)
    (ended_at s.catalogue.now s.class.0 s.queue.items c.pop_front.new.self.items s.running c.self.invariant c.pop_front.ensures.rest)

pub returns-in-Some-pop_front-clause-line : goal.returns-in-Some-pop_front-clause-line
returns-in-Some-pop_front-clause-line c =
    let s = c.self.inside in
    let line = subst (IsLine s.catalogue.now s.class.0 s.queue.items) (sym c.in-Some.ensures.value) c.self.invariant in
    any_result c.commit_attempt.result _ (λ bases.
    ap (line_of s.catalogue.now s.class.0 c.pop_front.new.self.items) c.take.ensures.after
    ∙ ended_seen s.catalogue.now s.class.0 s.queue.items c.pop_front.new.self.items c.in-Some.running bases line c.pop_front.ensures.rest
    ∙ ap (λ r. line_done (commit_next bases (line_of s.catalogue.now s.class.0 s.queue.items r)) (line_of s.catalogue.now s.class.0 s.queue.items r)) c.in-Some.ensures.value
    ∙ ap (λ (l : Line). line_done (commit_next bases l) l) c.self.view_is)
