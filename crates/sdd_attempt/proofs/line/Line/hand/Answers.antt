use Rattle.sdd_attempt.proofs.All.{IsAwaited, IsLine, Line, None, Some, active_of, cond, handed_by, subst, sym, ◌≡◌}
use Rattle.sdd_attempt.proofs.Queueing.{awaited_line, handed_line}
use Rattle.sdd_attempt.proofs.line.Line.hand.Goals as goal

pub invariant_of-self-in-Ok-true : goal.invariant_of-self-in-Ok-true
invariant_of-self-in-Ok-true c =
    let s = c.self.inside in
    let r = c.in-Some.running in
    let line = subst (IsLine s.catalogue.now s.class.0 s.queue.items) c.in-Some.is c.self.invariant in
    let asked = subst (λ (l : Line). IsAwaited l.class c.args.from c.args.msg l.active) (sym c.self.view_is) c.requires in
    let awaited = awaited_line s.catalogue.now s.class.0 s.queue.items c.args.from c.args.msg r line
    (subst (λ o. IsAwaited s.class.0 c.args.from c.args.msg (active_of s.queue.items o)) c.in-Some.is asked) in
    let goes_on = subst (λ b. cond b (Some c.hand.new.self) None ≡ handed_by s.class.0 c.args.from c.args.msg r) c.in-Ok-true.field-0-test c.in-Ok-true.ensures.running in
    subst (IsLine s.catalogue.now s.class.0 s.queue.items) (sym goes_on)
    (handed_line s.catalogue.now s.class.0 s.queue.items c.args.from c.args.msg r line awaited c.in-Ok-true.ensures.few)
