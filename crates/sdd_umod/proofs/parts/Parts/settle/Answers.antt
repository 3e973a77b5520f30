-- Within the call some log is kept, by which the next act is due and has room.
use Rattle.sdd_umod.proofs.All.{Some, Step, ap, arith, sym}
use Rattle.sdd_umod.proofs.Settling.{still, of_class, are_tried, commits_few, have_room, works_on, less_work}
use Rattle.sdd_umod.proofs.parts.Parts.settle.Goals as goal

pub perform-requires-clause-class : goal.perform-requires-clause-class
perform-requires-clause-class c =
    let r = c.requires in
    of_class c.loop-step.self (still c.args.self.now c.loop-step.self c.args.draft.now c.loop-step.draft r.0 r.1 r.2 r.3 c.loop-step.invariant)

pub perform-requires-clause-time : goal.perform-requires-clause-time
perform-requires-clause-time c =
    let r = c.requires in
    let at = still c.args.self.now c.loop-step.self c.args.draft.now c.loop-step.draft r.0 r.1 r.2 r.3 c.loop-step.invariant in
    let room = at.amid.room in
    omega arith

pub perform-requires-clause-tries : goal.perform-requires-clause-tries
perform-requires-clause-tries c =
    let r = c.requires in
    are_tried c.loop-step.self (still c.args.self.now c.loop-step.self c.args.draft.now c.loop-step.draft r.0 r.1 r.2 r.3 c.loop-step.invariant)

pub perform-requires-clause-commits : goal.perform-requires-clause-commits
perform-requires-clause-commits c =
    let r = c.requires in
    commits_few c.loop-step.self (still c.args.self.now c.loop-step.self c.args.draft.now c.loop-step.draft r.0 r.1 r.2 r.3 c.loop-step.invariant)

pub perform-requires-clause-counts : goal.perform-requires-clause-counts
perform-requires-clause-counts c =
    let r = c.requires in
    have_room c.loop-step.self (still c.args.self.now c.loop-step.self c.args.draft.now c.loop-step.draft r.0 r.1 r.2 r.3 c.loop-step.invariant)

pub loop-step-smaller : goal.loop-step-smaller
loop-step-smaller c =
    let r = c.requires in
    less_work c.loop-step.self c.perform.new.self c.in-Some.step
    (still c.args.self.now c.loop-step.self c.args.draft.now c.loop-step.draft r.0 r.1 r.2 r.3 c.loop-step.invariant)
    (sym c.in-Some.ensures.step) (λ e. c.in-Some.ensures.idle (ap (λ (x : Step). Some x) e)) c.in_ok-perform.ensures.state

pub loop-step-preserved : goal.loop-step-preserved
loop-step-preserved c =
    works_on c.args.self.now c.loop-step.self c.perform.new.self c.in-Some.step c.args.draft.now c.loop-step.draft
    c.perform.new.draft c.loop-step.invariant (sym c.in-Some.ensures.step)
    (λ e. c.in-Some.ensures.idle (ap (λ (x : Step). Some x) e)) c.in_ok-perform.ensures.state c.in_ok-perform.ensures.draft
