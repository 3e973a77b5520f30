-- Within the call some log is kept, by which the next act is due and has room.
use Rattle.sdd_tm.proofs.All.{arith}
use Rattle.sdd_tm.proofs.Settling.{still, declared_class, tried_class, goes_on, less_work}
use Rattle.sdd_tm.proofs.parts.Parts.settle.Goals as goal

pub perform-requires-clause-time : goal.perform-requires-clause-time
perform-requires-clause-time c =
    let r = c.requires.amid in
    let at = still c.args.self.now c.loop-place.self c.loop-place.place c.args.places.end c.args.draft.now
    c.loop-place.draft r.0 r.1 r.2 r.3 c.loop-place.invariant in
    let room = at.amid.room in
    omega arith

pub perform-requires-clause-declared : goal.perform-requires-clause-declared
perform-requires-clause-declared c = λ k e.
    let r = c.requires.amid in
    let at = still c.args.self.now c.loop-place.self c.loop-place.place c.args.places.end c.args.draft.now
    c.loop-place.draft r.0 r.1 r.2 r.3 c.loop-place.invariant in
    declared_class at.setting at.bases c.loop-place.self at.log c.loop-place.place k at.amid e

pub perform-requires-clause-tries : goal.perform-requires-clause-tries
perform-requires-clause-tries c = λ k e.
    let r = c.requires.amid in
    let at = still c.args.self.now c.loop-place.self c.loop-place.place c.args.places.end c.args.draft.now
    c.loop-place.draft r.0 r.1 r.2 r.3 c.loop-place.invariant in
    tried_class at.setting at.bases c.loop-place.self at.log c.loop-place.place k at.amid e

pub loop-place-smaller-in-Continue-1 : goal.loop-place-smaller-in-Continue-1
loop-place-smaller-in-Continue-1 c =
    let r = c.requires.amid in
    let at = still c.args.self.now c.loop-place.self c.loop-place.place c.args.places.end c.args.draft.now
    c.loop-place.draft r.0 r.1 r.2 r.3 c.loop-place.invariant in
    let less = less_work c.loop-place.self c.perform.new.self c.loop-place.place c.in-Some.step at c.in-Some.ensures
    c.in_ok-perform-in-Some.ensures.state in
    omega arith

pub loop-place-preserved-in-Continue-1 : goal.loop-place-preserved-in-Continue-1
loop-place-preserved-in-Continue-1 c =
    goes_on c.args.self.now c.loop-place.self c.perform.new.self c.loop-place.place c.args.places.end c.in-Some.step
    c.args.draft.now c.loop-place.draft c.perform.new.draft c.requires.amid.1
    c.loop-place.invariant c.loop-place-test.true c.in-Some.ensures c.in_ok-perform-in-Some.ensures.state
    c.in_ok-perform-in-Some.ensures.draft
