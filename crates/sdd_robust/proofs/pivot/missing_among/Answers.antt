use Rattle.std.proofs.Common.{arith, false, sym, ◌≡◌}
use Rattle.sdd_robust.specs.Members.{lent}
use Rattle.sdd_robust.specs.Pivots.{may_miss}
use Rattle.sdd_robust.specs.declared.member.Member.{Member}
use Rattle.sdd_robust.proofs.Pivots.{none_missing}
use Rattle.sdd_robust.proofs.Steps.{each_more, lent_at, lent_long, lent_there}
use Rattle.sdd_robust.proofs.pivot.missing_among.Goals as goal

pub others-preserved : goal.others-preserved
others-preserved c =
    let long = lent_long c.as_slice-other-items.result.now in
    each_more (λ (m : Member). may_miss m.accesses c.args.pivot.now c.args.read.now ≡ false) (lent c.as_slice-other-items.result.now)
    c.others.other-index c.other-item.result.now (omega (arith, long))
    (lent_at c.as_slice-other-items.result.now c.others.other-index c.other-item.result c.other-item.is)
    (sym (rw c.as_slice.ensures at c.if-may_miss.ensures)) c.others.invariant

pub returns-then-may_miss-clause-found : goal.returns-then-may_miss-clause-found
returns-then-may_miss-clause-found c =
    let long = lent_long c.as_slice-other-items.result.now in
    let sound = c.in_ok-reached.ensures.sound c.other-item.result.now
    (lent_there c.as_slice-other-items.result.now c.in_ok-reached.reached.items c.others.other-index c.other-item.result
    c.as_slice-other-items.ensures.value (omega (arith, long)) c.other-item.is) in
    (sound.0, sound.1, sym (rw c.as_slice.ensures at c.if-may_miss.ensures))

pub returns-clause-none : goal.returns-clause-none
returns-clause-none c = λ a leads.
    let long = lent_long c.as_slice-other-items.result.now in
    none_missing c.as_slice-other-items.result.now c.in_ok-reached.reached.items c.args.pivot.now c.args.read.now c.others.other-index
    c.as_slice-other-items.ensures.value (omega (arith, long)) c.others.invariant a (c.in_ok-reached.ensures.complete a leads)
