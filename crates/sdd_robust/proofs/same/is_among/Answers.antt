use Rattle.std.proofs.Common.{Contains, arith, refl, subst}
use Rattle.sdd_links.proofs.Members.{Contains-map}
use Rattle.sdd_robust.specs.Members.{kinds, lent}
use Rattle.sdd_robust.specs.declared.member.Member.{Member}
use Rattle.sdd_robust.proofs.Steps.{lent_long, lent_there}
use Rattle.sdd_robust.proofs.same.is_among.Goals as goal

pub returns-then-are_same : goal.returns-then-are_same
returns-then-are_same c = λ _.
    let long = lent_long c.args.members.now in
    subst (Contains (kinds (lent c.args.members.now))) (rw c.as_slice.ensures at (c.if-are_same.ensures refl))
    (Contains-map (λ (m : Member). m.accesses) (lent c.args.members.now) c.other-item.result.now
    (lent_there c.args.members.now c.args.members.now c.members.other-index c.other-item.result refl (omega (arith, long)) c.other-item.is))
