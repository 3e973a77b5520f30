use Rattle.std.proofs.Common.{ap, arith, subst, sym}
use Rattle.std.proofs.lemmas.List.{take_all}
use Rattle.sdd_robust.specs.Members.{StandFor, lent}
use Rattle.sdd_robust.proofs.StandingFor.{stand_begun, stand_more}
use Rattle.sdd_robust.proofs.same.first_of_each.Goals as goal

pub members-init : goal.members-init
members-init c = stand_begun (lent c.new-found.result.items) (ap lent c.new-found.ensures.items)

pub members-preserved : goal.members-preserved
members-preserved c =
    stand_more c.args.all.now (lent c.members.found.items) (lent c.add_new.new.found.items) c.members.member-index c.member-item.result
    (omega arith) (sym c.member-item.is) c.in_ok-add_new.ensures.kept c.in_ok-add_new.ensures.of_them c.in_ok-add_new.ensures.like_it
    c.members.invariant

pub returns : goal.returns
returns c =
    subst (λ z. StandFor z (lent c.members.found.items)) (take_all c.members.member-index c.args.all.now (omega arith)) c.members.invariant
