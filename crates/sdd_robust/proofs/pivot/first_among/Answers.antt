use Rattle.std.proofs.Common.{arith, ◌∙◌}
use Rattle.sdd_robust_laws.specs.Shown.{IsDangerous}
use Rattle.sdd_robust.specs.Members.{kinds, lent}
use Rattle.sdd_robust.specs.declared.member.Member.{Member}
use Rattle.sdd_robust.proofs.StandingFor.{no_pivot_among}
use Rattle.sdd_robust.proofs.Steps.{each_more, lent_at, lent_long}
use Rattle.sdd_robust.proofs.pivot.first_among.Goals as goal

pub members-preserved : goal.members-preserved
members-preserved c =
    let long = lent_long c.args.few.now in (
      c.pivot_among.ensures.same ∙ c.members.invariant.0,
      each_more (λ (m : Member). IsDangerous (kinds c.args.all.now) m.accesses → ⊥) (lent c.args.few.now) c.members.member-index
          c.member-item.result.now (omega (arith, long)) (lent_at c.args.few.now c.members.member-index c.member-item.result c.member-item.is)
          (rw c.in-None.is at c.in_ok-found.ensures.none) c.members.invariant.1,
    )

pub returns-clause-none : goal.returns-clause-none
returns-clause-none c =
    let long = lent_long c.args.few.now in
    no_pivot_among c.args.all.now (lent c.args.few.now) c.members.member-index (omega (arith, long)) c.requires.few c.members.invariant.1
