use Rattle.std.proofs.Common.{ap, sym, ◌∙◌, ◌≡◌}
use Rattle.sdd_robust_laws.specs.Accesses.{conflict}
use Rattle.sdd_robust.specs.Members.{lent}
use Rattle.sdd_robust.proofs.PlaceSets.{one_below}
use Rattle.sdd_robust.proofs.Steps.{lent_at}
use Rattle.sdd_robust.proofs.conflicts.conflicting_with.Goals as goal

pub places-preserved : goal.places-preserved
places-preserved c =
    let same : c.as_slice-other.result.now ≡ c.index-members-place.result.now.accesses =
    c.as_slice-other.ensures ∙ ap (λ m. m.now.accesses) (sym c.index-members-place.is) in (
      c.add_where.ensures.room ∙ c.places.invariant.0,
      one_below (λ m. conflict c.args.one.now.accesses m.accesses) (lent c.args.members.now) c.places.found c.add_where.new.self c.places.place
          c.index-members-place.result.now (lent_at c.args.members.now c.places.place c.index-members-place.result c.index-members-place.is)
          c.add_where.ensures.kept
          (λ e. c.add_where.ensures.added (c.conflict.ensures ∙ rw (c.as_slice.ensures, same) e)) c.places.invariant.1,
    )
