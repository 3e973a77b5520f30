use Rattle.std.proofs.Common.{ap, not, sym, ◌∙◌, ◌≡◌}
use Rattle.sdd_robust_laws.specs.Accesses.{are_apart}
use Rattle.sdd_robust.specs.Members.{lent}
use Rattle.sdd_robust.proofs.PlaceSets.{one_below}
use Rattle.sdd_robust.proofs.Steps.{lent_at}
use Rattle.sdd_robust.proofs.meanwhile.places_beside.Goals as goal

pub places-preserved : goal.places-preserved
places-preserved c =
    let same : c.as_slice.result.now ≡ c.index-members-place.result.now.accesses =
    c.as_slice.ensures ∙ ap (λ m. m.now.accesses) (sym c.index-members-place.is) in (
      c.add_where.ensures.room ∙ c.places.invariant.0,
      one_below (λ m. not (are_apart c.args.pivot.now m.accesses)) (lent c.args.members.now) c.places.found c.add_where.new.self c.places.place
          c.index-members-place.result.now (lent_at c.args.members.now c.places.place c.index-members-place.result c.index-members-place.is)
          c.add_where.ensures.kept
          (λ e. c.add_where.ensures.added (ap not (c.are_apart.ensures ∙ ap (are_apart c.args.pivot.now) same) ∙ e)) c.places.invariant.1,
    )
