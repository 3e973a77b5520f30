use Rattle.std.proofs.Common.{Contains, arith, not, ◌&&◌, ◌∙◌}
use Rattle.std.proofs.lemmas.Bool.{and_parts}
use Rattle.sdd_robust_laws.specs.Accesses.{are_apart}
use Rattle.sdd_robust.specs.Members.{lent}
use Rattle.sdd_robust.specs.Pivots.{may_miss}
use Rattle.sdd_robust.proofs.PlaceSets.{one_below}
use Rattle.sdd_robust.proofs.Steps.{lent_at, lent_long}
use Rattle.sdd_robust.proofs.pivot.places_missing.Goals as goal

pub places-preserved : goal.places-preserved
places-preserved c =
    let there = lent_at c.args.few.now c.places.place c.index-few-place.result c.index-few-place.is in
    let long = lent_long c.args.few.now in
    let at : Contains (lent c.args.few.now) c.index-few-place.result.now = (c.places.place, omega (arith, long, c.places-test.true), there) in (
      c.add_where.ensures.room ∙ c.places.invariant.0,
      one_below (λ m. not (are_apart c.args.pivot.now m.accesses) && may_miss m.accesses c.args.pivot.now c.args.read.now) (lent c.args.few.now)
          c.places.found c.add_where.new.self c.places.place c.index-few-place.result.now there c.add_where.ensures.kept
          (λ e.
          let both = and_parts _ _ e in
          c.add_where.ensures.added (c.is_end.ensures (c.requires c.index-few-place.result.now at both.0) both.1))
          c.places.invariant.1,
    )
