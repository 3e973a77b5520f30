use Rattle.sdd_catalog.proofs.All.{FragmentPart, ap, arith, bytes_eq, get, sym, ◌-◌, ◌∙◌}
use Rattle.sdd_catalog.proofs.Places.{one_place_back, all_places}
use Rattle.sdd_catalog.proofs.indexed.places_by_name.Goals as goal

pub loop-place-preserved : goal.loop-place-preserved
loop-place-preserved c =
    let is = c.index-fragments-place.is in
    let same = c.in_ok-name.ensures.value ∙ ap (λ (part : FragmentPart). part.name) (sym is) in
    record {
      within = omega arith;
      places = one_place_back c.args.fragments.now (c.loop-place.place - 1) c.loop-place.place _ c.in_ok-name.name (get bytes_eq c.loop-place.made)
          (get bytes_eq c.insert.new.self) (omega arith) (omega arith) is same c.in_ok-insert.ensures.updates.0 c.loop-place.invariant.places;
    }

pub returns : goal.returns
returns c =
    all_places c.args.fragments.now c.loop-place.place (get bytes_eq c.loop-place.made) c.loop-place-test.false c.loop-place.invariant.places
