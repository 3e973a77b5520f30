-- The catalogue in force is that of an era.
use Rattle.sdd_laws.proofs.All.{AreEras, Catalogue, Eras, IsEraOf, [], arith, catalogue_at, eras_begun, length, slice_get-get_or, slice_get_within, slice_index_or as get_or, ℕ, ◌-◌, ◌<◌, ◌∷◌, ◌≤◌}

-- no more eras have begun than there are
begun_few : (eras : Eras) (event : ℕ) → eras_begun eras event ≤ length eras
begun_few [] event = omega arith
begun_few (e ∷ eras) event = grind (arith, begun_few eras event)

pub era_is : (cat : Catalogue) (eras : Eras) → AreEras cat eras → (event : ℕ) → IsEraOf cat (catalogue_at cat eras event)
era_is cat eras are event =
    let k = eras_begun eras event - 1 in
    let within : k < length eras = omega (arith, begun_few eras event, slice_get_within eras 0 (0, are.first.0) are.first.1) in
    are.each k (get_or eras k (0, cat)) (slice_get-get_or eras k (0, cat) within)
