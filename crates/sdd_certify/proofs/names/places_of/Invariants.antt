use Rattle.sdd_certify.proofs.All.{List, get, map, nat_cmp, place_in, slice_cmp, take, ℕ, ◌≡◌}
use Rattle.sdd_certify.proofs.names.places_of.Given as goal

-- the places of the names so far
abbrev pub invariant-names : goal.invariant-names
invariant-names l = (name : List ℕ) → get (slice_cmp nat_cmp) l.made name ≡ place_in (map (λ w. w.now) (take l.i l.names)) name
