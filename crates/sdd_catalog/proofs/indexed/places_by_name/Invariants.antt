use Rattle.sdd_catalog.proofs.All.{List, bytes_eq, drop, get, length, position_from, ℕ, ◌≡◌, ◌≤◌}
use Rattle.sdd_catalog.proofs.indexed.places_by_name.Given as goal

-- the places of the names from this fragment on
abbrev pub invariant-loop-place : goal.invariant-loop-place
invariant-loop-place l = record {
  within : l.place ≤ length l.fragments;
  places : (name : List ℕ) → get bytes_eq l.made name ≡ position_from (λ f. bytes_eq name f.name) l.place (drop l.place l.fragments);
}

abbrev pub decreases-loop-place : goal.decreases-loop-place
decreases-loop-place l = l.place
