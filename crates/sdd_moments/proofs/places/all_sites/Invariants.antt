use Rattle.sdd_moments.proofs.All.{D, T, U, [], map, range_with_len, ◌++◌, ◌∷◌, ◌≡◌}
use Rattle.sdd_moments.proofs.places.all_sites.Given as goal

abbrev pub invariant-loop-n : goal.invariant-loop-n
invariant-loop-n l = l.sites.items ≡ (U ∷ []) ++ map (λ n. T (record { 0 = n })) (range_with_len 1 l.n)

abbrev pub invariant-loop-n-2 : goal.invariant-loop-n-2
invariant-loop-n-2 l =
    l.sites.items ≡ (U ∷ map (λ n. T (record { 0 = n })) (range_with_len 1 l.tms)) ++ map (λ n. D (record { 0 = n })) (range_with_len 1 l.n)
