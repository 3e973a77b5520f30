-- The sites of a network exist.
use Rattle.sdd_moments.proofs.All.{All, All-append, All-cons, All-map, All-nil, D, Input, IsSiteOf, List, Site, T, U, arith, d_site, map, range_with_len, refl, sites, suc, t_site, zero, ℕ, ◌++◌, ◌+◌, ◌<◌, ◌≤◌}

each_number : (P : ℕ → Type 0) (k n : ℕ) → ((d : ℕ) → k ≤ d → d < k + n → P d) → All P (range_with_len k n)
each_number P k zero h = All-nil P
each_number P k (suc n) h =
    All-cons P k (range_with_len (k + 1) n) (h k (omega arith) (omega arith)) (each_number P (k + 1) n (λ d low high. h d (omega arith) (omega arith)))

pub sites_there : (g : Input) → All (IsSiteOf g) (sites g.catalogue.tms g.catalogue.dms)
sites_there g =
    let t : ℕ → Site = λ n. T (record { 0 = n }) in
    let d : ℕ → Site = λ n. D (record { 0 = n }) in
    let tms : List ℕ = range_with_len 1 g.catalogue.tms in
    let dms : List ℕ = range_with_len 1 g.catalogue.dms in
    let all_tms : All (λ n. IsSiteOf g (t n)) tms =
    each_number (λ n. IsSiteOf g (t n)) 1 g.catalogue.tms (λ n low high. t_site g.catalogue n low (omega arith)) in
    let all_dms : All (λ n. IsSiteOf g (d n)) dms =
    each_number (λ n. IsSiteOf g (d n)) 1 g.catalogue.dms (λ n low high. d_site g.catalogue n (low, omega arith)) in
    All-cons (IsSiteOf g) U (map t tms ++ map d dms) refl
    (All-append (IsSiteOf g) (map t tms) (map d dms) (All-map (IsSiteOf g) t tms all_tms) (All-map (IsSiteOf g) d dms all_dms))
