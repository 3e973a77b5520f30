use Rattle.sdd_moments.proofs.All.{D, Site, T, U, [], map, range_with_len, refl, sites_more, ◌+◌, ◌∷◌}
use Rattle.sdd_moments.proofs.places.all_sites.Goals as goal

pub loop-n-preserved : goal.loop-n-preserved
loop-n-preserved c =
    sites_more {A = Site} (λ n. T (record { 0 = n })) c.loop-n.n (c.loop-n.n + 1) (U ∷ []) _ _ c.loop-n.invariant refl c.in_ok-push.ensures.items

pub loop-n-2-preserved : goal.loop-n-2-preserved
loop-n-2-preserved c =
    sites_more {A = Site} (λ n. D (record { 0 = n })) c.loop-n-2.n (c.loop-n-2.n + 1)
    (U ∷ map (λ n. T (record { 0 = n })) (range_with_len 1 c.args.tms)) _ _ c.loop-n-2.invariant refl c.in_ok-push-2.ensures.items
