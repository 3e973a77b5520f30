use Rattle.sdd_running.proofs.All.{ascending, drop, filter_map, fold, insert_key, map, nat_cmp, reads_at, ◌≡◌}
use Rattle.sdd_running.proofs.reads.modules_read.Given as goal

abbrev pub invariant-loop-frag : goal.invariant-loop-frag
invariant-loop-frag l =
    fold (λ ks k. insert_key nat_cmp ks k) (map (λ d. d.0) l.dms.items) (filter_map (reads_at l.catalogue l.class.0) (map (λ f. f.0) (drop l.frag-index l.frags)))
    ≡ ascending (filter_map (reads_at l.catalogue l.class.0) (map (λ f. f.0) l.frags))
