use Rattle.sdd_copy.proofs.All.{chosen, drop, flat_map, rows_at, ◌++◌, ◌≡◌}
use Rattle.sdd_copy.proofs.freezing.found_in.Given as goal

-- the rows so far, with those of the fragments that are left
abbrev pub invariant-loop-frag : goal.invariant-loop-frag
invariant-loop-frag l =
    l.found.items ++ flat_map (λ f. chosen l.one.restrictions (rows_at l.copies.value f.0)) (drop l.frag-index l.frag-items)
    ≡ flat_map (λ f. chosen l.one.restrictions (rows_at l.copies.value f.0)) l.frag-items
