use Rattle.sdd_exec.proofs.All.{by_keys, fold, insert_entry, int_cmp, keyed_rows, ◌≡◌}
use Rattle.sdd_exec.proofs.matched.as_map.Given as goal

-- the entries that are left make of the map what all make of none
abbrev pub invariant-loop-entry : goal.invariant-loop-entry
invariant-loop-entry l =
    fold (λ kept r. insert_entry int_cmp kept r.0 r.1) l.map.entries (keyed_rows l.entry-iterator.rest.items)
    ≡ by_keys (keyed_rows l.fn.entries.items)
