use Rattle.sdd_lang.proofs.All.{by_item, fold, insert_entry, item_cmp, put_each, ◌≡◌}
use Rattle.sdd_lang.proofs.pending.as_map.Given as goal

-- the changes that are left make of the map what all make of none
abbrev pub invariant-loop-change : goal.invariant-loop-change
invariant-loop-change l =
    fold (λ kept c. insert_entry item_cmp kept c.0 c.1) l.map.entries (by_item l.change-iterator.rest.items)
    ≡ put_each (by_item l.fn.changes.items)
