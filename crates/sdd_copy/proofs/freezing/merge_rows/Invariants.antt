use Rattle.sdd_copy.proofs.All.{[], fold, with_keyed, ◌≡◌}
use Rattle.sdd_copy.proofs.freezing.merge_rows.Given as goal

-- the rows that are left make of these what all make of none
abbrev pub invariant-loop-row : goal.invariant-loop-row
invariant-loop-row l = fold with_keyed l.merged.entries l.row-iterator.rest.items ≡ fold with_keyed [] l.fn.found.items
