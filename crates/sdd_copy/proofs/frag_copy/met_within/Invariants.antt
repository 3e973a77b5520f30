use Rattle.sdd_copy.proofs.All.{deref_pair, map, rows_meeting, ◌≡◌}
use Rattle.sdd_copy.proofs.frag_copy.met_within.Given as goal

-- the rows so far are those of the items so far
abbrev pub invariant-loop-key : goal.invariant-loop-key
invariant-loop-key l = l.rows.items ≡ rows_meeting l.restrictions (map deref_pair l.yielded)
