use Rattle.sdd_copy.proofs.All.{FragNo, [], fold, initial, written, ◌≡◌}
use Rattle.sdd_copy.proofs.frag_copy.FragCopy.new.Given as goal

abbrev pub invariant-loop-row : goal.invariant-loop-row
invariant-loop-row l = (f : FragNo) → fold written l.items (initial f l.key l.row-iterator.iter.rest.now) ≡ fold written [] (initial f l.key l.rows)
