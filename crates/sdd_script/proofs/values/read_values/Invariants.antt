use Rattle.sdd_script.proofs.All.{along, few, kind_of_place, length, value_of, ◌+◌, ◌≡◌, ◌≤◌}
use Rattle.sdd_script.proofs.FewRead.{kept_and_left}
use Rattle.sdd_script.proofs.values.read_values.Given as goal

-- what is kept and what is left to read is all of it, as far as it is kept
abbrev pub invariant-words : goal.invariant-words
invariant-words l = record {
  within : length l.values.items ≤ (length l.columns) + 1;
  same : kept_and_left (length l.columns) (λ i w. value_of (kind_of_place l.columns i) w) l.values.items l.words ≡ few (length l.columns) (along (λ i
      w. value_of (kind_of_place l.columns i) w) 0 l.fn.words);
}

abbrev pub decreases-words : goal.decreases-words
decreases-words l = length l.words
