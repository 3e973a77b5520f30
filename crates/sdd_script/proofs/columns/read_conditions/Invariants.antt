use Rattle.sdd_script.proofs.All.{MAX_CONDITIONS, along, condition_of, few, length, ◌+◌, ◌≡◌, ◌≤◌}
use Rattle.sdd_script.proofs.FewRead.{kept_and_left}
use Rattle.sdd_script.proofs.columns.read_conditions.Given as goal

-- what is kept and what is left to read is all of it, as far as it is kept
abbrev pub invariant-words : goal.invariant-words
invariant-words l = record {
  within : length l.conds.items ≤ MAX_CONDITIONS + 1;
  same : kept_and_left MAX_CONDITIONS (λ i w. condition_of l.catalogue l.parts w) l.conds.items l.words ≡ few MAX_CONDITIONS (along (λ i w. condition_of
      l.catalogue l.parts w) 0 l.fn.words);
}

abbrev pub decreases-words : goal.decreases-words
decreases-words l = length l.words
