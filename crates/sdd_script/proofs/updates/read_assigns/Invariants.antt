use Rattle.sdd_script.proofs.All.{MAX_ASSIGNMENTS, along, assign_of, few, length, ◌+◌, ◌≡◌, ◌≤◌}
use Rattle.sdd_script.proofs.FewRead.{kept_and_left}
use Rattle.sdd_script.proofs.updates.read_assigns.Given as goal

-- what is kept and what is left to read is all of it, as far as it is kept
abbrev pub invariant-words : goal.invariant-words
invariant-words l = record {
  within : length l.sets.items ≤ MAX_ASSIGNMENTS + 1;
  same : kept_and_left MAX_ASSIGNMENTS (λ i w. assign_of l.catalogue l.rel w) l.sets.items l.words ≡ few MAX_ASSIGNMENTS (along (λ i w. assign_of l.catalogue
      l.rel w) 0 l.fn.words);
}

abbrev pub decreases-words : goal.decreases-words
decreases-words l = length l.words
