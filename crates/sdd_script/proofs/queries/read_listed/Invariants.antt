use Rattle.sdd_script.proofs.All.{MAX_OUTPUT_COLUMNS, along, few, length, listed_column, ◌+◌, ◌≡◌, ◌≤◌}
use Rattle.sdd_script.proofs.FewRead.{kept_and_left}
use Rattle.sdd_script.proofs.queries.read_listed.Given as goal

-- what is kept and what is left to read is all of it, as far as it is kept
abbrev pub invariant-words : goal.invariant-words
invariant-words l = record {
  within : length l.out.items ≤ MAX_OUTPUT_COLUMNS + 1;
  same : kept_and_left MAX_OUTPUT_COLUMNS (λ i w. listed_column l.catalogue l.parts w) l.out.items l.words ≡ few MAX_OUTPUT_COLUMNS (along (λ i w.
      listed_column l.catalogue l.parts w) 0 l.fn.words);
}

abbrev pub decreases-words : goal.decreases-words
decreases-words l = length l.words
