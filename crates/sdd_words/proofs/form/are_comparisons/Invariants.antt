use Rattle.sdd_words.proofs.All.{comparison_key, comparisons, conditions_form, is_some, length, ◌≡◌}
use Rattle.sdd_words.proofs.form.are_comparisons.Given as goal

abbrev pub invariant-groups : goal.invariant-groups
invariant-groups l = is_some (comparisons (comparison_key l.is_first) l.words) ≡ is_some (conditions_form l.fn.words)

abbrev pub decreases-groups : goal.decreases-groups
decreases-groups l = length l.words
