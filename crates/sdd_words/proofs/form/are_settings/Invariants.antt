use Rattle.sdd_words.proofs.All.{is_some, length, settings, ◌≡◌}
use Rattle.sdd_words.proofs.form.are_settings.Given as goal

abbrev pub invariant-groups : goal.invariant-groups
invariant-groups l = is_some (settings l.words) ≡ is_some (settings l.fn.words)

abbrev pub decreases-groups : goal.decreases-groups
decreases-groups l = length l.words
