use Rattle.sdd_words.proofs.All.{is_free, length, list_all, ◌≡◌}
use Rattle.sdd_words.proofs.form.all_free.Given as goal

abbrev pub invariant-words : goal.invariant-words
invariant-words l = list_all is_free l.words ≡ list_all is_free l.fn.words

abbrev pub decreases-words : goal.decreases-words
decreases-words l = length l.words
