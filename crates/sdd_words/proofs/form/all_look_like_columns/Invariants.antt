use Rattle.sdd_words.proofs.All.{length, list_all, looks_like_column, ◌≡◌}
use Rattle.sdd_words.proofs.form.all_look_like_columns.Given as goal

abbrev pub invariant-words : goal.invariant-words
invariant-words l = list_all looks_like_column l.words ≡ list_all looks_like_column l.fn.words

abbrev pub decreases-words : goal.decreases-words
decreases-words l = length l.words
