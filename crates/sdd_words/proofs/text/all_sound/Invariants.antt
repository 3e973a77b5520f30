use Rattle.sdd_words.proofs.All.{is_sound, length, list_all, ◌≡◌}
use Rattle.sdd_words.proofs.text.all_sound.Given as goal

abbrev pub invariant-words : goal.invariant-words
invariant-words l = list_all is_sound l.words ≡ list_all is_sound l.fn.words

abbrev pub decreases-words : goal.decreases-words
decreases-words l = length l.words
