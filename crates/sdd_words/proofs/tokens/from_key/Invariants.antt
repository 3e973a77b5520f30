use Rattle.sdd_words.proofs.All.{IsLeft, from_key, length, words_left, ◌≡◌}
use Rattle.sdd_words.proofs.tokens.from_key.Given as goal

abbrev pub invariant-words : goal.invariant-words
invariant-words l = record {
  left : IsLeft l.rest;
  same : from_key l.key (words_left l.rest) ≡ from_key l.key (words_left l.bytes);
}

abbrev pub decreases-words : goal.decreases-words
decreases-words l = length l.rest
