use Rattle.sdd_words.proofs.All.{false, length, quote_from, ◌+◌, ◌≡◌}
use Rattle.sdd_words.proofs.tokens.quote_place.Given as goal

abbrev pub invariant-bytes : goal.invariant-bytes
invariant-bytes l = record {
  counted : l.place + quote_from l.is_behind l.rest ≡ quote_from false l.text;
  whole : l.place + length l.rest ≡ length l.text;
}

abbrev pub decreases-bytes : goal.decreases-bytes
decreases-bytes l = length l.rest
