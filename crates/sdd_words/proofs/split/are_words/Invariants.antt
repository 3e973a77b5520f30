use Rattle.sdd_words.proofs.All.{[], is_some, length, scan, words_of, ◌≡◌}
use Rattle.sdd_words.proofs.split.are_words.Given as goal

abbrev pub invariant-bytes : goal.invariant-bytes
invariant-bytes l = is_some (scan l.mode [] l.rest) ≡ is_some (words_of l.line)

abbrev pub decreases-bytes : goal.decreases-bytes
decreases-bytes l = length l.rest
