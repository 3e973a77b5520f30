use Rattle.sdd_words.proofs.All.{length, unescaped, unescaped_from, ◌++◌, ◌≡◌}
use Rattle.sdd_words.proofs.token.unescape.Given as goal

-- what was read and what is left to read is all of it
abbrev pub invariant-bytes : goal.invariant-bytes
invariant-bytes l = l.text.items ++ unescaped_from l.is_behind l.rest ≡ unescaped l.spelling

abbrev pub decreases-bytes : goal.decreases-bytes
decreases-bytes l = length l.rest
