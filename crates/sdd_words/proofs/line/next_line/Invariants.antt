use Rattle.sdd_words.proofs.All.{get_or, ℕ, ◌<◌, ◌≡◌}
use Rattle.sdd_words.proofs.line.next_line.Given as goal

abbrev pub invariant-bytes : goal.invariant-bytes
invariant-bytes l = (k : ℕ) → k < l.i → get_or l.bytes k 0 ≡ 10 → ⊥
