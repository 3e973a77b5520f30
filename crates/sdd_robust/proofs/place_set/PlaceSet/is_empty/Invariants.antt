use Rattle.std.proofs.Common.{slice_index_or, ℕ, ◌<◌, ◌≡◌}
use Rattle.sdd_robust.proofs.place_set.PlaceSet.is_empty.Given as goal

-- the words so far are 0
abbrev pub invariant-words : goal.invariant-words
invariant-words l = (k : ℕ) → k < l.at → slice_index_or l.self k 0 ≡ 0
