use Rattle.sdd_dm.proofs.All.{None, has_copy, is_some, length, slice_index_or, ℕ, ◌<◌, ◌≡◌}
use Rattle.sdd_dm.proofs.starting.key_columns.Given as goal

abbrev pub invariant-loop-number : goal.invariant-loop-number
invariant-loop-number l = record {
  many : length l.keys.items ≡ l.number;
  each : (f : ℕ) → f < l.number → is_some (slice_index_or l.keys.items f None) ≡ has_copy l.catalogue l.dm.0 f;
}
