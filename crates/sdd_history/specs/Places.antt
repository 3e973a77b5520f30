-- The records of a history at their places, the oldest at 0.
use Rattle.std.specs.Prelude.{ℕ, ◌≡◌, Option, Some, option_map, slice_get}
use Rattle.sdd_base.specs.Numbers.{txn_no}
use Rattle.sdd_history.specs.declared.record.Rec.{Rec}
use Rattle.sdd_history.specs.declared.record.Rec.TheVariants.{Submit}
use Rattle.sdd_history.specs.Records.{History}

-- the record at a place
abbrev pub record_at : History → ℕ → Option Rec
record_at h k = option_map (λ e. e.1) (slice_get h k)

-- the record stands at the place
abbrev pub IsRecordAt : History → ℕ → Rec → Type 0
IsRecordAt h k r = record_at h k ≡ Some r

-- the transaction with this number is submitted at the place
abbrev pub IsSubmitted : History → ℕ → ℕ → Type 0
IsSubmitted h n k = IsRecordAt h k (Submit (txn_no n))
