-- The records of a history at their places, the oldest at 0; the record at one place is of sdd_history, and passed on.
pub use Rattle.sdd_history.specs.Places.{IsRecordAt, record_at}
use Rattle.std.specs.Prelude.{ℕ, suc, Bool, false, ◌&&◌, ◌||◌, List, [], ◌∷◌, option_map, unwrap_or, slice_get}
use Rattle.std.specs.List.{list_any}
use Rattle.sdd_history.specs.declared.record.Rec.{Rec}
use Rattle.sdd_history.specs.Records.{History}

-- the number of the event of the record at a place
abbrev pub event_at : History → ℕ → ℕ
event_at h k = unwrap_or (option_map (λ e. e.0) (slice_get h k)) 0

-- all records, each with its place, where the first stands at k
abbrev pub placed : ℕ → History → List (ℕ × Rec)
placed k [] = []
placed k (e ∷ h) = (k, e.1) ∷ placed (suc k) h

-- whether a record that passes the first test stands before one that passes the second
abbrev pub comes_before : (Rec → Bool) → (Rec → Bool) → History → Bool
comes_before p q [] = false
comes_before p q (e ∷ h) = (p e.1 && list_any (λ d. q d.1) h) || comes_before p q h
