-- Rows of a relation with keys from one to another, and accesses of them.
use Rattle.std.specs.Prelude.{ℕ, ◌≡◌, Bool, true, false, if◌then◌else◌, List, Option, Some, None, map, pos, refl}
use Rattle.sdd_lang.specs.All.{Interval, RelNo, holds_some}
use Rattle.sdd_robust_laws.specs.declared.access.Access.{Access}
use Rattle.sdd_robust.specs.declared.key_range.KeyRange.{KeyRange}

-- those with these keys, where there are some
abbrev pub range_of : RelNo → Interval → Option KeyRange
range_of rel keys = if holds_some keys then Some (record { rel = rel; least = keys.0; greatest = keys.1 }) else None

pub one_key : (rel : RelNo) → range_of rel (pos 5, pos 5) ≡ Some (record { rel = rel; least = pos 5; greatest = pos 5 })
one_key rel = refl

pub no_key : (rel : RelNo) → range_of rel (pos 5, pos 4) ≡ None
no_key rel = refl

-- an access of a column
abbrev pub access_in : KeyRange → ℕ → Bool → Bool → Bool → Access
access_in range column reads changes sure =
    record { rel = range.rel; least = range.least; greatest = range.greatest; column = column; reads = reads; changes = changes; sure = sure }

abbrev pub reads_in : KeyRange → List ℕ → List Access
reads_in range columns = map (λ column. access_in range column true false false) columns

abbrev pub changes_in : KeyRange → List ℕ → Bool → List Access
changes_in range columns sure = map (λ column. access_in range column false true sure) columns
