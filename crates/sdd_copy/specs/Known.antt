-- The reduction of rows by an ascending list of values without repeats, which is looked up from the values' order.
use Rattle.std.specs.Prelude.{ℕ, ◌==◌, Bool, if◌then◌else◌, List, filter}
use Rattle.std.specs.List.{list_any}
use Rattle.std.specs.Ordering.{is_eq}
use Rattle.sdd_lang.specs.All.{Value, column, value_cmp}

abbrev pub is_known : List Value → Value → Bool
is_known known v = list_any (λ x. is_eq (value_cmp v x)) known

abbrev pub known_use : ℕ → ℕ → List Value → ℕ × List (List Value) → ℕ × List (List Value)
known_use number col known e = if e.0 == number then (e.0, filter (λ row. is_known known (column row col)) e.1) else e
