-- Conditions on the rows of one relation.
use Rattle.std.specs.Prelude.{ℕ, ℤ, List, map}
use Rattle.sdd_lang.specs.All.{Eq, Int, Restriction, restrictions_of}
use Rattle.sdd_lang.specs.declared.condition.Condition.{Condition}
use Rattle.sdd_lang.specs.declared.condition.Condition.TheVariants.{Const}

abbrev pub on_first_part : Restriction → Condition
on_first_part r = Const (record { part = 1; column = r.column }) r.op r.value

-- the conditions that compare a column of a part with a constant
abbrev pub own_conditions : ℕ → List Condition → List Condition
own_conditions part conds = map on_first_part (restrictions_of part conds)

-- the number in a column is this
abbrev pub has_key : ℕ → ℤ → Condition
has_key column key = Const (record { part = 1; column = column }) Eq (Int key)
