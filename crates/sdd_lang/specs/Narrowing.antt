-- What one restriction more does to the keys that are allowed.
use Rattle.std.specs.Prelude.{ℕ, ◌==◌, cond, List, fold}
use Rattle.sdd_base.specs.declared.restriction.Restriction.{Restriction}
use Rattle.sdd_base.specs.Order.{number_in}
use Rattle.sdd_lang.specs.Uses.{Interval, common, keys_for}

-- the keys that restrictions leave of some; of all keys they leave the allowed ones
abbrev pub keys_left : ℕ → Interval → List Restriction → Interval
keys_left key keys restrictions =
    fold (λ ks r. cond (r.column == key) (common ks (keys_for r.op (number_in r.value))) ks) keys restrictions
