-- The open ASKs of a class, by the timestamp of its active attempt, where one is active.
use Rattle.std.specs.Prelude.{ℕ, nat_le, Bool, true, cond, List, [], ◌∷◌, Option, Some, None}
use Rattle.sdd_rules.specs.All.{Ticking, bound_of}
use Rattle.sdd_rules.specs.declared.asked.Asked.{Asked}

-- an idle class can answer every ASK, an active one those for times up to its timestamp
abbrev pub answers : Option ℕ → Asked → Bool
answers None ask = true
answers (Some ts) ask = nat_le ask.time.0 ts

-- the time of a NULL: of an idle class the clock's bound, else the attempt's timestamp
abbrev pub time_by : Ticking → Option ℕ → ℕ
time_by clock None = bound_of clock
time_by clock (Some ts) = ts

-- without the first that passes
abbrev pub without_first : {A : Type 0} → (A → Bool) → List A → List A
without_first p [] = []
without_first p (x ∷ xs) = cond (p x) xs (x ∷ without_first p xs)
