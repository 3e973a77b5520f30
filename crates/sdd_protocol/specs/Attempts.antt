-- The conditions of an attempt, by what they rest on.
use Rattle.std.specs.Prelude.{ℕ, Bool, List, filter_map, Option}
use Rattle.sdd_base.specs.declared.condition.Cond.{Cond}
use Rattle.sdd_protocol.specs.Conditions.{condition_on}
use Rattle.sdd_protocol.specs.declared.attempt.Attempt.{Attempt}
use Rattle.sdd_protocol.specs.declared.entry.Entry.{Entry}

-- the condition on a class
abbrev pub condition_by : (ℕ → Bool) → List Entry → Attempt → ℕ → Option Cond
condition_by is_asked entries attempt j =
    condition_on is_asked entries attempt.class.0 attempt.own.0 attempt.p2.0 j

-- the conditions on these classes
abbrev pub conditions_on : (ℕ → Bool) → List Entry → Attempt → List ℕ → List Cond
conditions_on is_asked entries attempt classes =
    filter_map (condition_by is_asked entries attempt) classes
