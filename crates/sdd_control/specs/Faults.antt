-- What a function that reads a line or a file answers, by the reading that its definition is.
use Rattle.std.specs.Prelude.{ℕ, Option, Some, None, Result}
use Rattle.sdd_script.specs.All.{GivesReading as GivesBy}
use Rattle.sdd_script.specs.declared.fault.WorkError.{WorkError}
use Rattle.sdd_script.specs.declared.fault.WorkError.TheVariants as errors
use Rattle.sdd_script.specs.declared.fault.WorkFault.{WorkFault}
use Rattle.sdd_script.specs.declared.fault.WorkRule.{WorkRule}
use Rattle.sdd_control.specs.declared.fault.LineError.{LineError}
use Rattle.sdd_control.specs.declared.fault.LineError.TheVariants.{Broken, NoMemory}

-- the rule that a line breaks
abbrev pub rule_in : LineError → Option WorkRule
rule_in (Broken rule) = Some rule
rule_in NoMemory = None

abbrev pub GivesLine : {X Y : Type 0} → (X → Y) → Result X LineError → Result Y WorkRule → Type 0
GivesLine view result reading = GivesBy rule_in view result reading

-- the fault of a file
abbrev pub fault_in : WorkError → Option WorkFault
fault_in (errors.Fault fault) = Some fault
fault_in errors.NoMemory = None

abbrev pub Tells : {X : Type 0} → Result X WorkError → Result X WorkFault → Type 0
Tells result reading = GivesBy fault_in (λ x. x) result reading

-- what went wrong on a line, reported with the line's number
abbrev pub fault_at_line : ℕ → LineError → WorkError
fault_at_line line (Broken rule) = errors.Fault (record { line = line; rule = rule })
fault_at_line line NoMemory = errors.NoMemory
