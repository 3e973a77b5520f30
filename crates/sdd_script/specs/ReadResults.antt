-- What a function that reads a file returned, by the reading that its definition is.
use Rattle.std.specs.Prelude.{◌≡◌, ℕ, Result, Ok, Err}
use Rattle.sdd_script.specs.declared.fault.LineError.{LineError}
use Rattle.sdd_script.specs.declared.fault.LineError.TheVariants.{Broken}
use Rattle.sdd_script.specs.declared.fault.LineError.TheVariants as errors
use Rattle.sdd_script.specs.declared.fault.WorkFault.{WorkFault}
use Rattle.sdd_script.specs.declared.fault.WorkError.{WorkError}
use Rattle.sdd_script.specs.declared.fault.WorkError.TheVariants.{Fault, NoMemory}

-- what the reading gives, or its first fault, unless memory ran out
abbrev pub Tells : {X : Type 0} → Result X WorkError → Result X WorkFault → Type 0
Tells (Ok x) reading = reading ≡ Ok x
Tells (Err (Fault fault)) reading = reading ≡ Err fault
Tells (Err NoMemory) reading = Unit {0}

-- what went wrong on a line, with the line's number
abbrev pub fault_at_line : ℕ → LineError → WorkError
fault_at_line line (Broken rule) = Fault (record { line = line; rule = rule })
fault_at_line line errors.NoMemory = NoMemory
