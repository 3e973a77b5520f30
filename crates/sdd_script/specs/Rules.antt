-- The rule that a line's error names.
use Rattle.std.specs.Prelude.{Option, Some, None}
use Rattle.sdd_script.specs.declared.fault.WorkRule.{WorkRule}
use Rattle.sdd_script.specs.declared.fault.LineError.{LineError}
use Rattle.sdd_script.specs.declared.fault.LineError.TheVariants.{Broken, NoMemory}

-- the broken rule; none where memory ran out
abbrev pub rule_in : LineError → Option WorkRule
rule_in (Broken rule) = Some rule
rule_in NoMemory = None
