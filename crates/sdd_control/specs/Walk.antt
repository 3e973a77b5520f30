-- A control file, line by line. The first line at fault is reported, with its number.
use Rattle.std.specs.Prelude.{ℕ, ◌+◌, ◌^◌, nat_lt, Bool, true, false, List, [], ◌∷◌, length, Result, Ok, Err, if◌then◌else◌}
use Rattle.std.specs.Str.{is_utf8}
use Rattle.sdd_script.specs.declared.fault.WorkFault.{WorkFault}
use Rattle.sdd_script.specs.declared.fault.WorkRule.{WorkRule}
use Rattle.sdd_script.specs.declared.fault.WorkRule.TheVariants.{BadLine, NoEnd, NotUtf8, TooLong}
use Rattle.sdd_script.specs.All.{cut_lines}
use Rattle.sdd_control.specs.LineRules.{line_rules}
use Rattle.sdd_backups.specs.declared.act.Act.{Act}
use Rattle.sdd_control.specs.Draft.{Draft}
use Rattle.sdd_control.specs.declared.stage.Stage.{Stage}
use Rattle.sdd_control.specs.declared.stage.Stage.TheVariants.{First, Ended}
use Rattle.sdd_control.specs.declared.script.ControlScript.{ControlScript}

abbrev pub is_ended : Stage → Bool
is_ended (Ended head) = true
is_ended _ = false

-- the rule that a line breaks, as a fault at its number
abbrev pub at_line : {A : Type 0} → ℕ → Result A WorkRule → (A → Result ControlScript WorkFault)
    → Result ControlScript WorkFault
at_line line (Ok x) read_on = read_on x
at_line line (Err rule) read_on = Err (record { line = line; rule = rule })

-- after the line `end` no line may stand
abbrev pub one_line : Draft → List ℕ → Result Draft WorkRule
one_line draft line = if is_ended draft.stage then Err BadLine else line_rules draft line

-- what stands after the last newline, and the script where nothing does
abbrev pub tail_rules : Stage → List Act → List ℕ → Result ControlScript WorkRule
tail_rules (Ended head) acts [] =
    Ok (record { backups = head.backups; writes = head.writes; acts = acts })
tail_rules (Ended head) acts (c ∷ cs) = Err BadLine
tail_rules _ acts [] = Err NoEnd
tail_rules _ acts (c ∷ cs) = if is_utf8 (c ∷ cs) then Err NoEnd else Err NotUtf8

-- the lines, of which the first has this number, and what stands after the last newline
unfoldable pub walk : ℕ → Draft → List (List ℕ) → List ℕ → Result ControlScript WorkFault
walk line draft [] tail =
    at_line line (tail_rules draft.stage draft.acts tail) (λ script. Ok script)
walk line draft (l ∷ ls) tail = at_line line (one_line draft l) (λ d. walk (line + 1) d ls tail)

abbrev pub walk_bytes : ℕ → Draft → List ℕ → Result ControlScript WorkFault
walk_bytes line draft bytes = walk line draft (cut_lines bytes).0 (cut_lines bytes).1

-- before the first line
abbrev pub nothing_read : Draft
nothing_read = record { stage = First; acts = [] }

abbrev pub most_bytes : ℕ
most_bytes = 2 ^ 26

-- the script that a file gives, or its first fault
abbrev pub control_script : List ℕ → Result ControlScript WorkFault
control_script bytes =
    if nat_lt most_bytes (length bytes)
    then Err (record { line = 0; rule = TooLong })
    else walk_bytes 1 nothing_read bytes
