-- A file, line by line, each in the state that the lines before it made. The first line at fault is reported, with its number.
use Rattle.std.specs.Prelude.{ℕ, ◌+◌, nat_lt, List, [], ◌∷◌, length, Result, Ok, Err, if◌then◌else◌}
use Rattle.std.specs.Str.{is_utf8}
use Rattle.sdd_lang.specs.All.{Catalogue, MAX_WORKLOAD_BYTES}
use Rattle.sdd_words.specs.Lines.{cut_lines}
use Rattle.sdd_script.specs.LineRules.{line_rules}
use Rattle.sdd_script.specs.Places.{is_ended}
use Rattle.sdd_script.specs.declared.fault.WorkFault.{WorkFault}
use Rattle.sdd_script.specs.declared.fault.WorkRule.{WorkRule}
use Rattle.sdd_script.specs.declared.fault.WorkRule.TheVariants.{BadLine, NoEnd, NotUtf8, TooLong}
use Rattle.sdd_script.specs.declared.place.Place.TheVariants.{Rows}
use Rattle.sdd_script.specs.declared.state.State.{State}
use Rattle.sdd_script.specs.declared.workload.Workload.{Workload}

-- the rule that a line breaks, as a fault at its number
abbrev pub at_line : ℕ → Result State WorkRule → (State → Result State WorkFault) → Result State WorkFault
at_line line (Ok st) read_on = read_on st
at_line line (Err rule) read_on = Err (record { line = line; rule = rule })

-- after the line `end` no line may stand
abbrev pub one_line : Catalogue → State → List ℕ → Result State WorkRule
one_line cat st line = if is_ended st.place then Err BadLine else line_rules cat st line

-- what stands after the last newline
abbrev pub tail_rules : State → List ℕ → Result State WorkRule
tail_rules st [] = if is_ended st.place then Ok st else Err NoEnd
tail_rules st (c ∷ cs) = if is_ended st.place then Err BadLine else (if is_utf8 (c ∷ cs) then Err NoEnd else Err NotUtf8)

-- the lines, of which the first has this number, and what stands after the last newline
unfoldable pub walk : Catalogue → ℕ → State → List (List ℕ) → List ℕ → Result State WorkFault
walk cat line st [] tail = at_line line (tail_rules st tail) (λ s. Ok s)
walk cat line st (l ∷ ls) tail = at_line line (one_line cat st l) (λ s. walk cat (line + 1) s ls tail)

abbrev pub walk_bytes : Catalogue → ℕ → State → List ℕ → Result State WorkFault
walk_bytes cat line st bytes = walk cat line st (cut_lines bytes).0 (cut_lines bytes).1

-- before the first line
abbrev pub nothing_read : Catalogue → State
nothing_read cat = record {
  place = Rows;
  rows = [];
  written = 0;
  names = [];
  txns = [];
  statements =
      [];
  lists = [];
  classes = length cat.classes;
  submitted = [];
  events = [];
}

abbrev pub workload_of_state : Result State WorkFault → Result Workload WorkFault
workload_of_state (Ok st) = Ok (record { rows = st.rows; txns = st.txns; lists = st.lists; events = st.events })
workload_of_state (Err fault) = Err fault

-- the workload that a file gives, or its first fault
abbrev pub workload : Catalogue → List ℕ → Result Workload WorkFault
workload cat bytes =
    if nat_lt MAX_WORKLOAD_BYTES (length bytes)
    then Err (record { line = 0; rule = TooLong })
    else workload_of_state (walk_bytes cat 1 (nothing_read cat) bytes)
