-- What is found of the lines of a report that stand before its order line.
use Rattle.std.specs.Prelude.{ℕ, ◌+◌, List, [], ◌∷◌, ◌++◌, Option, Some, None, Result, Ok, Err, length, if◌then◌else◌}
use Rattle.sdd_script.specs.All.{◌>>=◌}
use Rattle.sdd_verify.specs.Lines.{Numbered, is_order_line, lines_of, numbered_lines, order_line_in}
use Rattle.sdd_verify.specs.Orders.{names_on}
use Rattle.sdd_certify.specs.declared.finding.Finding.{Finding}
use Rattle.sdd_certify.specs.declared.finding.Finding.TheVariants.{At, NoOrder, Yes}

-- the lines before the first order line
abbrev pub before_order : List (List ℕ) → List (List ℕ)
before_order [] = []
before_order (line ∷ lines) = if is_order_line line then [] else line ∷ before_order lines

-- a rule names a transaction that a line is at fault with, by the lines before it and itself
abbrev pub LineRule : Type 0
LineRule = List (List ℕ) → List ℕ → Option (List ℕ)

-- the line with this number is at fault, or what else is found
abbrev pub at_or : ℕ → Option (List ℕ) → Finding → Finding
at_or number None other = other
at_or number (Some name) other = At number name

-- the first line that a rule finds at fault, where the lines so far are none
abbrev pub first_behind : LineRule → List (List ℕ) → List (List ℕ) → Finding
first_behind rule before [] = Yes
first_behind rule before (line ∷ lines) =
    at_or (length before + 1) (rule before line) (first_behind rule (before ++ line ∷ []) lines)

-- the first of these lines that a rule finds at fault
abbrev pub first_fault : LineRule → List (List ℕ) → Finding
first_fault rule lines = first_behind rule [] lines

-- the first order line of a report that isn't too long, with its number and the lines after it
abbrev pub order_in : List ℕ → Result (ℕ × List ℕ × Numbered) ℕ
order_in report = numbered_lines report >>= (λ whole. order_line_in whole.0 whole.1)

-- what a rule, by the names on the order line, finds of the lines of a report
abbrev pub found_by : (List (List ℕ) → LineRule) → List (List ℕ) → Result (ℕ × List ℕ × Numbered) ℕ → Finding
found_by rule lines (Err number) = NoOrder number
found_by rule lines (Ok at) = first_fault (rule (names_on at.1)) (before_order lines)

-- what a rule finds of a report
abbrev pub finding : (List (List ℕ) → LineRule) → List ℕ → Finding
finding rule report = found_by rule (lines_of report) (order_in report)
