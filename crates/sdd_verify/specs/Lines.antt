-- The lines of a report, counted from 1: what stands after the last newline is no line.
use Rattle.std.specs.Prelude.{ℕ, ◌+◌, nat_eq, nat_le, ◌||◌, not, codes, length, Bool, false, List, [], ◌∷◌, Result, Ok, Err, if◌then◌else◌}
use Rattle.std.specs.List.{starts_with}
use Rattle.std.specs.Str.{bytes_eq}
use Rattle.sdd_script.specs.All.{cut_lines}
use Rattle.sdd_verify.specs.declared.limits.TheConstants.{MAX_REPORT_BYTES}

abbrev pub lines_of : List ℕ → List (List ℕ)
lines_of report = (cut_lines report).0

-- lines, with the number of the first of them
abbrev pub Numbered : Type 0
Numbered = ℕ × List (List ℕ)

-- all lines of a report, of which one that is too long is at fault before its first line
abbrev pub numbered_lines : List ℕ → Result Numbered ℕ
numbered_lines report = if nat_le (length report) MAX_REPORT_BYTES then Ok (1, lines_of report) else Err 0

-- the line that gives the order: the word `order` alone, or with a space after it
abbrev pub is_order_line : List ℕ → Bool
is_order_line line = bytes_eq line (codes "order") || starts_with nat_eq line (codes "order ")

-- the first order line, with its number and the lines after it; where there is none, the number after the last line
abbrev pub order_line_in : ℕ → List (List ℕ) → Result (ℕ × List ℕ × Numbered) ℕ
order_line_in number [] = Err number
order_line_in number (line ∷ lines) = if is_order_line line then Ok (number, line, (number + 1, lines)) else order_line_in (number + 1) lines

-- a line of a reply
abbrev pub tells_reply : List ℕ → Bool
tells_reply line = starts_with nat_eq line (codes "reply ") || (starts_with nat_eq line (codes "query ") || starts_with nat_eq line (codes "row "))

-- whether the replies end here: a line is there, and it is of no reply
abbrev pub ends_replies : List (List ℕ) → Bool
ends_replies [] = false
ends_replies (line ∷ lines) = not (tells_reply line)

-- what stands after lines that have to come; or the number of the first that isn't there or is another
abbrev pub passed : ℕ → List (List ℕ) → List (List ℕ) → Result Numbered ℕ
passed number [] lines = Ok (number, lines)
passed number (line ∷ more) [] = Err number
passed number (line ∷ more) (found ∷ lines) = if bytes_eq found line then passed (number + 1) more lines else Err number
