-- Whether what was over before another transaction began stands before it in the order of a report.
use Rattle.std.specs.Prelude.{ℕ, nat_lt, ◌&&◌, List, Option, Some, None, fold, map, max, if◌then◌else◌}
use Rattle.sdd_certify.specs.Findings.{LineRule, finding}
use Rattle.sdd_certify.specs.Places.{name_at, place_of}
use Rattle.sdd_certify.specs.Told.{commit_on, submission_on}
use Rattle.sdd_certify.specs.declared.finding.Finding.{Finding}

-- the last place, among these names, of the transactions whose commits the lines tell; 0 where none has one
abbrev pub last_committed : List (List ℕ) → List (List ℕ) → ℕ
last_committed names lines = fold max 0 (map (λ line. place_of names (commit_on line)) lines)

-- the transaction at the last place, where another one that is submitted now stands before it
abbrev pub late_behind : List (List ℕ) → ℕ → ℕ → Option (List ℕ)
late_behind names last submitted = if nat_lt 0 submitted && nat_lt submitted last then Some (name_at names last) else None

-- Where a line tells the submission of a transaction that stands in the order before one whose commit is told by then:
-- the last of these.
abbrev pub late_on : List (List ℕ) → LineRule
late_on names before line = late_behind names (last_committed names before) (place_of names (submission_on line))

-- the first such line
abbrev pub strict : List ℕ → Finding
strict report = finding late_on report
