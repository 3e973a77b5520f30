-- Whether the order of a report names each transaction whose commit is told.
use Rattle.std.specs.Prelude.{ℕ, nat_eq, List, Option, None, if◌then◌else◌}
use Rattle.sdd_certify.specs.Findings.{LineRule, finding}
use Rattle.sdd_certify.specs.Places.{place_of}
use Rattle.sdd_certify.specs.Told.{commit_on}
use Rattle.sdd_certify.specs.declared.finding.Finding.{Finding}

-- such a transaction, where it isn't among these names
abbrev pub missing : List (List ℕ) → Option (List ℕ) → Option (List ℕ)
missing names committed = if nat_eq (place_of names committed) 0 then committed else None

-- the transaction whose commit a line tells and that isn't among the names of the order
abbrev pub missing_on : List (List ℕ) → LineRule
missing_on names before line = missing names (commit_on line)

-- the first line that tells the commit of a transaction that the order doesn't name
abbrev pub complete : List ℕ → Finding
complete report = finding missing_on report
