-- Pivots: by which accesses, and by which transactions.
use Rattle.std.specs.Prelude.{Bool, ◌≡◌, ◌&&◌, true, not, List, Contains, filter}
use Rattle.std.specs.List.{list_any}
use Rattle.sdd_robust_laws.specs.Accesses.{are_apart, are_of_one_row, changes_for, reads_from}
use Rattle.sdd_robust_laws.specs.Shown.{IsDangerous}
use Rattle.sdd_robust_laws.specs.declared.access.Access.{Access}
use Rattle.sdd_robust.specs.Leading.{Leads}
use Rattle.sdd_robust.specs.Members.{kinds}
use Rattle.sdd_robust.specs.declared.member.Member.{Member}

-- whether a transaction may read what the pivot changes, where it isn't one row with what the pivot reads by an access
abbrev pub may_miss : List Access → List Access → Access → Bool
may_miss other pivot read = list_any (λ change. changes_for change other && not (are_of_one_row read change)) pivot

-- those of the members that may run while the pivot does, and both commit
abbrev pub beside : List Access → List Member → List Member
beside pivot members = filter (λ m. not (are_apart pivot m.accesses)) members

-- the pivot may miss by this access what c changes, conflicts lead from c to a, and a may miss what the pivot changes
pub record Closes (through : List (List Access)) (pivot : List Access) (read : Access) (c a : List Access) : Type 0 where
  pub leads : Leads through c a
  pub missed : reads_from read c ≡ true
  pub missing : may_miss a pivot read ≡ true

-- A transaction is dangerous by two others, all of the workload.
pub record IsPivot (all : List Member) (pivot missed missing : Member) : Type 0 where
  pub pivot_there : Contains all pivot
  pub missed_there : Contains all missed
  pub missing_there : Contains all missing
  pub dangerous : IsDangerous (kinds all) pivot.accesses
  pub missed_is : dangerous.missed ≡ missed.accesses
  pub missing_is : dangerous.missing ≡ missing.accesses
