-- Conflicts that lead from one transaction to another, through some.
use Rattle.std.specs.Prelude.{◌≡◌, true, List, Contains}
use Rattle.sdd_robust_laws.specs.Accesses.{conflict}
use Rattle.sdd_robust_laws.specs.declared.access.Access.{Access}

pub data Leads (through : List (List Access)) : List Access → List Access → Type 0 where
  itself : (c : List Access) → Contains through c → Leads through c c
  further : (c d a : List Access) → Contains through c → conflict c d ≡ true → Leads through d a → Leads through c a
