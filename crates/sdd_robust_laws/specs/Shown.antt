-- The test: transactions are shown robust where none of them may be the pivot of a run that is like no serial one.
use Rattle.std.specs.Prelude.{◌≡◌, true, false, List, Contains, map}
use Rattle.sdd_lang.specs.All.{Catalogue, Database}
use Rattle.sdd_lang.specs.declared.transaction.Txn.{Txn}
use Rattle.sdd_robust_laws.specs.Accesses.{accesses, are_apart, are_of_one_row, changes_for, conflict, reads_from}
use Rattle.sdd_robust_laws.specs.declared.access.Access.{Access}

-- a transaction of these that may run while the pivot does, and both commit
pub record IsBeside (all : List (List Access)) (pivot other : List Access) : Type 0 where
  pub there : Contains all other
  pub may_both : are_apart pivot other ≡ false

-- conflicts lead from one transaction to another, through such transactions alone
pub data AreLinked (all : List (List Access)) (pivot : List Access) : List Access → List Access → Type 0 where
  itself : (c : List Access) → IsBeside all pivot c → AreLinked all pivot c c
  further : (c d a : List Access) → IsBeside all pivot c → conflict c d ≡ true → AreLinked all pivot d a → AreLinked all pivot c a

-- The pivot may read a row without the change of one transaction, whose run ends first of all, and may change a row of which
-- another, which conflicts link with that one, reads what stood there before. That can't be where both are one row: then
-- two that run at once change it.
pub record IsDangerous (all : List (List Access)) (pivot : List Access) : Type 0 where
  pub missed : List Access
  pub missing : List Access
  pub linked : AreLinked all pivot missed missing
  pub read : Access
  pub change : Access
  pub of_read : Contains pivot read
  pub of_change : Contains pivot change
  pub reads : reads_from read missed ≡ true
  pub changes : changes_for change missing ≡ true
  pub differ : are_of_one_row read change ≡ false

-- no transaction of the workload may be such a pivot
abbrev pub IsShownRobust : Catalogue → List Txn → Database → Type 0
IsShownRobust cat work first =
    let all : List (List Access) = map (accesses cat work first) work in
    (pivot : List Access) → Contains all pivot → ¬ IsDangerous all pivot
