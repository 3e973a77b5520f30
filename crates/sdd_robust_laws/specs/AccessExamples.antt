-- Worked accesses over the relation item (id, val), where the rows 1 and 2 are there at first.
use Rattle.std.specs.Prelude.{ℕ, ℤ, ◌≡◌, pos, negsuc, Bool, true, false, List, [], ◌∷◌, refl}
use Rattle.sdd_lang.specs.All.{Eq, Ge, Int, Le, rel_no, key_column}
use Rattle.sdd_lang.specs.declared.condition.Condition.TheVariants.{Const, Same}
use Rattle.sdd_lang.specs.declared.assign.Assign.TheVariants.{Add}
use Rattle.sdd_lang.specs.declared.statement.Stmt.{Stmt}
use Rattle.sdd_lang.specs.declared.statement.Stmt.TheVariants.{Delete, Query, Update}
use Rattle.sdd_lang.specs.declared.transaction.Txn.{Txn}
use Rattle.sdd_laws.specs.links.Examples.{crossing}
use Rattle.sdd_robust_laws.specs.Accesses.{accesses, are_apart, are_of_one_row, changes_for, conflict, reads_from, stays}
use Rattle.sdd_robust_laws.specs.RunExamples.{adds, asks, key_is, puts, skew, text, two_rows}
use Rattle.sdd_robust_laws.specs.declared.access.Access.{Access}

abbrev pub least_of_all : ℤ
least_of_all = negsuc 9223372036854775807

abbrev pub greatest_of_all : ℤ
greatest_of_all = pos 9223372036854775807

abbrev rows : ℤ → ℤ → ℕ → Bool → Bool → Bool → Access
rows least greatest column reads changes sure =
    record { rel = rel_no 1; least = least; greatest = greatest; column = column; reads = reads; changes = changes; sure = sure }

abbrev pub reads_of : ℤ → ℤ → ℕ → Access
reads_of least greatest column = rows least greatest column true false false

abbrev pub changes_of : ℤ → ℤ → ℕ → Bool → Access
changes_of least greatest column sure = rows least greatest column false true sure

abbrev deletes : ℕ → Stmt
deletes n = Delete (rel_no 1) (key_is Ge n)

-- alone in its workload
abbrev pub own : Txn → List Access
own txn = accesses crossing (txn ∷ []) two_rows txn

-- a query reads the columns that it names, of the keys that its conditions allow; a put changes its whole row for sure
pub of_query_and_put : own (text (asks Le 9 ∷ puts 11 5 ∷ []))
    ≡ reads_of least_of_all (pos 9) 1 ∷ reads_of least_of_all (pos 9) 2 ∷ changes_of (pos 11) (pos 11) 0 true ∷ []
of_query_and_put = refl

-- an update of one row by its key reads whether it is there, and changes its columns for sure, where it is there at first
pub of_update : own (text (adds 1 5 ∷ adds 7 5 ∷ []))
    ≡ reads_of (pos 1) (pos 1) 1 ∷ changes_of (pos 1) (pos 1) 2 true ∷ reads_of (pos 7) (pos 7) 1 ∷ changes_of (pos 7) (pos 7) 2 false ∷ []
of_update = refl

-- and where no transaction of the workload may delete it
pub of_rows_that_go : own (text (adds 1 5 ∷ adds 2 5 ∷ deletes 2 ∷ []))
    ≡ reads_of (pos 1) (pos 1) 1 ∷ changes_of (pos 1) (pos 1) 2 true ∷ reads_of (pos 2) (pos 2) 1 ∷ changes_of (pos 2) (pos 2) 2 false
    ∷ reads_of (pos 2) greatest_of_all 1 ∷ changes_of (pos 2) greatest_of_all 0 false ∷ []
of_rows_that_go = refl

-- not where there is another condition
pub of_two_conditions : own (text (Update (rel_no 1) (Add 2 (pos 5) ∷ []) (Const (record { part = 1; column = 2 }) Eq (Int (pos 0)) ∷ key_is Eq 1) ∷ []))
    ≡ reads_of (pos 1) (pos 1) 1 ∷ reads_of (pos 1) (pos 1) 2 ∷ changes_of (pos 1) (pos 1) 2 false ∷ []
of_two_conditions = refl

-- each part of a query reads
pub of_parts : own (text (Query (record { part = 2; column = 2 } ∷ []) (rel_no 1 ∷ rel_no 1 ∷ []) (Same (record { part = 1; column = 1 }) (record { part = 2; column = 1 }) ∷ key_is Le 3) ∷ []))
    ≡ reads_of least_of_all (pos 3) 1 ∷ reads_of least_of_all greatest_of_all 1 ∷ reads_of least_of_all greatest_of_all 2 ∷ []
of_parts = refl

-- conditions that no key meets leave no access
pub of_no_key : own (text (Delete (rel_no 1) (Const (record { part = 1; column = 1 }) Ge (Int (pos 5)) ∷ key_is Le 4) ∷ [])) ≡ []
of_no_key = refl

-- two runs of an increment are apart; the two transactions of write skew aren't, and each reads what the other changes
pub increments_apart : are_apart (own (text (adds 1 5 ∷ []))) (own (text (adds 1 5 ∷ []))) ≡ true
increments_apart = refl

abbrev both : List Txn
both = skew 1 ∷ skew 2 ∷ []

abbrev pub of_skew : ℕ → List Access
of_skew n = accesses crossing both two_rows (skew n)

pub skew_not_apart : are_apart (of_skew 1) (of_skew 2) ≡ false
skew_not_apart = refl

pub skew_reads : reads_from (reads_of (pos 1) (pos 1) 2) (of_skew 2) ≡ true
skew_reads = refl

pub skew_changes : changes_for (changes_of (pos 2) (pos 2) 2 true) (of_skew 2) ≡ true
skew_changes = refl

pub skew_conflict : conflict (of_skew 1) (of_skew 2) ≡ true
skew_conflict = refl

-- whether a row is there isn't changed by an update
pub not_by_update : reads_from (reads_of (pos 1) (pos 1) 1) (of_skew 2) ≡ false
not_by_update = refl
