-- Worked examples: p puts a row, and q, of the same class, asks for all rows.
use Rattle.std.specs.Prelude.{ℕ, ◌≡◌, [], ◌∷◌, ◌++◌, List, codes, pos, refl}
use Rattle.std.specs.Fmt.{digits}
use Rattle.sdd_script.specs.All.{ClassPart, Int, Put, Query, Redeclare, Ref, Settle, Submit, Txn, accounts, rel_no, tm_no, txn_no}
use Rattle.sdd_script.specs.declared.workload.Workload.{Workload}
use Rattle.sdd_script.specs.words.Lines.{cut_lines}
use Rattle.sdd_verify.specs.Classes.{classes_submitted}
use Rattle.sdd_verify.specs.Verdict.{verdict}
use Rattle.sdd_verify.specs.declared.verdict.Verdict.{Verdict}
use Rattle.sdd_verify.specs.declared.verdict.Verdict.TheVariants.{Yes, No}

abbrev column_ref : ℕ → Ref
column_ref column = record { part = 1; column = column }

abbrev p : Txn
p = record { name = codes "p"; tm = tm_no 1; statements = Put (rel_no 1) (Int (pos 5) ∷ Int (pos 10) ∷ []) ∷ [] }

abbrev q : Txn
q = record { name = codes "q"; tm = tm_no 1; statements = Query (column_ref 1 ∷ column_ref 2 ∷ []) (rel_no 1 ∷ []) [] ∷ [] }

-- a third one that isn't submitted
abbrev r : Txn
r = record { name = codes "r"; tm = tm_no 1; statements = [] }

abbrev put_and_query : Workload
put_and_query = record { rows = []; txns = p ∷ q ∷ r ∷ []; lists = []; events = Submit (txn_no 1) ∷ Submit (txn_no 2) ∷ Settle ∷ [] }

-- the verdict on a report of one record, with these lines from the order line on
abbrev verdict_on : List ℕ → Verdict
verdict_on lines = verdict accounts put_and_query (codes "1 submit p\n" ++ lines)

pub right : verdict_on (codes "order p q\nreply p ok\nreply q ok\nquery 1 1\nrow 5 10\nshipped p 0 0\nend\n") ≡ Yes
unfolding cut_lines digits
right = refl

-- nothing is asked of what the report doesn't name
pub no_name : verdict_on (codes "order\nend\n") ≡ Yes
unfolding cut_lines digits
no_name = refl

pub empty : verdict accounts put_and_query [] ≡ No 1
unfolding cut_lines digits
empty = refl

pub no_order : verdict_on (codes "ordered p q\n") ≡ No 3
unfolding cut_lines digits
no_order = refl

-- what stands after the last newline is no line
pub no_line : verdict_on (codes "order") ≡ No 2
unfolding cut_lines digits
no_line = refl

pub exchanged : verdict_on (codes "order q p\nreply q ok\nquery 1 0\nreply p ok\nend\n") ≡ No 2
unfolding cut_lines digits
exchanged = refl

pub named_twice : verdict_on (codes "order p p\nreply p ok\nreply p ok\nend\n") ≡ No 2
unfolding cut_lines digits
named_twice = refl

pub not_submitted : verdict_on (codes "order p r\nreply p ok\nreply r ok\nend\n") ≡ No 2
unfolding cut_lines digits
not_submitted = refl

pub two_spaces : verdict_on (codes "order p  q\n") ≡ No 2
unfolding cut_lines digits
two_spaces = refl

pub another_row : verdict_on (codes "order p q\nreply p ok\nreply q ok\nquery 1 1\nrow 5 11\nend\n") ≡ No 6
unfolding cut_lines digits
another_row = refl

pub no_row : verdict_on (codes "order p q\nreply p ok\nreply q ok\nquery 1 1\n") ≡ No 6
unfolding cut_lines digits
no_row = refl

pub further_row : verdict_on (codes "order p q\nreply p ok\nreply q ok\nquery 1 1\nrow 5 10\nrow 5 10\nend\n") ≡ No 7
unfolding cut_lines digits
further_row = refl

pub no_end : verdict_on (codes "order p q\nreply p ok\nreply q ok\nquery 1 1\nrow 5 10\n") ≡ No 7
unfolding cut_lines digits
no_end = refl

-- a further class list, whose one class reads and writes all

abbrev further : ClassPart
further =
    record {
      name = codes "m";
      tm = 1;
      reads = record { fragment = codes "all"; at = 1 } ∷ [];
      writes = codes "all" ∷ [];
    }

-- p is submitted before the list is put in force, and q after it
abbrev with_list : Workload
with_list =
    record put_and_query {
      lists = (further ∷ []) ∷ [];
      events = Submit (txn_no 1) ∷ Redeclare ∷ Submit (txn_no 2) ∷ Settle ∷ [];
    }

-- so q has the list's class: that of p has retired
pub by_the_list_in_force : classes_submitted accounts with_list ≡ 1 ∷ 2 ∷ []
by_the_list_in_force = refl

-- and of two classes the one that is submitted later may stand first
pub exchanged_apart : verdict accounts with_list (codes "order q p\nreply q ok\nquery 1 0\nreply p ok\nend\n") ≡ Yes
unfolding cut_lines digits
exchanged_apart = refl
