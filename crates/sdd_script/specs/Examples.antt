-- Worked examples: files at one module of each kind, with the relation acct (id, bal) of whole numbers, of which id is the key.
use Rattle.std.specs.Prelude.{◌≡◌, ℕ, pos, negsuc, [], ◌∷◌, codes, Ok, Err, Result, refl}
use Rattle.std.specs.Fmt.{digits}
use Rattle.std.specs.Str.{is_utf8, chars}
use Rattle.sdd_lang.specs.All.{Catalogue, D, Down, Int, Redeclare, T, Up, all_keys, dm_no, frag_no, rel_no, tm_no}
use Rattle.sdd_lang.specs.catalog.declared.parts.Kind.TheVariants as kinds
use Rattle.sdd_words.specs.Lines.{cut_lines}
use Rattle.sdd_words.specs.Number.{number_of}
use Rattle.sdd_words.specs.Scan.{scan}
use Rattle.sdd_words.specs.Forms.{comparisons, settings}
use Rattle.sdd_script.specs.LineRules.{line_rules}
use Rattle.sdd_script.specs.Statements.{query_over, update_of_parts}
use Rattle.sdd_script.specs.Spelling.{spelling}
use Rattle.sdd_script.specs.Values.{row_of}
use Rattle.sdd_script.specs.Walk.{walk, workload}
use Rattle.sdd_script.specs.declared.fault.WorkFault.{WorkFault}
use Rattle.sdd_script.specs.declared.fault.WorkRule.{WorkRule}
use Rattle.sdd_script.specs.declared.fault.WorkRule.TheVariants.{NoEnd, NotUtf8, BadLine, BadNumber, WrongKind, DuplicateTxn, KeyChanged, UnknownName, BadEvent, SubmittedTwice, BadClass, TooMany}
use Rattle.sdd_script.specs.declared.fault.Counts.TheVariants as counts
use Rattle.sdd_script.specs.declared.workload.Workload.{Workload}

abbrev pub accounts : Catalogue
accounts =
    record {
      tms = 1;
      dms = 1;
      relations = record {
        name = codes "acct";
        columns = record { name = codes "id"; kind = kinds.Int } ∷ record { name = codes "bal"; kind = kinds.Int } ∷ [];
        key = 1;
      } ∷ [];
      fragments = record { name = codes "all"; rel = rel_no 1; least = all_keys.0; greatest = all_keys.1; copies = dm_no 1 ∷ [] } ∷ [];
      classes = record { name = codes "own"; tm = tm_no 1; reads = record { fragment = frag_no 1; at = dm_no 1 } ∷ []; writes = frag_no 1 ∷ [] } ∷ [];
    }

abbrev pub at : ℕ → WorkRule → Result Workload WorkFault
at line rule = Err (record { line = line; rule = rule })

-- an empty file
pub nothing : workload accounts ([]) ≡ at 1 NoEnd
unfolding walk cut_lines is_utf8 scan line_rules row_of query_over update_of_parts comparisons settings number_of digits chars lib.Utf8.encode
nothing = refl

-- the line `end` isn't ended
pub no_newline : workload accounts (codes "end") ≡ at 1 NoEnd
unfolding walk cut_lines is_utf8 scan line_rules row_of query_over update_of_parts comparisons settings number_of digits chars lib.Utf8.encode
no_newline = refl

-- a byte that is no UTF-8
pub other_byte : workload accounts (255 ∷ []) ≡ at 1 NotUtf8
unfolding walk cut_lines is_utf8 scan line_rules row_of query_over update_of_parts comparisons settings number_of digits chars lib.Utf8.encode
other_byte = refl

-- a byte after the line `end`
pub behind_end : workload accounts (codes "end\nx") ≡ at 2 BadLine
unfolding walk cut_lines is_utf8 scan line_rules row_of query_over update_of_parts comparisons settings number_of digits chars lib.Utf8.encode
behind_end = refl

-- two spaces
pub two_spaces : workload accounts (codes "row  acct 1 1\n") ≡ at 1 BadLine
unfolding walk cut_lines is_utf8 scan line_rules row_of query_over update_of_parts comparisons settings number_of digits chars lib.Utf8.encode
two_spaces = refl

-- a number has one spelling
pub minus_zero : workload accounts (codes "row acct 1 -0\n") ≡ at 1 BadNumber
unfolding walk cut_lines is_utf8 scan line_rules row_of query_over update_of_parts comparisons settings number_of digits chars lib.Utf8.encode
minus_zero = refl

-- a value is missing
pub too_few : workload accounts (codes "row acct 1\n") ≡ at 1 WrongKind
unfolding walk cut_lines is_utf8 scan line_rules row_of query_over update_of_parts comparisons settings number_of digits chars lib.Utf8.encode
too_few = refl

-- a row after a transaction
pub late_row : workload accounts (codes "txn a T1\ndone\nrow acct 1 1\n") ≡ at 3 BadLine
unfolding walk cut_lines is_utf8 scan line_rules row_of query_over update_of_parts comparisons settings number_of digits chars lib.Utf8.encode
late_row = refl

-- two transactions of one name
pub same_name : workload accounts (codes "txn a T1\ndone\ntxn a T1\n") ≡ at 3 DuplicateTxn
unfolding walk cut_lines is_utf8 scan line_rules row_of query_over update_of_parts comparisons settings number_of digits chars lib.Utf8.encode
same_name = refl

-- the key is assigned
pub key_changed : workload accounts (codes "txn a T1\nupdate acct set 1.id = 2\n") ≡ at 2 KeyChanged
unfolding walk cut_lines is_utf8 scan line_rules row_of query_over update_of_parts comparisons settings number_of digits chars lib.Utf8.encode
key_changed = refl

-- a leading zero
pub zeros : workload accounts (codes "txn a T1\nput acct 007 1\n") ≡ at 2 BadNumber
unfolding walk cut_lines is_utf8 scan line_rules row_of query_over update_of_parts comparisons settings number_of digits chars lib.Utf8.encode
zeros = refl

-- there is one use
pub no_such_use : workload accounts (codes "txn a T1\nquery 2.id from acct\n") ≡ at 2 UnknownName
unfolding walk cut_lines is_utf8 scan line_rules row_of query_over update_of_parts comparisons settings number_of digits chars lib.Utf8.encode
no_such_use = refl

-- the words are judged from left to right
pub number_first : workload accounts (codes "txn a T1\nquery 01.id 2.id from acct\n") ≡ at 2 BadNumber
unfolding walk cut_lines is_utf8 scan line_rules row_of query_over update_of_parts comparisons settings number_of digits chars lib.Utf8.encode
number_first = refl

-- modules of one kind have no link
pub no_link : workload accounts (codes "txn a T1\nput acct 1 1\ndone\ndeliver T1 T1 1\n") ≡ at 4 BadEvent
unfolding walk cut_lines is_utf8 scan line_rules row_of query_over update_of_parts comparisons settings number_of digits chars lib.Utf8.encode
no_link = refl

-- a transaction is submitted once
pub submitted_twice : workload accounts (codes "txn a T1\nput acct 1 1\ndone\nsubmit a\nsubmit a\n") ≡ at 5 SubmittedTwice
unfolding walk cut_lines is_utf8 scan line_rules row_of query_over update_of_parts comparisons settings number_of digits chars lib.Utf8.encode
submitted_twice = refl

-- of two modules of data the second has no copies
abbrev pub two_modules : Catalogue
two_modules = record accounts { dms = 2 }

-- no list is left
pub redeclare_without_list : workload accounts (codes "redeclare\n") ≡ at 1 BadEvent
unfolding walk cut_lines is_utf8 scan line_rules row_of query_over update_of_parts comparisons settings number_of digits chars lib.Utf8.encode
redeclare_without_list = refl

-- the one list is in force
pub redeclared_twice : workload accounts (codes "list\ndone\nredeclare\nredeclare\n") ≡ at 4 BadEvent
unfolding walk cut_lines is_utf8 scan line_rules row_of query_over update_of_parts comparisons settings number_of digits chars lib.Utf8.encode
redeclared_twice = refl

-- a module is down
pub redeclare_while_down : workload accounts (codes "list\ndone\ndown D1\nredeclare\n") ≡ at 4 BadEvent
unfolding walk cut_lines is_utf8 scan line_rules row_of query_over update_of_parts comparisons settings number_of digits chars lib.Utf8.encode
redeclare_while_down = refl

-- a class of the catalogue has the name
pub class_of_the_catalogue : workload accounts (codes "list\nclass own T1\n") ≡ at 2 BadClass
unfolding walk cut_lines is_utf8 scan line_rules row_of query_over update_of_parts comparisons settings number_of digits chars lib.Utf8.encode
class_of_the_catalogue = refl

-- a class of an earlier list has the name
pub class_of_a_list : workload accounts (codes "list\nclass m T1\ndone\nlist\nclass m T1\n") ≡ at 5 BadClass
unfolding walk cut_lines is_utf8 scan line_rules row_of query_over update_of_parts comparisons settings number_of digits chars lib.Utf8.encode
class_of_a_list = refl

-- a fragment that is read before
pub read_twice : workload accounts (codes "list\nclass m T1\nreads all D1\nreads all D1\n") ≡ at 4 BadClass
unfolding walk cut_lines is_utf8 scan line_rules row_of query_over update_of_parts comparisons settings number_of digits chars lib.Utf8.encode
read_twice = refl

-- no copy is at the second module
pub read_where_no_copy : workload two_modules (codes "list\nclass m T1\nreads all D2\n") ≡ at 3 BadClass
unfolding walk cut_lines is_utf8 scan line_rules row_of query_over update_of_parts comparisons settings number_of digits chars lib.Utf8.encode
read_where_no_copy = refl

-- a fragment that is written before
pub written_twice : workload accounts (codes "list\nclass m T1\nwrites all\nwrites all\n") ≡ at 4 BadClass
unfolding walk cut_lines is_utf8 scan line_rules row_of query_over update_of_parts comparisons settings number_of digits chars lib.Utf8.encode
written_twice = refl

-- no such fragment
pub no_such_fragment : workload accounts (codes "list\nclass m T1\nwrites some\n") ≡ at 3 UnknownName
unfolding walk cut_lines is_utf8 scan line_rules row_of query_over update_of_parts comparisons settings number_of digits chars lib.Utf8.encode
no_such_fragment = refl

-- a read after a write
pub late_read : workload accounts (codes "list\nclass m T1\nwrites all\nreads all D1\n") ≡ at 4 BadLine
unfolding walk cut_lines is_utf8 scan line_rules row_of query_over update_of_parts comparisons settings number_of digits chars lib.Utf8.encode
late_read = refl

-- after a list no transaction begins
pub late_txn : workload accounts (codes "list\ndone\ntxn a T1\n") ≡ at 3 BadLine
unfolding walk cut_lines is_utf8 scan line_rules row_of query_over update_of_parts comparisons settings number_of digits chars lib.Utf8.encode
late_txn = refl

-- after an event no list begins
pub late_list : workload accounts (codes "settle\nlist\n") ≡ at 2 BadLine
unfolding walk cut_lines is_utf8 scan line_rules row_of query_over update_of_parts comparisons settings number_of digits chars lib.Utf8.encode
late_list = refl

-- a file that ends inside a list
pub open_list : workload accounts (codes "list\nclass m T1\n") ≡ at 3 NoEnd
unfolding walk cut_lines is_utf8 scan line_rules row_of query_over update_of_parts comparisons settings number_of digits chars lib.Utf8.encode
open_list = refl

-- a ninth list
pub nine_lists : workload accounts
    (codes "list\ndone\nlist\ndone\nlist\ndone\nlist\ndone\nlist\ndone\nlist\ndone\nlist\ndone\nlist\ndone\nlist\n") ≡ at 17 (TooMany counts.List)
unfolding walk cut_lines is_utf8 scan line_rules row_of query_over update_of_parts comparisons settings number_of digits chars lib.Utf8.encode
nine_lists = refl

-- a list of two classes, which an event puts in force
abbrev pub two_classes : Workload
two_classes = record {
  rows = [];
  txns = [];
  lists = (
      record { name = codes "m"; tm = 1; reads = record { fragment = codes "all"; at = 1 } ∷ []; writes = codes "all" ∷ [] } ∷
      record { name = codes "n"; tm = 1; reads = []; writes = [] } ∷ []
      ) ∷ [];
  events = Down (T (tm_no 1)) ∷ Down (D (dm_no 1)) ∷ Up (D (dm_no 1)) ∷ Up (T (tm_no 1)) ∷ Redeclare ∷ [];
}

pub one_list : workload accounts (codes "list\nclass m T1\nreads all D1\nwrites all\nclass n T1\ndone\ndown T1\ndown D1\nup D1\nup T1\nredeclare\nend\n") ≡ Ok two_classes
unfolding walk cut_lines is_utf8 scan line_rules row_of query_over update_of_parts comparisons settings number_of digits chars lib.Utf8.encode
one_list = refl

-- and its spelling
pub one_list_again : spelling accounts two_classes ≡ codes "list\nclass m T1\nreads all D1\nwrites all\nclass n T1\ndone\ndown T1\ndown D1\nup D1\nup T1\nredeclare\nend\n"
unfolding digits
one_list_again = refl

-- a row and nothing else
pub one_row : workload accounts (codes "row acct 1 -2\nend\n") ≡ Ok
    (record {
      rows = (rel_no 1, Int (pos 1) ∷ Int (negsuc 1) ∷ []) ∷ [];
      txns = [];
      lists = [];
      events =
          [];
    })
unfolding walk cut_lines is_utf8 scan line_rules row_of query_over update_of_parts comparisons settings number_of digits chars lib.Utf8.encode
one_row = refl

-- and its spelling
pub one_row_again : spelling accounts
    (record {
      rows = (rel_no 1, Int (pos 1) ∷ Int (negsuc 1) ∷ []) ∷ [];
      txns = [];
      lists = [];
      events =
          [];
    }) ≡ codes "row acct 1 -2\nend\n"
unfolding digits
one_row_again = refl
