-- Worked examples: p puts a row, and q, of another class, asks for all rows.
use Rattle.std.specs.Prelude.{ℕ, ◌≡◌, [], ◌∷◌, ◌++◌, List, codes, pos, refl}
use Rattle.std.specs.Fmt.{digits}
use Rattle.sdd_words.specs.Lines.{cut_lines}
use Rattle.sdd_script.specs.All.{Int, Put, Query, Ref, Settle, Submit, Txn, accounts, rel_no, tm_no, txn_no}
use Rattle.sdd_script.specs.declared.workload.Workload.{Workload}
use Rattle.sdd_certify.specs.Certificate.{certificate}
use Rattle.sdd_certify.specs.Complete.{complete}
use Rattle.sdd_certify.specs.Strict.{strict}
use Rattle.sdd_certify.specs.declared.finding.Finding.TheVariants.{At, NoOrder, Yes}

-- a transaction that was over before the other began
abbrev one_after_the_other : List ℕ
one_after_the_other = codes "1 submit p\n2 commit p#1\n3 submit q\n4 commit q#1\n"

pub in_time : strict (one_after_the_other ++ codes "order p q\n") ≡ Yes
unfolding cut_lines
in_time = refl

-- it stands too late, as line 3 shows
pub too_late : strict (one_after_the_other ++ codes "order q p\n") ≡ At 3 (codes "p")
unfolding cut_lines
too_late = refl

-- of two at a time either may stand first
pub at_a_time : strict (codes "1 submit p\n1 submit q\n2 commit p#1\n2 commit q#1\norder q p\n") ≡ Yes
unfolding cut_lines
at_a_time = refl

pub both_named : complete (one_after_the_other ++ codes "order q p\n") ≡ Yes
unfolding cut_lines
both_named = refl

pub q_missing : complete (one_after_the_other ++ codes "order p\n") ≡ At 4 (codes "q")
unfolding cut_lines
q_missing = refl

-- without an order line nothing is complete, nor strict
pub no_order : complete one_after_the_other ≡ NoOrder 5
unfolding cut_lines
no_order = refl

-- ---- whole certificates

abbrev column_ref : ℕ → Ref
column_ref column = record { part = 1; column = column }

abbrev p : Txn
p = record { name = codes "p"; tm = tm_no 1; statements = Put (rel_no 1) (Int (pos 5) ∷ Int (pos 10) ∷ []) ∷ [] }

abbrev q : Txn
q = record { name = codes "q"; tm = tm_no 1; statements = Query (column_ref 1 ∷ column_ref 2 ∷ []) (rel_no 1 ∷ []) [] ∷ [] }

abbrev put_and_query : Workload
put_and_query = record { rows = []; txns = p ∷ q ∷ []; lists = []; events = Submit (txn_no 1) ∷ Submit (txn_no 2) ∷ Settle ∷ [] }

abbrev certified : List ℕ → List ℕ
certified report = certificate accounts put_and_query report

pub all_three : certified (codes "1 commit p#1\norder p q\nreply p ok\nreply q ok\nquery 1 1\nrow 5 10\nend\n")
    ≡ codes "serializable yes\ncomplete yes\nstrict yes\n"
unfolding cut_lines digits
all_three = refl

pub another_row : certified (codes "order p q\nreply p ok\nreply q ok\nquery 1 1\nrow 5 11\nend\n")
    ≡ codes "serializable no 5\nexpected row 5 10\ncomplete yes\nstrict yes\n"
unfolding cut_lines digits
another_row = refl

pub further_row : certified (codes "order p q\nreply p ok\nreply q ok\nquery 1 1\nrow 5 10\nrow 5 10\nend\n")
    ≡ codes "serializable no 6\nexpected no reply\ncomplete yes\nstrict yes\n"
unfolding cut_lines digits
further_row = refl

pub q_left_out : certified (codes "1 commit q#1\norder p\nreply p ok\nend\n")
    ≡ codes "serializable yes\ncomplete no 1\nmissing q\nstrict yes\n"
unfolding cut_lines digits
q_left_out = refl

pub exchanged : certified (codes "1 submit p\n1 commit p#1\n2 submit q\norder q p\nend\n")
    ≡ codes "serializable no 4\ncomplete yes\nstrict no 3\nlate p\n"
unfolding cut_lines digits
exchanged = refl
