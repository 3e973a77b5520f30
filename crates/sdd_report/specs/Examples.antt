-- Worked examples.
use Rattle.std.specs.Prelude.{ℕ, ◌≡◌, [], ◌∷◌, List, codes, pos, Some, None, refl}
use Rattle.std.specs.Fmt.{digits}
use Rattle.sdd_lang.specs.All.{Catalogue, D, Int, Value, class_no, dm_no, frag_no, rel_no, time_at, tm_no, txn_no}
use Rattle.sdd_lang.specs.base.declared.reply.Reply.TheVariants as replies
use Rattle.sdd_lang.specs.base.declared.value.Value.TheVariants.{Text}
use Rattle.sdd_history.specs.declared.record.Rec.{Rec}
use Rattle.sdd_history.specs.declared.record.Rec.TheVariants.{Submit, Start, Arrive, Wait, Answer, Reject, Commit, Apply, Pass, Nothing}
use Rattle.sdd_lang.specs.declared.transaction.Txn.{Txn}
use Rattle.sdd_report.specs.Pending.{pending_line, under_way}
use Rattle.sdd_report.specs.Replies.{row_line}
use Rattle.sdd_report.specs.Report.{Report, report_text}
use Rattle.sdd_report.specs.Trace.{trace}
use Rattle.sdd_report.specs.declared.pending.Waiting.{Waiting}
use Rattle.sdd_report.specs.declared.pending.Why.TheVariants.{Queued, Waits, Underway}

-- one class at one module
abbrev pub accounts : Catalogue
accounts =
    record {
      tms = 1;
      dms = 1;
      relations = [];
      fragments = record { name = codes "all"; rel = rel_no 1; least = pos 0; greatest = pos 9; copies = dm_no 1 ∷ [] } ∷ [];
      classes = record { name = codes "own"; tm = tm_no 1; reads = []; writes = frag_no 1 ∷ [] } ∷ [];
    }

abbrev pub named : List ℕ → Txn
named name = record { name = name; tm = tm_no 1; statements = [] }

-- p puts a row
abbrev pub row : List Value
row = Int (pos 5) ∷ Int (pos 10) ∷ []

-- and q asks for the rows
abbrev pub history : List (ℕ × Rec)
history =
    (1, Submit (txn_no 1))
    ∷ (1, Start (txn_no 1) 1 (class_no 1) (time_at 65) (Some (time_at 63)) [])
    ∷ (1, Commit (txn_no 1) 1 (replies.Rows []) [] 0 0)
    ∷ (2, Submit (txn_no 2))
    ∷ (2, Start (txn_no 2) 1 (class_no 1) (time_at 129) (Some (time_at 127)) [])
    ∷ (3, Apply (txn_no 1) (class_no 1) (dm_no 1) (time_at 65))
    ∷ (4, Arrive (txn_no 2) 1 (dm_no 1))
    ∷ (4, Answer (txn_no 2) 1 (dm_no 1))
    ∷ (11, Commit (txn_no 2) 1 (replies.Rows ((row ∷ []) ∷ [])) [] 0 1)
    ∷ []

abbrev pub put_and_query : Report
put_and_query =
    record {
      catalogue = accounts;
      txns = named (codes "p") ∷ named (codes "q") ∷ [];
      history = history;
      order = txn_no 1 ∷ txn_no 2 ∷ [];
      pending = [];
      copies = record { dm = dm_no 1; frag = frag_no 1; rows = row ∷ [] } ∷ [];
    }

pub put_and_query_text
    : report_text put_and_query
    ≡ codes "1 submit p\n1 start p#1 own 65 63\n1 commit p#1\n2 submit q\n2 start q#1 own 129 127\n3 apply p D1\n4 arrive q#1 D1\n4 answer q#1 D1\n11 commit q#1\norder p q\nreply p ok\nreply q ok\nquery 1 1\nrow 5 10\nshipped p 0 0\nshipped q 0 1\ncopy D1 all 1\nrow 5 10\nend\n"
unfolding digits
put_and_query_text = refl

-- the records that stand in no history of one class
abbrev pub others : List (ℕ × Rec)
others =
    (6, Start (txn_no 1) 1 (class_no 0) (time_at 128) None [])
    ∷ (7, Wait (txn_no 1) 1 (dm_no 1) (record { class = class_no 1; time = time_at 128; frags = [] } ∷ record { class = class_no 0; time = time_at 9; frags = [] } ∷ []))
    ∷ (8, Reject (txn_no 1) 2 (dm_no 2) (class_no 1) (time_at 66))
    ∷ (9, Pass (class_no 1) (dm_no 1) (time_at 191))
    ∷ (10, Nothing)
    ∷ []

pub others_text
    : trace accounts (named (codes "u") ∷ []) others
    ≡ codes "6 start u#1 - 128 -\n7 wait u#1 D1 own 128 - 9\n8 reject u#2 D2 own 66\n9 pass own D1 191\n10 nothing\n"
unfolding digits
others_text = refl

-- of the modules at which a READ waits, the lowest is printed
abbrev pub at_module : ℕ → ℕ → Waiting
at_module d time = record { dm = dm_no d; class = class_no 1; time = time_at time }

pub lowest_is_printed : under_way (D (dm_no 1)) (at_module 3 7 ∷ at_module 2 128 ∷ at_module 4 9 ∷ []) ≡ Waits (at_module 2 128)
lowest_is_printed = refl

pub waiting_text
    : pending_line accounts (named (codes "u") ∷ []) (record { txn = txn_no 1; why = Waits (at_module 2 128) }) ≡ codes "pending u waits D2 own 128\n"
unfolding digits
waiting_text = refl

pub underway_text
    : pending_line accounts (named (codes "u") ∷ []) (record { txn = txn_no 1; why = Underway (D (dm_no 1)) }) ≡ codes "pending u underway D1\n"
unfolding digits
underway_text = refl

pub queued_text
    : pending_line accounts (named (codes "u") ∷ []) (record { txn = txn_no 1; why = Queued (class_no 1) 2 }) ≡ codes "pending u queued own 2\n"
unfolding digits
queued_text = refl

-- a text is printed with its quotes escaped
pub quoted_example : row_line (Text (codes "a\"b") ∷ Int (pos 7) ∷ []) ≡ codes "row \"a\\\"b\" 7\n"
unfolding digits
quoted_example = refl
