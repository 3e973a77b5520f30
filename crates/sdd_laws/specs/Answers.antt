-- The law of Answers and Commits (H2).
use Rattle.std.specs.Prelude.{ℕ, ◌≡◌, List, Some}
use Rattle.sdd_lang.specs.All.{Catalogue, RelNo, Row, dm_no, effect, txn_no}
use Rattle.sdd_history.specs.declared.record.Rec.TheVariants.{Answer}
use Rattle.sdd_history.specs.Records.{History}
use Rattle.sdd_lang.specs.declared.transaction.Txn.{Txn}
use Rattle.sdd_links.specs.Attempts.{Committed, IsCommitted, HasCommit}
use Rattle.sdd_links.specs.Places.{IsRecordAt}
use Rattle.sdd_laws.specs.Deeds.{txn_at, Asks, AnsweredBefore, StartedBefore}
use Rattle.sdd_laws.specs.Snapshots.{base_of}

-- every module begins with these rows
pub record KeepsAnswers (cat : Catalogue) (rows : List (RelNo × Row)) (txns : List Txn) (h : History) : Type 0 where
  -- an attempt is answered at most once at each module, after its Start
  pub one_answer : (n number d j k : ℕ) → IsRecordAt h j (Answer (txn_no n) number (dm_no d)) → IsRecordAt h k (Answer (txn_no n) number (dm_no d)) → j ≡ k
  pub answer_after : (n number d k : ℕ) → IsRecordAt h k (Answer (txn_no n) number (dm_no d)) → StartedBefore h n number k
  -- a Commit stands after the Start of its attempt, and after its Answer at each module that is asked
  pub commit_after : (n number k : ℕ) → HasCommit h n number k → StartedBefore h n number k
  pub answered : (t : Committed) (d : ℕ) → IsCommitted h t → Asks cat t.start d → AnsweredBefore h t.start d t.place
  -- its reply and changes are those of the transaction on the database of its snapshots
  pub effect_is : (t : Committed) (txn : Txn) → IsCommitted h t → txn_at txns t.start.txn ≡ Some txn
      → effect cat (base_of cat rows h t.start) txn ≡ record { reply = t.reply; changes = t.changes }
