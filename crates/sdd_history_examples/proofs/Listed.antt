-- The Submits, Commits, Answers and Applies of a history, as lists.
use Rattle.sdd_history_examples.proofs.All.{Answer, Apply, Bool, Commit, Committed, CommittedBefore, Contains, Contains-filter_map, HasCommit, History, IsRecordAt, IsSubmitted, List, None, Option, Rec, Some, StartedBefore, Submit, and_parts, arith, at_place, attempts, class_no, commit_of, committed, dm_no, eqb-true, filter_map, from_attempts, from_committed, list_any, ltb-true, member_passes, nat_lt, placed, refl, subst, time_at, true, txn_no, ℕ, ◌&&◌, ◌==◌, ◌≡◌}

-- a transaction and the place of its Submit
abbrev submit_of : ℕ × Rec → Option (ℕ × ℕ)
submit_of (k, Submit txn) = Some (txn.0, k)
submit_of _ = None

abbrev pub submits : History → List (ℕ × ℕ)
submits h = filter_map submit_of (placed 0 h)

pub in_submits : (h : History) (n k : ℕ) → IsSubmitted h n k → Contains (submits h) (n, k)
in_submits h n k s = Contains-filter_map submit_of (placed 0 h) (k, Submit (txn_no n)) (n, k) (at_place h k (Submit (txn_no n)) s) refl

-- an attempt, and the place of its Commit
pub record CommitAt : Type 0 where
  pub txn : ℕ
  pub number : ℕ
  pub place : ℕ

abbrev commit_in : ℕ × Rec → Option CommitAt
commit_in (k, Commit txn attempt reply changes values rows) = Some (record { txn = txn.0; number = attempt; place = k })
commit_in _ = None

abbrev pub commits : History → List CommitAt
commits h = filter_map commit_in (placed 0 h)

pub in_commits : (h : History) (n number k : ℕ) → HasCommit h n number k → Contains (commits h) (record { txn = n; number = number; place = k })
in_commits h n number k c =
    let r : Rec = Commit (txn_no n) number c.reply c.changes c.values c.rows in
    Contains-filter_map commit_in (placed 0 h) (k, r) (record { txn = n; number = number; place = k }) (at_place h k r c.is_recorded) refl

-- an attempt, and the module and place of its Answer
pub record AnswerAt : Type 0 where
  pub txn : ℕ
  pub number : ℕ
  pub dm : ℕ
  pub place : ℕ

abbrev answer_in : ℕ × Rec → Option AnswerAt
answer_in (k, Answer txn attempt dm) = Some (record { txn = txn.0; number = attempt; dm = dm.0; place = k })
answer_in _ = None

abbrev pub answers : History → List AnswerAt
answers h = filter_map answer_in (placed 0 h)

pub in_answers : (h : History) (n number d k : ℕ) → IsRecordAt h k (Answer (txn_no n) number (dm_no d))
    → Contains (answers h) (record { txn = n; number = number; dm = d; place = k })
in_answers h n number d k s =
    let r : Rec = Answer (txn_no n) number (dm_no d) in
    Contains-filter_map answer_in (placed 0 h) (k, r) (record { txn = n; number = number; dm = d; place = k }) (at_place h k r s) refl

-- a transaction with its class and timestamp, and the module and place of its Apply
pub record ApplyAt : Type 0 where
  pub txn : ℕ
  pub class : ℕ
  pub dm : ℕ
  pub ts : ℕ
  pub place : ℕ

abbrev apply_in : ℕ × Rec → Option ApplyAt
apply_in (k, Apply txn class dm ts) = Some (record { txn = txn.0; class = class.0; dm = dm.0; ts = ts.0; place = k })
apply_in _ = None

abbrev pub applies : History → List ApplyAt
applies h = filter_map apply_in (placed 0 h)

pub in_applies : (h : History) (n class d ts k : ℕ) → IsRecordAt h k (Apply (txn_no n) (class_no class) (dm_no d) (time_at ts))
    → Contains (applies h) (record { txn = n; class = class; dm = d; ts = ts; place = k })
in_applies h n class d ts k s =
    let r : Rec = Apply (txn_no n) (class_no class) (dm_no d) (time_at ts) in
    Contains-filter_map apply_in (placed 0 h) (k, r) (record { txn = n; class = class; dm = d; ts = ts; place = k }) (at_place h k r s) refl

-- whether an attempt starts, and a transaction is committed, before a place

abbrev pub is_started : History → ℕ → ℕ → ℕ → Bool
is_started h n number k = list_any (λ a. (a.txn == n) && ((a.number == number) && nat_lt a.place k)) (attempts h)

pub started_before : (h : History) (n number k : ℕ) → is_started h n number k ≡ true → StartedBefore h n number k
started_before h n number k e = grind (arith, member_passes, nat_lt, and_parts, from_attempts, eqb-true, ltb-true)

abbrev pub is_committed : History → ℕ → ℕ → Bool
is_committed h n k = list_any (λ t. (t.start.txn == n) && nat_lt t.place k) (committed h)

pub committed_before : (h : History) (n k : ℕ) → is_committed h n k ≡ true → CommittedBefore h n k
committed_before h n k e =
    let r = member_passes (λ (t : Committed). (t.start.txn == n) && nat_lt t.place k) (committed h) e in
    let both = and_parts (r.0.start.txn == n) (nat_lt r.0.place k) r.2 in
    let commit = commit_of h r.0 (from_committed h r.0 r.1) in
    record {
      place = r.0.place;
      number = r.0.start.number;
      commit = subst (λ m. HasCommit h m r.0.start.number r.0.place) (eqb-true r.0.start.txn n both.0) commit;
      before = ltb-true r.0.place k both.1;
    }
