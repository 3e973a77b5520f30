-- A transaction's rejected attempts are at most the Commits of other transactions: those before the last have a writer
-- each, since another attempt started after them; and so has the last, by its Reject.
use Rattle.sdd_progress.proofs.All.{AreFewRejected, Catalogue, Eras, History, IsAttempt, IsRecordAt, KeepsRejections, KeepsRejects, KeepsStarts, List, Rec, Reject, Start, Txn, and_parts, any_at, ap, arith, cases_Bool, class_no, commits_of_others, dm_no, eqb-true, inl, inr, is_reject_of, is_rejected, is_rejected_start, is_start_of, option_map, refl, rejected_of, starts_before, starts_of, subst, suc, time_at, true, txn_no, zero, ℕ, ◌&&◌, ◌==◌, ◌∙◌, ◌≡◌, ◌≤◌}
use Rattle.sdd_progress.proofs.Last.{fewer, last_passing, less}
use Rattle.sdd_progress.proofs.Writers.{WritersBelow, low_of_condition, low_time, one_more, writers, writers_count}
use Rattle.sdd_obligations.specs.links.Attempts.{Attempt}

-- a Start at a place is that of an attempt
pub record IsStartAt (h : History) (n k : ℕ) (r : Rec) : Type 0 where
  pub attempt : Attempt
  pub started : IsAttempt h attempt
  pub txn_is : attempt.txn ≡ n
  pub place_is : attempt.place ≡ k
  pub rejected_is : is_rejected_start h n r ≡ is_rejected h n attempt.number

start_at : (h : History) (n k : ℕ) (r : Rec) → IsRecordAt h k r → is_start_of n r ≡ true → IsStartAt h n k r
start_at h n k (Start txn attempt class ts p2 uses) s t =
    record {
      attempt = record { txn = txn.0; number = attempt; class = class.0; ts = ts.0; p2 = p2; uses = uses; place = k };
      started = s;
      txn_is = eqb-true txn.0 n t;
      place_is = refl;
      rejected_is = ap (λ b. b && is_rejected h n attempt) t;
    }
start_at h n k _ s t = absurd (cc)

within : (h : History) (n : ℕ) (r : Rec) → is_rejected_start h n r ≡ true → is_start_of n r ≡ true
within h n (Start txn attempt class ts p2 uses) t = (and_parts (txn.0 == n) (is_rejected h n attempt) t).0
within h n _ t = absurd (cc)

-- a Reject of an attempt
pub record IsRejectAt (h : History) (n number : ℕ) : Type 0 where
  pub place : ℕ
  pub dm : ℕ
  pub class : ℕ
  pub write : ℕ
  pub is_recorded : IsRecordAt h place (Reject (txn_no n) number (dm_no dm) (class_no class) (time_at write))

reject_is : (h : History) (n number k : ℕ) (r : Rec) → IsRecordAt h k r → is_reject_of n number r ≡ true → IsRejectAt h n number
reject_is h n number k (Reject txn attempt dm class ts) s t =
    let both = and_parts (txn.0 == n) (attempt == number) t in
    let named : Reject txn attempt dm class ts ≡ Reject (txn_no n) number dm class ts =
    (λ i. Reject (txn_no (eqb-true txn.0 n both.0 i)) (eqb-true attempt number both.1 i) dm class ts) in
    record { place = k; dm = dm.0; class = class.0; write = ts.0; is_recorded = subst (IsRecordAt h k) named s }
reject_is h n number k _ s t = absurd (cc)

reject_at : (h : History) (n number : ℕ) → is_rejected h n number ≡ true → IsRejectAt h n number
reject_at h n number e =
    let i = any_at (λ (x : ℕ × Rec). is_reject_of n number x.1) h e in
    reject_is h n number i.0 i.1.1 (ap (option_map (λ (x : ℕ × Rec). x.1)) i.2) i.3

module _ (cat : Catalogue) (eras : Eras) (txns : List Txn) (h : History)
    (starting : KeepsStarts cat eras txns h) (rejecting : KeepsRejections cat eras h) (rejects : KeepsRejects cat eras h)
  where
    -- as many writers as attempts up to one that is rejected
    up_to_rejected : (n number count : ℕ) → number ≡ suc count → IsRejectAt h n number → suc count ≤ commits_of_others h n
    up_to_rejected n number count e at =
        let r = rejects n number at.dm at.class at.write at.place at.is_recorded in
        let least = low_of_condition cat eras txns h starting r.attempt at.dm r.cond r.started r.condition in
        let time = r.writer_time in
        let before : WritersBelow h n (low_time r.attempt) count =
        subst (λ z. WritersBelow h z (low_time r.attempt) count) r.txn_is
        (writers cat eras txns h starting rejecting count r.attempt r.started (r.number_is ∙ e)) in
        let all = one_more cat eras txns h starting n (low_time r.attempt) count r.writer r.committed r.other (omega (arith, r.late)) before in
        writers_count h n (suc r.writer.start.ts) (suc count) all

    few_of : (n m : ℕ) → starts_of h n ≡ suc m → rejected_of h n ≤ commits_of_others h n
    few_of n m e =
        let l = last_passing (is_start_of n) h m e in
        let s = start_at h n l.place l.rec l.is_recorded l.passes in
        let a = s.attempt in
        let number : a.number ≡ suc m =
        starting.numbered a s.started ∙ ap suc (ap (λ z. starts_before h z a.place) s.txn_is ∙ ap (λ z. starts_before h n z) s.place_is ∙ l.before) in
        let few = fewer (is_rejected_start h n) (is_start_of n) (within h n) h in
        elim (cases_Bool (is_rejected h n a.number)) [
          | inl rejected ↦ let all = up_to_rejected n a.number m number (reject_at h n a.number rejected) in omega arith
          | inr not_rejected ↦
              let all = writers_count h a.txn (low_time a) m (writers cat eras txns h starting rejecting m a s.started number) in
              let same : commits_of_others h a.txn ≡ commits_of_others h n = ap (commits_of_others h) s.txn_is in
              omega (arith, less (is_rejected_start h n) (is_start_of n) (within h n) h l.place l.rec l.is_recorded l.passes (s.rejected_is ∙ not_rejected))
        ]

    pub are_few_rejected : AreFewRejected h
    are_few_rejected n =
        elim (starts_of h n) as (λ m. starts_of h n ≡ m → rejected_of h n ≤ commits_of_others h n) [
          | zero ↦ λ e. omega (arith, fewer (is_rejected_start h n) (is_start_of n) (within h n) h)
          | suc m ↦ λ e. few_of n m e
        ] refl
