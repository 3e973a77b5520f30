-- All rejected attempts of a class are at most the committed transactions of other classes: each but the last is followed by
-- another attempt of the class, and so has a writer with a timestamp between theirs; and so has the last, by its Reject.
use Rattle.sdd_bounds.proofs.All.{AreFewRejectedOfClasses, Bool, Catalogue, Committed, Eras, HasCommit, History, IsAttempt, IsCommitted, IsRecordAt, IsRejectAt, KeepsRejections, KeepsRejects, KeepsStarts, List, None, Option, Reject, Rec, Some, Start, StartedBefore, Txn, [], and_parts, any_at, ap, arith, cases_Bool, cases_lt, catalogue_at, class_no, committed_elsewhere, cond, dm_no, eq-eqb, eqb-true, event_at, false, false≢true, filter, inl, inr, is_reject_of, is_rejected, is_rejected_of_class, length, low_of_condition, low_time, one_attempt, one_start, option_map, other_class, refl, rejected_of_class, same_Some, same_start, slice_get, subst, suc, sym, take, take_all, time_at, true, txn_no, zero, ℕ, ◌&&◌, ◌+◌, ◌<◌, ◌==◌, ◌∙◌, ◌∷◌, ◌≡◌, ◌≢◌, ◌≤◌, ◌⊎◌}
use Rattle.sdd_progress.specs.obligations.links.Attempts.{Attempt}
use Rattle.sdd_bounds.proofs.ClassWriters.{AreWriters, few_writers, writers_up}
use Rattle.sdd_bounds.proofs.OneAfterOther.{IsWriterOver, between, low_rises}

-- one, where a test passes
abbrev one_if_so : Bool → ℕ
one_if_so true = 1
one_if_so false = 0

-- how many records before a place pass
abbrev passing_before : (Rec → Bool) → History → ℕ → ℕ
passing_before test h k = length (filter (λ e. test e.1) (take k h))

one_more_passes : (test : Rec → Bool) (h : History) (k : ℕ) (r : Rec) → IsRecordAt h k r → passing_before test h (suc k) ≡ passing_before test h k + one_if_so (test r)
one_more_passes test [] k r s = absurd (cc)
one_more_passes test (e ∷ h) zero r s =
    let is : e.1 ≡ r = same_Some e.1 r s in
    subst (λ x. length (cond (test e.1) (e ∷ []) []) ≡ 0 + one_if_so (test x)) is
    (elim (test e.1) as (λ b. length (cond b (e ∷ []) []) ≡ 0 + one_if_so b) [ true ↦ refl | false ↦ refl ])
one_more_passes test (e ∷ h) (suc k) r s =
    let i = one_more_passes test h k r s in
    elim (test e.1) as
    (λ b. length (cond b (e ∷ filter (λ d. test d.1) (take (suc k) h)) (filter (λ d. test d.1) (take (suc k) h)))
    ≡ length (cond b (e ∷ filter (λ d. test d.1) (take k h)) (filter (λ d. test d.1) (take k h))) + one_if_so (test r)) [ true ↦ omega arith | false ↦ i ]

-- the record at a place, where there is one
record_or : (h : History) (k : ℕ) → ((e : ℕ × Rec) × (slice_get h k ≡ Some e)) ⊎ (length h ≤ k)
record_or [] k = inr (omega arith)
record_or (e ∷ h) zero = inl (e, refl)
record_or (e ∷ h) (suc k) = elim (record_or h k) [ inl r ↦ inl r | inr l ↦ inr (omega arith) ]

-- a Start of the class, or another record

of_start : History → ℕ → ℕ → Rec → Type 0
of_start h c k r = (a : Attempt) × IsAttempt h a × (a.class ≡ c) × (a.place ≡ k) × (is_rejected_of_class h c r ≡ is_rejected h a.txn a.number)

of_other : History → ℕ → ℕ → Rec → Type 0
of_other h c k r = (is_rejected_of_class h c r ≡ false) × ((d : Attempt) → IsAttempt h d → d.class ≡ c → d.place ≢ k)

other_class_start : (h : History) (c k : ℕ) (r : Rec) → IsRecordAt h k r → is_rejected_of_class h c r ≡ false
    → ((d : Attempt) → r ≡ Start (txn_no d.txn) d.number (class_no d.class) (time_at d.ts) d.p2 d.uses → d.class ≡ c → ⊥) → of_other h c k r
unfolding of_other
other_class_start h c k r s none f = (none, λ d sd class e. f d (same_Some r _ (sym s ∙ subst (λ j. IsRecordAt h j (Start (txn_no d.txn) d.number (class_no d.class) (time_at d.ts) d.p2 d.uses)) e sd)) class)

start_or_other : (h : History) (c k : ℕ) (r : Rec) → IsRecordAt h k r → of_start h c k r ⊎ of_other h c k r
unfolding of_start
start_or_other h c k (Start txn attempt class ts p2 uses) s =
    elim (cases_Bool (class.0 == c)) [
      | inl e ↦ inl (record { txn = txn.0; number = attempt; class = class.0; ts = ts.0; p2 = p2; uses = uses; place = k }, s, eqb-true class.0 c e, refl, ap (λ b. b && is_rejected h txn.0 attempt) e)
      | inr e ↦ inr (other_class_start h c k (Start txn attempt class ts p2 uses) s (ap (λ b. b && is_rejected h txn.0 attempt) e)
          (λ d is of_class. let same : class.0 ≡ d.class = cc in false≢true (sym e ∙ ap (λ n. n == c) (same ∙ of_class) ∙ eq-eqb c c refl)))
    ]
start_or_other h c k r s = inr (other_class_start h c k r s (grind arith) (λ d is of_class. cc))

-- a Reject of an attempt

reject_is : (h : History) (n number k : ℕ) (r : Rec) → IsRecordAt h k r → is_reject_of n number r ≡ true → IsRejectAt h n number
reject_is h n number k (Reject txn attempt dm class ts) s t =
    let both = and_parts (txn.0 == n) (attempt == number) t in
    let named : Reject txn attempt dm class ts ≡ Reject (txn_no n) number dm class ts =
    (λ i. Reject (txn_no (eqb-true txn.0 n both.0 i)) (eqb-true attempt number both.1 i) dm class ts) in
    record { place = k; dm = dm.0; class = class.0; write = ts.0; is_recorded = subst (IsRecordAt h k) named s }
reject_is h n number k _ s t = absurd (cc)

pub reject_at : (h : History) (n number : ℕ) → is_rejected h n number ≡ true → IsRejectAt h n number
reject_at h n number e =
    let i = any_at (λ (x : ℕ × Rec). is_reject_of n number x.1) h e in
    reject_is h n number i.0 i.1.1 (ap (option_map (λ (x : ℕ × Rec). x.1)) i.2) i.3

-- What is known of the attempts of class c that start before a place: there is none, or a last one.

record IsLast (h : History) (c k : ℕ) : Type 0 where
  last : Attempt
  started : IsAttempt h last
  class_is : last.class ≡ c
  before : last.place < k
  latest : (d : Attempt) → IsAttempt h d → d.class ≡ c → d.place < k → d.place ≤ last.place
  -- as many writers as rejected attempts but the last
  writers : List Committed
  are : AreWriters h c (low_time last) writers
  count : passing_before (is_rejected_of_class h c) h k ≤ length writers + one_if_so (is_rejected h last.txn last.number)

record HasNone (h : History) (c k : ℕ) : Type 0 where
  count : passing_before (is_rejected_of_class h c) h k ≡ 0
  none : (d : Attempt) → IsAttempt h d → d.class ≡ c → d.place < k → ⊥

UpTo : History → ℕ → ℕ → Type 0
UpTo h c k = HasNone h c k ⊎ IsLast h c k

-- a place further, with another record
one_other : (h : History) (c k : ℕ) (r : Rec) → IsRecordAt h k r → of_other h c k r → UpTo h c k → UpTo h c (suc k)
unfolding of_other UpTo
one_other h c k r s o u =
    let counts = one_more_passes (is_rejected_of_class h c) h k r s in
    let none : one_if_so (is_rejected_of_class h c r) ≡ 0 = ap one_if_so o.0 in
    elim u [
      | inl n ↦ inl (record { count = omega (arith, n.count); none = λ d sd e l. n.none d sd e (omega (arith, o.1 d sd e)) })
      | inr x ↦ inr (record {
        last = x.last;
        started = x.started;
        class_is = x.class_is;
        before = omega (arith, x.before);
        latest = λ d sd e l. x.latest d sd e (omega (arith, o.1 d sd e));
        writers = x.writers;
        are = x.are;
        count = omega (arith, x.count);
      })
    ]

module _ (cat : Catalogue) (eras : Eras) (txns : List Txn) (h : History) (starting : KeepsStarts cat eras txns h) (rejecting : KeepsRejections cat eras h)
    (rejects : KeepsRejects cat eras h) (commit_after : (n number k : ℕ) → HasCommit h n number k → StartedBefore h n number k)
    (never : (t : Committed) → IsCommitted h t → is_rejected h t.start.txn t.start.number ≡ true → ⊥)
  where
    -- with a Start of the class
    first_start : (c k : ℕ) (r : Rec) → IsRecordAt h k r → (a : Attempt) → IsAttempt h a → a.class ≡ c → a.place ≡ k
        → is_rejected_of_class h c r ≡ is_rejected h a.txn a.number → HasNone h c k → IsLast h c (suc k)
    first_start c k r s a sa class place is n = record {
      last = a;
      started = sa;
      class_is = class;
      before = omega arith;
      latest = λ d sd e l. omega arith;
      writers = [];
      are = tt;
      count = omega (arith, one_more_passes (is_rejected_of_class h c) h k r s, ap one_if_so is, n.count);
    }

    next_start : (c k : ℕ) (r : Rec) → IsRecordAt h k r → (a : Attempt) → IsAttempt h a → a.class ≡ c → a.place ≡ k
        → is_rejected_of_class h c r ≡ is_rejected h a.txn a.number → IsLast h c k → IsLast h c (suc k)
    next_start c k r s a sa class place is x =
        let counts = one_more_passes (is_rejected_of_class h c) h k r s in
        let now = ap one_if_so is in
        let old = x.count in
        let before : x.last.place < a.place = omega (arith, x.before) in
        elim (cases_Bool (is_rejected h x.last.txn x.last.number)) [
          | inl rejected ↦
              let w = between cat eras txns h starting rejecting commit_after never c x.last a x.started sa x.class_is class before
              (λ d sd e l. x.latest d sd e (omega arith)) rejected in
              let one : one_if_so (is_rejected h x.last.txn x.last.number) ≡ 1 = ap one_if_so rejected in
              record {
                last = a;
                started = sa;
                class_is = class;
                before = omega arith;
                latest = λ d sd e l. omega arith;
                writers = w.0 ∷ x.writers;
                are = (w.1.committed, w.1.elsewhere, w.2, writers_up h c (low_time x.last) w.0.start.ts x.writers w.1.least x.are);
                count = omega arith;
              }
          | inr not_rejected ↦
              let none : one_if_so (is_rejected h x.last.txn x.last.number) ≡ 0 = ap one_if_so not_rejected in
              record {
                last = a;
                started = sa;
                class_is = class;
                before = omega arith;
                latest = λ d sd e l. omega arith;
                writers = x.writers;
                are = writers_up h c (low_time x.last) (low_time a) x.writers (low_rises cat eras txns h starting x.last a x.started sa (x.class_is ∙ sym class) before) x.are;
                count = omega arith;
              }
        ]

    with_start : (c k : ℕ) (r : Rec) → IsRecordAt h k r → of_start h c k r → UpTo h c k → UpTo h c (suc k)
    unfolding of_start UpTo
    with_start c k r s o u = elim u [ inl n ↦ inr (first_start c k r s o.0 o.1 o.2 o.3 o.4 n) | inr x ↦ inr (next_start c k r s o.0 o.1 o.2 o.3 o.4 x) ]

    up_to : (c k : ℕ) → k ≤ length h → UpTo h c k
    unfolding UpTo
    up_to c zero l = inl (record { count = refl; none = λ d sd e m. omega arith })
    up_to c (suc k) l =
        let before = up_to c k (omega arith) in
        elim (record_or h k) [
          | inl e ↦
              let s : IsRecordAt h k e.0.1 = ap (option_map (λ (x : ℕ × Rec). x.1)) e.1 in
              elim (start_or_other h c k e.0.1 s) [ inl o ↦ with_start c k e.0.1 s o before | inr o ↦ one_other h c k e.0.1 s o before ]
          | inr past ↦ absurd (omega arith)
        ]

    one_place : (a b : Attempt) → IsAttempt h a → IsAttempt h b → a.txn ≡ b.txn → a.number ≡ b.number → a.place ≡ b.place
    one_place a b sa sb e f = one_start h starting.numbered a b sa sb e f

    -- the writer by which the last one is rejected
    last_writer : (c : ℕ) (b : Attempt) → IsAttempt h b → b.class ≡ c → is_rejected h b.txn b.number ≡ true → (t : Committed) × IsWriterOver h c (low_time b) t
    last_writer c b sb class rejected =
        let at = reject_at h b.txn b.number rejected in
        let r = rejects b.txn b.number at.dm at.class at.write at.place at.is_recorded in
        let same : r.attempt ≡ b = same_start_of r.attempt b r.started sb r.txn_is r.number_is in
        let least = low_of_condition cat eras txns h starting r.attempt at.dm r.cond r.started r.condition in
        let late = r.late in
        let time = r.writer_time in
        let low : low_time r.attempt ≤ r.writer.start.ts = omega arith in
        let other : r.writer.start.class ≢ c = λ is. other_class (catalogue_at cat eras (event_at h r.attempt.place)) cat r.condition.table r.attempt at.dm r.cond
        r.condition.table_is r.condition.there (r.class_is ∙ sym r.writer_class ∙ is ∙ sym class ∙ ap (λ (x : Attempt). x.class) (sym same)) in
        (r.writer, record { committed = r.committed; elsewhere = other; least = subst (λ (x : Attempt). low_time x ≤ r.writer.start.ts) same low })
      where
        same_start_of : (a d : Attempt) → IsAttempt h a → IsAttempt h d → a.txn ≡ d.txn → a.number ≡ d.number → a ≡ d
        same_start_of a d sa sd e f = one_attempt a d (same_start h a d sa sd (one_place a d sa sd e f))

    pub few_of_class : (c : ℕ) → rejected_of_class h c ≤ committed_elsewhere h c
    unfolding UpTo
    few_of_class c =
        let whole : passing_before (is_rejected_of_class h c) h (length h) ≡ rejected_of_class h c = ap (λ l. length (filter (λ e. is_rejected_of_class h c e.1) l)) (take_all (length h) h (omega arith)) in
        elim (up_to c (length h) (omega arith)) [
          | inl n ↦ omega (arith, n.count)
          | inr x ↦ elim (cases_Bool (is_rejected h x.last.txn x.last.number)) [
            | inl rejected ↦
                let one : one_if_so (is_rejected h x.last.txn x.last.number) ≡ 1 = ap one_if_so rejected in
                let w = last_writer c x.last x.started x.class_is rejected in
                omega (
                  arith,
                  x.count,
                  few_writers h one_place c (suc w.0.start.ts) (w.0 ∷ x.writers)
                      (w.1.committed, w.1.elsewhere, omega arith, writers_up h c (low_time x.last) w.0.start.ts x.writers w.1.least x.are),
                )
            | inr not_rejected ↦
                let none : one_if_so (is_rejected h x.last.txn x.last.number) ≡ 0 = ap one_if_so not_rejected in
                omega (arith, x.count, few_writers h one_place c (low_time x.last) x.writers x.are)
          ]
        ]
