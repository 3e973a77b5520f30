-- Two attempts of a class that start one after the other, where the first is rejected: the second is of the same transaction,
-- and its time is above the writer's by which the first was rejected.
use Rattle.sdd_bounds.proofs.All.{Catalogue, Change, Commit, Committed, Eras, HasCommit, History, IsAgain, IsAttempt, IsCommitted, IsConditionOf, IsRecordAt, IsSubmitted, KeepsRejections, KeepsStarts, List, None, Option, Reply, Some, StartedBefore, Ts, Txn, ap, arith, catalogue_at, cases_Bool, cases_lt, class_for, eq-eqb, eqb-true, event_at, false≢true, inl, inr, is_rejected, low_of_condition, low_time, one_attempt, one_class, one_start, option_map, other_class, p2_time, refl, same_Some, same_start, start_counts, starts_before, subst, suc, sym, true, txn_no, unwrap_or, ℕ, ◌<◌, ◌==◌, ◌∙◌, ◌≡◌, ◌≢◌, ◌≤◌, ◌⊎◌}
use Rattle.sdd_progress.specs.obligations.links.Attempts.{Attempt}

-- one record at a place submits one transaction, and commits one attempt

same_submit : (h : History) (n m k : ℕ) → IsSubmitted h n k → IsSubmitted h m k → n ≡ m
same_submit h n m k s t = grind (arith, same_Some)

abbrev HasRecord : History → ℕ → ℕ → ℕ → Reply → List Change → ℕ → ℕ → Type 0
HasRecord h place n number reply changes values rows = IsRecordAt h place (Commit (txn_no n) number reply changes values rows)

-- the writer by which an attempt of class c is rejected
pub record IsWriterOver (h : History) (c low : ℕ) (t : Committed) : Type 0 where
  pub committed : IsCommitted h t
  pub elsewhere : t.start.class ≢ c
  pub least : low ≤ t.start.ts

-- the lower one of an attempt's two times rises through a class

above_low : (o : Option Ts) (ts high : ℕ) → ts ≤ high → unwrap_or (option_map (λ (t : Ts). t.0) o) 0 ≤ high → unwrap_or (option_map (λ (t : Ts). t.0) o) ts ≤ high
above_low None ts high l m = l
above_low (Some p2) ts high l m = m

low_is : (o : Option Ts) (ts least : ℕ) → (o ≡ None → least ≤ ts) → ((p2 : Ts) → o ≡ Some p2 → least ≤ p2.0) → least ≤ unwrap_or (option_map (λ (t : Ts). t.0) o) ts
low_is None ts least f g = f refl
low_is (Some p2) ts least f g = g p2 refl

at_most_ts : (o : Option Ts) (ts : ℕ) → ((p2 : Ts) → o ≡ Some p2 → p2.0 < ts) → unwrap_or (option_map (λ (t : Ts). t.0) o) ts ≤ ts
at_most_ts None ts f = omega arith
at_most_ts (Some p2) ts f = omega (arith, f p2 refl)

module _ (cat : Catalogue) (eras : Eras) (txns : List Txn) (h : History) (starting : KeepsStarts cat eras txns h) where
  pub low_rises : (b a : Attempt) → IsAttempt h b → IsAttempt h a → b.class ≡ a.class → b.place < a.place → low_time b ≤ low_time a
  low_rises b a sb sa e l =
      low_is a.p2 a.ts (low_time b)
      (λ none. let below = at_most_ts b.p2 b.ts (λ p2 is. (starting.bound b p2 sb is).below) in let rise = starting.rise b a sb sa e l in omega arith)
      (λ p2 is. let over = (starting.bound a p2 sa is).above b sb e l in above_low b.p2 b.ts p2.0 over.0 over.1)

  -- attempts of one transaction are numbered as they start
  number_rises : (b a : Attempt) → IsAttempt h b → IsAttempt h a → b.txn ≡ a.txn → b.place < a.place → b.number < a.number
  number_rises b a sb sa e l =
      let counts : starts_before h b.txn b.place < starts_before h a.txn a.place = subst (λ n. starts_before h b.txn b.place < starts_before h n a.place) e (start_counts h b a.place sb l) in
      omega (arith, starting.numbered b sb, starting.numbered a sa)

  same_place : (b a : Attempt) → IsAttempt h b → IsAttempt h a → b.place ≡ a.place → b ≡ a
  same_place b a sb sa e = one_attempt b a (same_start h b a sb sa e)

  module _ (rejecting : KeepsRejections cat eras h)
      (commit_after : (n number k : ℕ) → HasCommit h n number k → StartedBefore h n number k)
      (never : (t : Committed) → IsCommitted h t → is_rejected h t.start.txn t.start.number ≡ true → ⊥)
      (c : ℕ) (b a : Attempt) (sb : IsAttempt h b) (sa : IsAttempt h a) (class_b : b.class ≡ c) (class_a : a.class ≡ c) (before : b.place < a.place)
      (latest : (d : Attempt) → IsAttempt h d → d.class ≡ c → d.place < a.place → d.place ≤ b.place)
    where
      -- of the same transaction
      again_over : a.txn ≡ b.txn → (t : Committed) × IsWriterOver h c (low_time b) t × (t.start.ts < low_time a)
      again_over e =
          let rises = number_rises b a sb sa (sym e) before in
          let first = starting.numbered b sb in
          let g : IsAgain cat eras h a = rejecting.again a sa (omega arith) in
          let class : g.earlier.class ≡ c = one_class cat eras txns h starting g.earlier a g.started sa g.txn_is ∙ class_a in
          let number = g.number_is in
          let not_later : g.earlier.place < a.place = elim (cases_lt g.earlier.place a.place) [
            | inl l ↦ l
            | inr l ↦ absurd (elim (cases_lt a.place g.earlier.place) [
              | inl m ↦ let r = number_rises a g.earlier sa g.started (sym g.txn_is) m in omega arith
              | inr m ↦ let p : g.earlier.place ≡ a.place = omega arith in
                  let r : g.earlier.number ≡ a.number = ap (λ (x : Attempt). x.number) (same_place g.earlier a g.started sa p) in omega arith
            ])
          ] in
          let near = latest g.earlier g.started class not_later in
          let place : g.earlier.place ≡ b.place = elim (cases_lt g.earlier.place b.place) [
            | inl l ↦ absurd (let r = number_rises g.earlier b g.started sb (g.txn_is ∙ e) l in omega arith)
            | inr l ↦ omega arith
          ] in
          let same : g.earlier ≡ b = same_place g.earlier b g.started sb place in
          let least = low_of_condition cat eras txns h starting g.earlier g.dm g.cond g.started g.condition in
          let late = g.late in
          let time = g.writer_time in
          let low : low_time g.earlier ≤ g.writer.start.ts = omega arith in
          let other : g.writer.start.class ≢ c = λ is. other_class (catalogue_at cat eras (event_at h g.earlier.place)) cat g.condition.table g.earlier g.dm g.cond
          g.condition.table_is g.condition.there (g.class_is ∙ sym g.writer_class ∙ is ∙ sym class) in (
            g.writer,
            record { committed = g.committed; elsewhere = other; least = subst (λ (x : Attempt). low_time x ≤ g.writer.start.ts) same low },
            low_is a.p2 a.ts (suc g.writer.start.ts) (λ none. let below = g.below in omega arith) (λ p2 is. let below = g.below_bound p2 is in omega arith),
          )

      -- of another, which starts only once the one before is committed: by the first attempt then
      not_other : a.txn ≢ b.txn → is_rejected h b.txn b.number ≡ true → ⊥
      not_other differ rejected =
          let ja = starting.submitted a sa in
          let jb = starting.submitted b sb in
          let turn = starting.in_turn b a jb.place ja.place sb sa (class_b ∙ sym class_a) before jb.submitted ja.submitted in
          let apart : jb.place ≢ ja.place = λ e. differ (same_submit h a.txn b.txn ja.place ja.submitted (subst (IsSubmitted h b.txn) e jb.submitted)) in
          let done = starting.after_earlier a b.txn jb.place ja.place jb.txn sa ja.submitted jb.submitted (omega (arith, apart)) jb.txn_is
          (sym jb.class_is ∙ class_b ∙ sym class_a) in
          let s = commit_after b.txn done.number done.place done.commit in
          let d = s.attempt in
          let t : Committed = record { start = d; reply = done.commit.reply; changes = done.commit.changes; values = done.commit.values; rows = done.commit.rows; place = done.place } in
          let ct : IsCommitted h t = record {
            started = s.started;
            committed = subst (λ n. HasRecord h done.place n d.number done.commit.reply done.commit.changes done.commit.values done.commit.rows) (sym s.txn_is)
                (subst (λ n. HasRecord h done.place b.txn n done.commit.reply done.commit.changes done.commit.values done.commit.rows) (sym s.number_is) done.commit.is_recorded);
          } in
          let class : d.class ≡ c = one_class cat eras txns h starting d b s.started sb s.txn_is ∙ class_b in
          let first = s.before in
          let then = done.before in
          let near = latest d s.started class (omega arith) in
          let last = starting.by_last t b ct sb (sym s.txn_is) in
          let place : d.place ≡ b.place = elim (cases_lt d.place b.place) [
            | inl l ↦ absurd (let r = number_rises d b s.started sb s.txn_is l in omega arith)
            | inr l ↦ omega arith
          ] in
          let same : d ≡ b = same_place d b s.started sb place in
          never t ct (subst (λ (x : Attempt). is_rejected h x.txn x.number ≡ true) (sym same) rejected)

      pub between : is_rejected h b.txn b.number ≡ true → (t : Committed) × IsWriterOver h c (low_time b) t × (t.start.ts < low_time a)
      between rejected = elim (cases_Bool (a.txn == b.txn)) [
        | inl same ↦ again_over (eqb-true a.txn b.txn same)
        | inr differ ↦ absurd (not_other (λ e. false≢true (sym differ ∙ eq-eqb a.txn b.txn e)) rejected)
      ]
