-- The times of a log's begins and ends: of one class the one ends before the other begins.
use Rattle.sdd_snapshot_replay.proofs.All.{Catalogue, IsOfClass, List, Log, Txn, ap, arith, begin_of, begins, begun, cond, contains, end_of, ended, ends, eq-eqb, eqb-true, false, false≢true, inl, inr, length, ne_eqb, or_cases, or_right, refl, run_of, subst, suc, sym, true, ℕ, [], ◌<◌, ◌==◌, ◌∙◌, ◌∷◌, ◌≡◌, ◌≢◌, ◌≤◌, ◌⊎◌}
use Rattle.sdd_snapshot_replay.specs.Logs as logs
use Rattle.sdd_snapshots.specs.Runs as runs

-- the number of one that is there and of one that isn't differ
pub differ : (xs : List ℕ) (m n : ℕ) → contains xs m ≡ true → contains xs n ≡ false → n ≢ m
differ xs m n a b e = false≢true (sym b ∙ ap (contains xs) e ∙ a)

-- what a list with one more has
pub with_head : (xs : List ℕ) (n m : ℕ) → contains (n ∷ xs) m ≡ true → (n ≡ m) ⊎ (contains xs m ≡ true)
with_head xs n m e = elim (or_cases (n == m) (contains xs m) e) [ inl s ↦ inl (eqb-true n m s) | inr h ↦ inr h ]

own_time : (n : ℕ) (here : ℕ) (before : ℕ) → cond (n == n) here before ≡ here
own_time n here before = ap (λ b. cond b here before) (eq-eqb n n refl)

pub other_time : (n m here before : ℕ) → n ≢ m → cond (n == m) here before ≡ before
other_time n m here before d = ap (λ b. cond b here before) (ne_eqb n m d)

module _ (class : ℕ → ℕ) where
  abbrev Runs : Log → Type 0
  Runs = logs.HasSessions class

  -- what is known of each that has begun, and of each that has ended
  pub record Times (log : Log) : Type 0 where
    pub begun_by : (n : ℕ) → contains (begun log) n ≡ true → begin_of log n ≤ length log
    pub ended_by : (n : ℕ) → contains (ended log) n ≡ true → end_of log n ≤ length log
    pub had_begun : (n : ℕ) → contains (ended log) n ≡ true → contains (begun log) n ≡ true
    pub forward : (n : ℕ) → contains (ended log) n ≡ true → begin_of log n < end_of log n
    pub one_end : (n m : ℕ) → contains (ended log) n ≡ true → contains (ended log) m ≡ true → end_of log n ≡ end_of log m → n ≡ m
    -- of two of one class the one has ended before the other began
    pub in_turn : (n m : ℕ) → contains (begun log) n ≡ true → contains (begun log) m ≡ true → class n ≡ class m → n ≢ m
        → ((contains (ended log) n ≡ true) × (end_of log n < begin_of log m))
        ⊎ ((contains (ended log) m ≡ true) × (end_of log m < begin_of log n))

  times_begin : (n : ℕ) (log : Log) → Runs (begins n ∷ log) → Times log → Times (begins n ∷ log)
  times_begin n log r t =
      record {
        begun_by = λ m h. elim (with_head (begun log) n m h) [
          | inl e ↦ (let own = ap (λ b. cond b (suc (length log)) (begin_of log m)) (eq-eqb n m e) in omega arith)
          | inr old ↦
              let other = other_time n m (suc (length log)) (begin_of log m) (differ (begun log) m n old r.0.0) in
              let l = t.begun_by m old in omega arith
        ];
        ended_by = λ m h. let l = t.ended_by m h in omega arith;
        had_begun = λ m h. or_right (n == m) (contains (begun log) m) (t.had_begun m h);
        forward = λ m h.
            let other = other_time n m (suc (length log)) (begin_of log m) (differ (begun log) m n (t.had_begun m h) r.0.0) in
            let l = t.forward m h in omega arith;
        one_end = t.one_end;
        in_turn = λ a b x y same d.
            elim (with_head (begun log) n a x) [
              | inl e ↦
                  elim (with_head (begun log) n b y) [
                    | inl f ↦ absurd (d (sym e ∙ f))
                    | inr old ↦
                        let done = r.0.1 b (sym same ∙ ap class (sym e)) old in
                        let l = t.ended_by b done in
                        let own = ap (λ c. cond c (suc (length log)) (begin_of log a)) (eq-eqb n a e) in
                        inr (done, omega arith)
                  ]
              | inr old_a ↦
                  let other_a = other_time n a (suc (length log)) (begin_of log a) (differ (begun log) a n old_a r.0.0) in
                  elim (with_head (begun log) n b y) [
                    | inl f ↦
                        let done = r.0.1 a (same ∙ ap class (sym f)) old_a in
                        let l = t.ended_by a done in
                        let own = ap (λ c. cond c (suc (length log)) (begin_of log b)) (eq-eqb n b f) in
                        inl (done, omega arith)
                    | inr old_b ↦
                        let other_b = other_time n b (suc (length log)) (begin_of log b) (differ (begun log) b n old_b r.0.0) in
                        elim (t.in_turn a b old_a old_b same d) [
                          | inl p ↦ inl (p.0, (let l = p.1 in omega arith))
                          | inr p ↦ inr (p.0, (let l = p.1 in omega arith))
                        ]
                  ]
            ];
      }

  times_end : (n : ℕ) (log : Log) → Runs (ends n ∷ log) → Times log → Times (ends n ∷ log)
  times_end n log r t =
      record {
        begun_by = λ m h. let l = t.begun_by m h in omega arith;
        ended_by = λ m h. elim (with_head (ended log) n m h) [
          | inl e ↦ (let own = ap (λ b. cond b (suc (length log)) (end_of log m)) (eq-eqb n m e) in omega arith)
          | inr old ↦
              let other = other_time n m (suc (length log)) (end_of log m) (differ (ended log) m n old r.0.1) in
              let l = t.ended_by m old in omega arith
        ];
        had_begun = λ m h. elim (with_head (ended log) n m h) [
          | inl e ↦ subst (λ z. contains (begun log) z ≡ true) e r.0.0
          | inr old ↦ t.had_begun m old
        ];
        forward = λ m h. elim (with_head (ended log) n m h) [
          | inl e ↦
              let own = ap (λ b. cond b (suc (length log)) (end_of log m)) (eq-eqb n m e) in
              let l = t.begun_by m (subst (λ z. contains (begun log) z ≡ true) e r.0.0) in omega arith
          | inr old ↦
              let other = other_time n m (suc (length log)) (end_of log m) (differ (ended log) m n old r.0.1) in
              let l = t.forward m old in omega arith
        ];
        one_end = λ a b x y same.
            elim (with_head (ended log) n a x) [
              | inl e ↦
                  elim (with_head (ended log) n b y) [
                    | inl f ↦ sym e ∙ f
                    | inr old ↦
                        let own = ap (λ c. cond c (suc (length log)) (end_of log a)) (eq-eqb n a e) in
                        let other = other_time n b (suc (length log)) (end_of log b) (differ (ended log) b n old r.0.1) in
                        let l = t.ended_by b old in absurd (omega arith)
                  ]
              | inr old_a ↦
                  let other_a = other_time n a (suc (length log)) (end_of log a) (differ (ended log) a n old_a r.0.1) in
                  let la = t.ended_by a old_a in
                  elim (with_head (ended log) n b y) [
                    | inl f ↦ (let own = ap (λ c. cond c (suc (length log)) (end_of log b)) (eq-eqb n b f) in absurd (omega arith))
                    | inr old_b ↦
                        let other_b = other_time n b (suc (length log)) (end_of log b) (differ (ended log) b n old_b r.0.1) in
                        t.one_end a b old_a old_b (sym other_a ∙ same ∙ other_b)
                  ]
            ];
        in_turn = λ a b x y same d.
            elim (t.in_turn a b x y same d) [
              | inl p ↦
                  let other = other_time n a (suc (length log)) (end_of log a) (differ (ended log) a n p.0 r.0.1) in
                  inl (or_right (n == a) (contains (ended log) a) p.0, (let l = p.1 in omega arith))
              | inr p ↦
                  let other = other_time n b (suc (length log)) (end_of log b) (differ (ended log) b n p.0 r.0.1) in
                  inr (or_right (n == b) (contains (ended log) b) p.0, (let l = p.1 in omega arith))
            ];
      }

  pub times : (log : Log) → Runs log → Times log
  times [] r =
      record {
        begun_by = λ n h. absurd (false≢true h);
        ended_by = λ n h. absurd (false≢true h);
        had_begun = λ n h. absurd (false≢true h);
        forward = λ n h. absurd (false≢true h);
        one_end = λ n m h k e. absurd (false≢true h);
        in_turn = λ n m h k same d. absurd (false≢true h);
      }
  times (begins n ∷ log) r = times_begin n log r (times log r.1)
  times (ends n ∷ log) r = times_end n log r (times log r.1)

  -- so the run has its sessions
  pub has_sessions : (cat : Catalogue) (txns : ℕ → Txn) → ((n : ℕ) → IsOfClass cat (txns n) (class n)) → (log : Log) → Runs log
      → runs.HasSessions (run_of cat txns class log)
  has_sessions cat txns of log r =
      let t = times log r in
      record {
        of_class = λ n h. (of n).class_is.from;
        forward = t.forward;
        one_end = t.one_end;
        in_turn = λ n m h k same d. elim (t.in_turn n m (t.had_begun n h) (t.had_begun m k) same d) [ inl p ↦ inl p.1 | inr p ↦ inr p.1 ];
      }
