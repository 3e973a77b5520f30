-- The first committer wins: of two that ended and changed one item, the one had ended when the other began.
use Rattle.sdd_robust_laws.proofs.All.{Catalogue, Change, Contains, Contains-cases, Contains-here, Contains-later, Contains-nil, Effect, FirstWins, HasSessions, List, Log, Txn, ap, arith, begin_of, begins, begun, change_one_item, cond, contains, differ, end_of, ended, ended_since, ends, eq-eqb, false, false≢true, inl, inr, is_eq, item_cmp, item_cmp_total, item_of, length, list_any, member_is, ne_eqb, other_time, passes_member, refl, subst, suc, sym, tied_itself, times, true, with_head, ℕ, [], ◌<◌, ◌==◌, ◌∙◌, ◌∷◌, ◌≡◌, ◌≢◌, ◌≤◌, ◌⊎◌}

abbrev Sessions : Log → Type 0
Sessions = HasSessions (λ n. n)

-- one that ended did so since another began, or had ended then
since_or_before : (log : Log) → Sessions log → (m n : ℕ) → Contains (ended log) m → contains (begun log) n ≡ true
    → Contains (ended_since log n) m ⊎ (end_of log m < begin_of log n)
since_or_before [] r m n h b = absurd (Contains-nil m h)
since_or_before (begins k ∷ log) r m n h b =
    elim (with_head (begun log) k n b) [
      | inl e ↦
          let own = ap (λ c. cond c (suc (length log)) (begin_of log n)) (eq-eqb k n e) in
          let l = (times (λ z. z) log r.1).ended_by m (member_is (ended log) m h) in
          inr (omega arith)
      | inr old ↦
          let apart = differ (begun log) n k old r.0.0 in
          let other = other_time k n (suc (length log)) (begin_of log n) apart in
          elim (since_or_before log r.1 m n h old) [
            | inl s ↦ inl (subst (λ c. Contains (cond c [] (ended_since log n)) m) (sym (ne_eqb k n apart)) s)
            | inr l ↦ inr (omega arith)
          ]
    ]
since_or_before (ends k ∷ log) r m n h b =
    elim (Contains-cases k (ended log) m h) [
      | inl e ↦ inl (subst (λ z. Contains (k ∷ ended_since log n) z) (sym e) (Contains-here k (ended_since log n)))
      | inr old ↦
          let other = other_time k m (suc (length log)) (end_of log m) (differ (ended log) m k (member_is (ended log) m old) r.0.1) in
          elim (since_or_before log r.1 m n old b) [ inl s ↦ inl (Contains-later k (ended_since log n) m s) | inr l ↦ inr (omega arith) ]
    ]

module _ (cat : Catalogue) (effects : ℕ → Effect) where
  -- both change one item
  pub record ShareItem (m n : ℕ) : Type 0 where
    pub of_first : Change
    pub of_second : Change
    pub in_first : Contains (effects m).changes of_first
    pub in_second : Contains (effects n).changes of_second
    pub item : item_of cat of_first ≡ item_of cat of_second

  turned : (m n : ℕ) → ShareItem m n → ShareItem n m
  turned m n s = record { of_first = s.of_second; of_second = s.of_first; in_first = s.in_second; in_second = s.in_first; item = sym s.item }

  tells : (m n : ℕ) → ShareItem m n → change_one_item cat (effects m) (effects n) ≡ true
  tells m n s =
      passes_member (λ c. list_any (λ d. is_eq (item_cmp (item_of cat c) (item_of cat d))) (effects n).changes) (effects m).changes s.of_first s.in_first
      (passes_member (λ d. is_eq (item_cmp (item_of cat s.of_first) (item_of cat d))) (effects n).changes s.of_second s.in_second
      (subst (λ z. is_eq (item_cmp (item_of cat s.of_first) z) ≡ true) s.item (ap is_eq (tied_itself item_cmp_total (item_of cat s.of_first)))))

  -- what ended last changes nothing that one changed which didn't end before it began
  last_wins : (log : Log) (n m : ℕ) → Sessions (ends n ∷ log) → FirstWins cat effects (ends n ∷ log) → Contains (ended log) m → ShareItem m n
      → end_of log m < begin_of log n
  last_wins log n m r w h s =
      elim (since_or_before log r.1 m n h r.0.0) [
        | inl k ↦ absurd (false≢true (sym w.0 ∙ passes_member (λ m. change_one_item cat (effects m) (effects n)) (ended_since log n) m k (tells m n s)))
        | inr l ↦ l
      ]

  pub one_before : (log : Log) → Sessions log → FirstWins cat effects log → (m n : ℕ) → Contains (ended log) m → Contains (ended log) n → m ≢ n
      → ShareItem m n → (end_of log m < begin_of log n) ⊎ (end_of log n < begin_of log m)
  one_before [] r w m n h k apart s = absurd (Contains-nil m h)
  one_before (begins x ∷ log) r w m n h k apart s =
      let t = times (λ z. z) log r.1 in
      let of_m = other_time x m (suc (length log)) (begin_of log m) (differ (begun log) m x (t.had_begun m (member_is (ended log) m h)) r.0.0) in
      let of_n = other_time x n (suc (length log)) (begin_of log n) (differ (begun log) n x (t.had_begun n (member_is (ended log) n k)) r.0.0) in
      elim (one_before log r.1 w m n h k apart s) [ inl l ↦ inl (omega arith) | inr l ↦ inr (omega arith) ]
  one_before (ends x ∷ log) r w m n h k apart s =
      let old_time : (z : ℕ) → Contains (ended log) z → end_of (ends x ∷ log) z ≡ end_of log z =
      λ z i. other_time x z (suc (length log)) (end_of log z) (differ (ended log) z x (member_is (ended log) z i) r.0.1) in
      elim (Contains-cases x (ended log) m h) [
        | inl e ↦ elim (Contains-cases x (ended log) n k) [
          | inl f ↦ absurd (apart (e ∙ sym f))
          | inr old ↦
              let l = last_wins log x n r w old (subst (ShareItem n) e (turned m n s)) in
              let b : begin_of log m ≡ begin_of log x = ap (begin_of log) e in
              let o = old_time n old in inr (omega arith)
        ]
        | inr old ↦ elim (Contains-cases x (ended log) n k) [
          | inl f ↦
              let l = last_wins log x m r w old (subst (ShareItem m) f s) in
              let b : begin_of log n ≡ begin_of log x = ap (begin_of log) f in
              let o = old_time m old in inl (omega arith)
          | inr both ↦
              let p = old_time m old in
              let q = old_time n both in
              elim (one_before log r.1 w.1 m n old both apart s) [ inl l ↦ inl (omega arith) | inr l ↦ inr (omega arith) ]
        ]
      ]
