-- Where a test ends to hold, found by halves.
use Rattle.sdd_links.proofs.All.{Bool, ap, arith, cases_Bool, cases_eq, cases_lt, cond, end_of, false, inl, inr, ltb-false, ltb-true, nat_lt, subst, suc, sym, true, zero, ℕ, ◌+◌, ◌-◌, ◌/◌, ◌<◌, ◌∙◌, ◌≡◌, ◌≤◌}

half_below : (n : ℕ) → 0 < n → n / 2 < n
half_below n l = omega arith

pub middle_below : (low high : ℕ) → low < high → low + (high - low) / 2 < high
middle_below low high l = let h = half_below (high - low) (omega arith) in omega arith

module _ (p : ℕ → Bool) where
  past : (n low high : ℕ) → high ≤ low → end_of p n low high ≡ low
  past n low high l = grind arith

  -- that many halvings are enough
  same_end : (n m low high : ℕ) → high - low ≤ n → high - low ≤ m → end_of p n low high ≡ end_of p m low high
  same_end (suc n) (suc m) low high a b =
      let middle : ℕ = low + (high - low) / 2 in
      elim (cases_Bool (nat_lt low high)) [
        | inl t ↦
            grind (arith, ltb-true, middle_below, end_of, (same_end n m (middle + 1) high (omega arith) (omega arith)), (same_end n m low middle (omega arith) (omega arith)))
        | inr f ↦
            grind (arith, ltb-false, past)
      ]
  same_end n m low high a b = grind (arith, past)

  abbrev upper : ℕ → ℕ → ℕ
  upper low high = end_of p (high - (low + (high - low) / 2 + 1)) (low + (high - low) / 2 + 1) high

  abbrev lower : ℕ → ℕ → ℕ
  lower low high = end_of p (low + (high - low) / 2 - low) low (low + (high - low) / 2)

  -- one halving
  pub end_above : (low high : ℕ) → low < high → p (low + (high - low) / 2) ≡ true
      → end_of p (high - (low + (high - low) / 2 + 1)) (low + (high - low) / 2 + 1) high ≡ end_of p (high - low) low high
  end_above low high l t = sym ((grind (arith, middle_below, same_end)) ∙ ap (λ b. cond b (upper low high) (lower low high)) t)

  pub end_below : (low high : ℕ) → low < high → p (low + (high - low) / 2) ≡ false
      → end_of p (low + (high - low) / 2 - low) low (low + (high - low) / 2) ≡ end_of p (high - low) low high
  end_below low high l f = sym ((grind (arith, middle_below, same_end)) ∙ ap (λ b. cond b (upper low high) (lower low high)) f)

  -- nothing is left
  pub end_found : (low high : ℕ) → high ≤ low → end_of p (high - low) low high ≡ low
  end_found low high l = past (high - low) low high l

  -- up to there the test held, and there it doesn't
  pub record IsEnd (low high k : ℕ) : Type 0 where
    pub above : low ≤ k
    pub below : k ≤ high
    pub held : low < k → p (k - 1) ≡ true
    pub fails : k < high → p k ≡ false

  end_is : (n low high : ℕ) → high - low ≤ n → low ≤ high → IsEnd low high (end_of p n low high)
  end_is zero low high a l = record { above = omega arith; below = l; held = λ m. absurd (omega arith); fails = λ m. absurd (omega arith) }
  end_is (suc n) low high a l =
      let middle : ℕ = low + (high - low) / 2 in
      elim (cases_Bool (nat_lt low high)) [
        | inl t ↦
            let m = ltb-true low high t in
            let under = middle_below low high m in
            subst (IsEnd low high) (sym (cc))
            (elim (cases_Bool (p middle)) [
              | inl holds ↦
                  let r = end_is n (middle + 1) high (omega arith) (omega arith) in
                  let k : ℕ = end_of p n (middle + 1) high in
                  let from = r.above in
                  subst (λ b. IsEnd low high (cond b k (end_of p n low middle))) (sym holds)
                  (record {
                    above = omega arith;
                    below = r.below;
                    held = λ s. elim (cases_eq (middle + 1) k) [
                      | inl e ↦ let same : middle ≡ k - 1 = omega (arith, e) in subst (λ z. p z ≡ true) same holds
                      | inr d ↦ r.held (elim (cases_lt (middle + 1) k) [ inl u ↦ u | inr g ↦ absurd (d (omega arith)) ])
                    ];
                    fails = r.fails;
                  })
              | inr ends ↦
                  grind (arith, end_of, IsEnd, cases_eq, (end_is n low middle (omega arith) (omega arith)))
            ])
        | inr f ↦
            let m = ltb-false low high f in
            let same : low ≡ high = omega arith in
            subst (IsEnd low high) (sym (past (suc n) low high m))
            (record { above = omega arith; below = l; held = λ s. absurd (omega arith); fails = λ s. absurd (omega arith) })
      ]

  pub end_of_is : (n : ℕ) → IsEnd 0 n (end_of p n 0 n)
  end_of_is n = end_is n 0 n (omega arith) (omega arith)
