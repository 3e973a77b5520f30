-- Modules that are made one after the other.
use Rattle.sdd_sites.proofs.All.{AllBegin, List, There, [], ap, arith, cases_lt, inl, inr, last_member, length, length-append, slice_get, slice_get-append, subst, sym, ℕ, ◌++◌, ◌+◌, ◌-◌, ◌<◌, ◌∷◌, ◌≡◌, ◌≤◌}

-- the modules before number n are made
pub record MadeTo {V : Type 0} (P : ℕ → V → Type 0) (n : ℕ) (made : List V) : Type 0 where
  pub count_is : length made + 1 ≡ n
  pub each : (k : ℕ) → 1 ≤ k → k < n → There (P k) (slice_get made (k - 1))

module _ {V : Type 0} (P : ℕ → V → Type 0) where
  pub none_made : (made : List V) → made ≡ [] → MadeTo P 1 made
  none_made made e = record { count_is = ap (λ l. length l + 1) e; each = λ k l h. absurd (omega arith) }

  pub one_more : (n : ℕ) (made : List V) (v : V) → MadeTo P n made → P n v → MadeTo P (n + 1) (made ++ v ∷ [])
  one_more n made v m p = record {
    count_is = (let e = length-append made (v ∷ []) in omega (arith, e, m.count_is));
    each = λ k low high.
        elim (cases_lt k n) [
          | inl h ↦
              (let inside : k - 1 < length made = omega (arith, m.count_is, h, low) in
              subst (There (P k)) (sym (slice_get-append made (v ∷ []) (k - 1) inside)) (m.each k low h))
          | inr h ↦
              (let same : n ≡ k = omega (arith, h, high) in
              let place : length made ≡ k - 1 = omega (arith, m.count_is, same) in
              subst (λ i. There (P k) (slice_get (made ++ v ∷ []) i)) place (subst (There (P k)) (sym (last_member made v)) (subst (λ i. P i v) same p)))
        ];
  }

  pub all_made : (n count : ℕ) (made : List V) → n ≡ count + 1 → MadeTo P n made → AllBegin P count made
  all_made n count made e m = record { count_is = omega (arith, m.count_is, e); each = λ k low high. m.each k low (omega (arith, e, high)) }
