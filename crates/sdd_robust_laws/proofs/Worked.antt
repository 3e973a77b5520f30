-- Worked: write skew is a counterexample, and its transactions are dangerous; runs of one increment are robust.
use Rattle.sdd_robust_laws.proofs.All.{Access, AreLinked, Bool, Contains, Contains-cases, Contains-here, Contains-later, Contains-nil, EachOnce, Int, IsBeside, IsCounterexample, IsDangerous, IsReplay, IsShownRobust, List, Reply, Rows, Txn, Value, accesses, ap, are_apart, arith, cond, false, get_or, false≢true, inl, inr, map, pos, refl, serial, subst, sym, true, ℕ, ℤ, [], ◌<◌, ◌==◌, ◌∙◌, ◌∷◌, ◌≡◌, ◌≢◌, ◌⊎◌}
use Rattle.sdd_robust_laws.specs.Shown.AreLinked.{further, itself}
use Rattle.sdd_robust_laws.specs.AccessExamples.{changes_of, of_skew, reads_of}
use Rattle.sdd_robust_laws.specs.RunExamples.{adds, at_once, skew, skew_effects, skew_is_run, text, two_rows}
use Rattle.sdd_laws.specs.links.Examples.{crossing}

-- numbers that are 1 or 2

one_or_two : (n : ℕ) → Contains (2 ∷ 1 ∷ []) n → (n ≡ 2) ⊎ (n ≡ 1)
one_or_two n h =
    elim (Contains-cases 2 (1 ∷ []) n h) [
      | inl e ↦ inl e
      | inr k ↦ elim (Contains-cases 1 [] n k) [ inl e ↦ inr e | inr none ↦ absurd (Contains-nil n none) ]
    ]

never_three : (x y z : ℕ) → (x ≡ 2) ⊎ (x ≡ 1) → (y ≡ 2) ⊎ (y ≡ 1) → (z ≡ 2) ⊎ (z ≡ 1) → x ≢ y → y ≢ z → x ≢ z → ⊥
never_three x y z (inl a) (inl b) c p q r = p (a ∙ sym b)
never_three x y z (inl a) (inr b) (inl c) p q r = r (a ∙ sym c)
never_three x y z (inl a) (inr b) (inr c) p q r = q (b ∙ sym c)
never_three x y z (inr a) (inr b) c p q r = p (a ∙ sym b)
never_three x y z (inr a) (inl b) (inr c) p q r = r (a ∙ sym c)
never_three x y z (inr a) (inl b) (inl c) p q r = q (b ∙ sym c)

in_one : (x n : ℕ) → Contains (x ∷ []) n → n ≡ x
in_one x n h = elim (Contains-cases x [] n h) [ inl e ↦ e | inr none ↦ absurd (Contains-nil n none) ]

-- the orders of two
two_orders : (order : List ℕ) → ((n : ℕ) → Contains (2 ∷ 1 ∷ []) n → Contains order n) → ((n : ℕ) → Contains order n → Contains (2 ∷ 1 ∷ []) n)
    → EachOnce order → (order ≡ 1 ∷ 2 ∷ []) ⊎ (order ≡ 2 ∷ 1 ∷ [])
two_orders [] there back once = absurd (Contains-nil 2 (there 2 (Contains-here 2 (1 ∷ []))))
two_orders (x ∷ []) there back once =
    let a = in_one x 2 (there 2 (Contains-here 2 (1 ∷ []))) in
    let b = in_one x 1 (there 1 (Contains-later 2 (1 ∷ []) 1 (Contains-here 1 []))) in
    absurd (omega arith)
two_orders (x ∷ y ∷ []) there back once =
    let apart = once.0 y (Contains-here y []) in
    let a = one_or_two x (back x (Contains-here x (y ∷ []))) in
    let b = one_or_two y (back y (Contains-later x (y ∷ []) y (Contains-here y []))) in
    elim a [
      | inl p ↦ elim b [
        | inl q ↦ absurd (apart (q ∙ sym p))
        | inr q ↦ inr (ap (λ z. z ∷ y ∷ []) p ∙ ap (λ z. 2 ∷ z ∷ []) q)
      ]
      | inr p ↦ elim b [
        | inl q ↦ inl (ap (λ z. z ∷ y ∷ []) p ∙ ap (λ z. 1 ∷ z ∷ []) q)
        | inr q ↦ absurd (apart (q ∙ sym p))
      ]
    ]
two_orders (x ∷ y ∷ z ∷ rest) there back once =
    let in_y = Contains-here y (z ∷ rest) in
    let in_z = Contains-later y (z ∷ rest) z (Contains-here z rest) in
    absurd
    (never_three x y z (one_or_two x (back x (Contains-here x (y ∷ z ∷ rest)))) (one_or_two y (back y (Contains-later x (y ∷ z ∷ rest) y in_y)))
    (one_or_two z (back z (Contains-later x (y ∷ z ∷ rest) z in_z))) (λ e. once.0 y in_y (sym e)) (λ e. once.1.0 z (Contains-here z rest) (sym e)) (λ e. once.0 z in_z (sym e)))

-- the number that the second reply shows
abbrev second_shows : List Reply → ℕ
second_shows (a ∷ Rows (((Int (pos n) ∷ []) ∷ []) ∷ []) ∷ rest) = n
second_shows other = 0

differ : ◌≡◌ {A = ℕ} 5 0 → ⊥
differ e = omega arith

abbrev serial_replies : List ℕ → List Reply
serial_replies o = (serial crossing two_rows (map skew o)).0

-- write skew is like no serial run
skew_no_order : (order : List ℕ) → ¬ IsReplay crossing skew two_rows skew_effects at_once order
skew_no_order order r =
    elim (two_orders order (λ n. (r.same n).0) (λ n. (r.same n).1) r.once) [
      | inl e ↦ differ (ap second_shows (subst (λ o. serial_replies o ≡ map (λ n. (skew_effects n).reply) o) e r.replies))
      | inr e ↦ differ (ap second_shows (subst (λ o. serial_replies o ≡ map (λ n. (skew_effects n).reply) o) e r.replies))
    ]

abbrev both : List Txn
both = skew 1 ∷ skew 2 ∷ []

of_both : (n : ℕ) → Contains both (skew n)
of_both n =
    elim (n == 1) as (λ b. Contains both (cond b (skew 1) (skew 2))) [
      | true ↦ Contains-here (skew 1) (skew 2 ∷ [])
      | false ↦ Contains-later (skew 1) (skew 2 ∷ []) (skew 2) (Contains-here (skew 2) [])
    ]

pub skew_is_counterexample : IsCounterexample crossing both two_rows skew skew_effects at_once
skew_is_counterexample = record { of_work = of_both; run = skew_is_run; no_order = skew_no_order }

-- and the test says so: the first misses the change of the second, which misses its change
pub skew_is_dangerous : IsDangerous (of_skew 1 ∷ of_skew 2 ∷ []) (of_skew 1)
skew_is_dangerous =
    let second_there = Contains-later (of_skew 1) (of_skew 2 ∷ []) (of_skew 2) (Contains-here (of_skew 2) []) in
    record {
      missed = of_skew 2;
      missing = of_skew 2;
      linked = itself (of_skew 2) (record { there = second_there; may_both = refl });
      read = reads_of (pos 1) (pos 1) 2;
      change = changes_of (pos 2) (pos 2) 2 true;
      of_read = passing (reads_of (pos 1) (pos 1) 2) 1 (omega arith) refl;
      of_change = passing (changes_of (pos 2) (pos 2) 2 true) 3 (omega arith) refl;
      reads = refl;
      changes = refl;
      differ = refl;
    }
  where
    passing : (x : Access) (n : ℕ) → n < 4 → get_or (of_skew 1) n x ≡ x → Contains (of_skew 1) x
    passing x n l e = (n, l, e)

-- Of one increment no two runs at once both commit.

abbrev increment : Txn
increment = text (adds 1 5 ∷ [])

abbrev own : List Access
own = accesses crossing (increment ∷ []) two_rows increment

only_own : (c : List Access) → Contains (own ∷ []) c → c ≡ own
only_own c h = elim (Contains-cases own [] c h) [ inl e ↦ e | inr none ↦ absurd (Contains-nil c none) ]

none_beside : (pivot c : List Access) → Contains (own ∷ []) pivot → IsBeside (own ∷ []) pivot c → ⊥
none_beside pivot c h b =
    let apart : are_apart own own ≡ false =
    subst (λ z. are_apart z own ≡ false) (only_own pivot h) (subst (λ z. are_apart pivot z ≡ false) (only_own c b.there) b.may_both) in
    false≢true (sym apart)

pub increment_is_shown : IsShownRobust crossing (increment ∷ []) two_rows
increment_is_shown pivot h danger = refuse danger.missed danger.missing danger.linked
  where
    refuse : (c a : List Access) → AreLinked (own ∷ []) pivot c a → ⊥
    refuse _ _ (itself c b) = none_beside pivot c h b
    refuse _ _ (further c d a b step rest) = none_beside pivot c h b
