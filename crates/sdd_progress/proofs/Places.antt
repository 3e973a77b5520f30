-- Different places at which records pass a test are at most as many as records that pass it.
use Rattle.sdd_progress.proofs.All.{AllByRecursion, Bool, History, IsDistinct, IsRecordAt, List, Rec, [], ap, arith, cases_Bool, cond, eq-eqb, eqb, eqb-true, false, filter, inl, inr, length, length-le_from_is_member, list_any, nat_eq_equiv, refl, same_Some, subst, suc, true, zero, ℕ, ◌+◌, ◌||◌, ◌∙◌, ◌∷◌, ◌≡◌, ◌≤◌}

-- all such places, the first counted as k
places : (Rec → Bool) → ℕ → History → List ℕ
places test k [] = []
places test k (e ∷ h) = cond (test e.1) (k ∷ places test (suc k) h) (places test (suc k) h)

as_many : (test : Rec → Bool) (k : ℕ) (h : History) → length (places test k h) ≡ length (filter (λ e. test e.1) h)
unfolding places
as_many test k [] = refl
as_many test k (e ∷ h) = grind (arith, places, (as_many test (suc k) h))

there : (test : Rec → Bool) (k : ℕ) (h : History) (j : ℕ) (r : Rec) → IsRecordAt h j r → test r ≡ true → list_any (eqb (k + j)) (places test k h) ≡ true
unfolding places
there test k [] j r s t = absurd (cc)
there test k (e ∷ h) zero r s t =
    let same : k + 0 ≡ k = omega arith in
    ap (λ b. list_any (eqb (k + 0)) (cond b (k ∷ places test (suc k) h) (places test (suc k) h))) (ap test (same_Some e.1 r s) ∙ t)
    ∙ ap (λ b. b || list_any (eqb (k + 0)) (places test (suc k) h)) (eq-eqb (k + 0) k same)
there test k (e ∷ h) (suc j) r s t =
    let same : suc k + j ≡ k + suc j = omega arith in
    let rest : list_any (eqb (k + suc j)) (places test (suc k) h) ≡ true =
    subst (λ m. list_any (eqb m) (places test (suc k) h) ≡ true) same (there test (suc k) h j r s t) in
    elim (test e.1) as (λ b. list_any (eqb (k + suc j)) (cond b (k ∷ places test (suc k) h) (places test (suc k) h)) ≡ true) [
      | true ↦ elim (eqb (k + suc j) k) as (λ b. (b || list_any (eqb (k + suc j)) (places test (suc k) h)) ≡ true) [ true ↦ refl | false ↦ rest ]
      | false ↦ rest
    ]

-- a record that passes stands at the place
pub record Passes (test : Rec → Bool) (h : History) (place : ℕ) : Type 0 where
  pub rec : Rec
  pub is_recorded : IsRecordAt h place rec
  pub passes : test rec ≡ true

each_there : (test : Rec → Bool) (h : History) (ks : List ℕ) → AllByRecursion (Passes test h) ks → (q : ℕ)
    → list_any (eqb q) ks ≡ true → list_any (eqb q) (places test 0 h) ≡ true
each_there test h [] all q e = absurd (cc)
each_there test h (k ∷ ks) all q e =
    elim (cases_Bool (eqb q k)) [
      | inl same ↦
          let p = all.0 in
          subst (λ m. list_any (eqb m) (places test 0 h) ≡ true) (omega (arith, eqb-true q k same)) (there test 0 h k p.rec p.is_recorded p.passes)
      | inr other ↦ each_there test h ks all.1 q (rw other at e)
    ]

pub few_places : (test : Rec → Bool) (h : History) (ks : List ℕ) → IsDistinct eqb ks → AllByRecursion (Passes test h) ks
    → length ks ≤ length (filter (λ e. test e.1) h)
few_places test h ks differ all =
    omega (arith, length-le_from_is_member nat_eq_equiv ks (places test 0 h) differ (each_there test h ks all), as_many test 0 h)
