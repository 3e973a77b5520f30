-- The last record that passes a test; and that fewer pass a narrower one.
use Rattle.sdd_progress.proofs.All.{Bool, History, IsRecordAt, List, Rec, [], ap, arith, cond, false, filter, length, refl, same_Some, suc, take, true, zero, ℕ, ◌<◌, ◌∙◌, ◌∷◌, ◌≡◌, ◌≤◌}

abbrev pub passing : (Rec → Bool) → History → ℕ
passing test h = length (filter (λ e. test e.1) h)

pub record LastPassing (test : Rec → Bool) (h : History) (n : ℕ) : Type 0 where
  pub place : ℕ
  pub rec : Rec
  pub is_recorded : IsRecordAt h place rec
  pub passes : test rec ≡ true
  pub before : passing test (take place h) ≡ n

pub last_passing : (test : Rec → Bool) (h : History) (n : ℕ) → passing test h ≡ suc n → LastPassing test h n
last_passing test [] n e = absurd (omega arith)
last_passing test (x ∷ h) n e =
    elim (test x.1) as (λ b. test x.1 ≡ b → length (cond b (x ∷ filter (λ d. test d.1) h) (filter (λ d. test d.1) h)) ≡ suc n → LastPassing test (x ∷ h) n) [
      | true ↦ λ t l. elim n as (λ m. n ≡ m → LastPassing test (x ∷ h) m) [
        | zero ↦ λ z. record { place = 0; rec = x.1; is_recorded = refl; passes = t; before = refl }
        | suc m ↦ λ z.
            let r = last_passing test h m (omega arith) in
            record {
              place = suc r.place;
              rec = r.rec;
              is_recorded = r.is_recorded;
              passes = r.passes;
              before = ap (λ b. length (cond b (x ∷ filter (λ d. test d.1) (take r.place h)) (filter (λ d. test d.1) (take r.place h)))) t ∙ ap suc r.before;
            }
      ] refl
      | false ↦ λ t l.
          let r = last_passing test h n l in
          record {
            place = suc r.place;
            rec = r.rec;
            is_recorded = r.is_recorded;
            passes = r.passes;
            before = ap (λ b. length (cond b (x ∷ filter (λ d. test d.1) (take r.place h)) (filter (λ d. test d.1) (take r.place h)))) t ∙ r.before;
          }
    ] refl e

-- one record counts no more under a narrower test
abbrev counted : {A : Type 0} → Bool → A → List A → ℕ
counted b x xs = length (cond b (x ∷ xs) xs)

counted_fewer : {A : Type 0} (b c : Bool) (x : A) (xs ys : List A) → (b ≡ true → c ≡ true) → length xs ≤ length ys → counted b x xs ≤ counted c x ys
counted_fewer b c x xs ys f l = grind arith

counted_less : {A : Type 0} (b c : Bool) (x : A) (xs ys : List A) → (b ≡ true → c ≡ true) → length xs < length ys → counted b x xs < counted c x ys
counted_less b c x xs ys f l = grind arith

module _ (narrow test : Rec → Bool) (within : (r : Rec) → narrow r ≡ true → test r ≡ true) where
  pub fewer : (h : History) → passing narrow h ≤ passing test h
  fewer [] = omega arith
  fewer (e ∷ h) = counted_fewer (narrow e.1) (test e.1) e (filter (λ d. narrow d.1) h) (filter (λ d. test d.1) h) (within e.1) (fewer h)

  -- and less where one passes the wider test alone
  pub less : (h : History) (k : ℕ) (r : Rec) → IsRecordAt h k r → test r ≡ true → narrow r ≡ false → passing narrow h < passing test h
  less [] k r s t n = absurd (cc)
  less (e ∷ h) zero r s t n = grind (arith, same_Some, fewer, counted, passing)
  less (e ∷ h) (suc k) r s t n = counted_less (narrow e.1) (test e.1) e (filter (λ d. narrow d.1) h) (filter (λ d. test d.1) h) (within e.1) (less h k r s t n)
