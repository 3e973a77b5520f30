-- That a record comes before another, as a test and by their places.
use Rattle.sdd_links.proofs.All.{Answer, Apply, Bool, History, IsRecordAt, Rec, [], and_from, and_parts, ap, arith, class_no, comes_before, dm_no, eq-eqb, inl, inr, is_answer, is_apply, list_any, or_left, or_right, refl, same_Some, suc, time_at, true, txn_no, zero, ℕ, ◌&&◌, ◌<◌, ◌==◌, ◌||◌, ◌∙◌, ◌∷◌, ◌≡◌, ◌⊎◌}

-- either of two tests
pub or_cases : (a b : Bool) → (a || b) ≡ true → (a ≡ true) ⊎ (b ≡ true)
or_cases a b e = grind arith

-- a record that passes a test
pub record Passing (p : Rec → Bool) (h : History) : Type 0 where
  pub place : ℕ
  pub rec : Rec
  pub is_recorded : IsRecordAt h place rec
  pub passes : p rec ≡ true

passing : (p : Rec → Bool) (h : History) → list_any (λ e. p e.1) h ≡ true → Passing p h
passing p [] e = absurd (cc)
passing p (x ∷ h) e =
    elim (or_cases (p x.1) (list_any (λ y. p y.1) h) e) [
      | inl t ↦ record { place = 0; rec = x.1; is_recorded = refl; passes = t }
      | inr t ↦
          let r = passing p h t in
          record { place = suc r.place; rec = r.rec; is_recorded = r.is_recorded; passes = r.passes }
    ]

pub any_from : (p : Rec → Bool) (h : History) (k : ℕ) (r : Rec) → IsRecordAt h k r → p r ≡ true
    → list_any (λ e. p e.1) h ≡ true
any_from p [] k r s t = absurd (cc)
any_from p (x ∷ h) zero r s t = or_left (p x.1) (list_any (λ y. p y.1) h) (ap p (same_Some x.1 r s) ∙ t)
any_from p (x ∷ h) (suc k) r s t = or_right (p x.1) (list_any (λ y. p y.1) h) (any_from p h k r s t)

-- two records that pass tests, the first before the second
pub record InTurn (p q : Rec → Bool) (h : History) : Type 0 where
  pub first : Passing p h
  pub second : Passing q h
  pub before : first.place < second.place

pub in_turn : (p q : Rec → Bool) (h : History) → comes_before p q h ≡ true → InTurn p q h
in_turn p q [] e = absurd (cc)
in_turn p q (x ∷ h) e =
    elim (or_cases (p x.1 && list_any (λ d. q d.1) h) (comes_before p q h) e) [
      | inl t ↦
          let both = and_parts (p x.1) (list_any (λ d. q d.1) h) t in
          let r = passing q h both.1 in
          record {
            first = record { place = 0; rec = x.1; is_recorded = refl; passes = both.0 };
            second = record { place = suc r.place; rec = r.rec; is_recorded = r.is_recorded; passes = r.passes };
            before = omega arith;
          }
      | inr t ↦
          let r = in_turn p q h t in
          let l = r.before in
          record {
            first = record { place = suc r.first.place; rec = r.first.rec; is_recorded = r.first.is_recorded; passes = r.first.passes };
            second = record { place = suc r.second.place; rec = r.second.rec; is_recorded = r.second.is_recorded; passes = r.second.passes };
            before = omega arith;
          }
    ]

pub comes_from : (p q : Rec → Bool) (h : History) (j k : ℕ) (r s : Rec) → IsRecordAt h j r → IsRecordAt h k s → j < k
    → p r ≡ true → q s ≡ true → comes_before p q h ≡ true
comes_from p q (x ∷ h) (suc j) (suc k) r s a b l t u = grind (arith, or_right, list_any, (comes_from p q h j k r s a b (omega arith) t u))
comes_from p q h j k r s a b l t u = grind (arith, any_from)

-- what is an Apply, and an Answer

pub apply_passes : (n d class ts : ℕ) → is_apply n d (Apply (txn_no n) (class_no class) (dm_no d) (time_at ts)) ≡ true
apply_passes n d class ts = and_from (n == n) (d == d) (eq-eqb n n refl) (eq-eqb d d refl)

pub answer_passes : (n number d : ℕ) → is_answer n number d (Answer (txn_no n) number (dm_no d)) ≡ true
answer_passes n number d = grind arith

pub is_answered : (h : History) (n number d k : ℕ) (r : Rec) → IsRecordAt h k r → is_answer n number d r ≡ true
    → IsRecordAt h k (Answer (txn_no n) number (dm_no d))
is_answered h n number d k r s t = grind arith
