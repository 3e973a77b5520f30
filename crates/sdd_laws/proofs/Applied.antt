-- Applied before a place, as a test and by places.
use Rattle.sdd_laws.proofs.All.{AppliedBefore, Bool, History, IsRecordAt, Rec, [], apply_passes, arith, inl, inr, is_applied, is_apply, list_any, or_cases, or_right, refl, suc, take, true, zero, ℕ, ◌<◌, ◌↔◌, ◌∷◌, ◌≡◌}
use Rattle.sdd_laws.proofs.Precedes as by_places

-- a record before the place passes
pub record PassesBefore (p : Rec → Bool) (h : History) (k : ℕ) : Type 0 where
  pub place : ℕ
  pub rec : Rec
  pub is_recorded : IsRecordAt h place rec
  pub passes : p rec ≡ true
  pub before : place < k

pub passes_before : (p : Rec → Bool) (h : History) (k : ℕ) → list_any (λ e. p e.1) (take k h) ≡ true → PassesBefore p h k
passes_before p [] zero e = absurd (cc)
passes_before p (x ∷ h) (suc k) e =
    elim (or_cases (p x.1) (list_any (λ e. p e.1) (take k h)) e) [
      | inl t ↦ record { place = 0; rec = x.1; is_recorded = refl; passes = t; before = omega arith }
      | inr t ↦
          let r = passes_before p h k t in
          record { place = suc r.place; rec = r.rec; is_recorded = r.is_recorded; passes = r.passes; before = omega (arith, r.before) }
    ]
passes_before p _ _ e = absurd (cc)

before_passes : (p : Rec → Bool) (h : History) (k j : ℕ) (r : Rec) → IsRecordAt h j r → p r ≡ true → j < k
    → list_any (λ e. p e.1) (take k h) ≡ true
before_passes p (x ∷ h) (suc k) (suc j) r s t l = grind (arith, or_right, list_any, (before_passes p h k j r s t (omega arith)))
before_passes p h k j r s t l = grind arith

pub applied_before : (h : History) (n d k : ℕ) → is_applied h d k n ≡ true → AppliedBefore h n d k
applied_before h n d k e =
    let r = passes_before (is_apply n d) h k e in
    record
    { place = r.place; applied = by_places.is_applied h n d r.place r.rec r.is_recorded r.passes; before = r.before }

pub before_applied : (h : History) (n d k : ℕ) → AppliedBefore h n d k → is_applied h d k n ≡ true
before_applied h n d k a =
    before_passes (is_apply n d) h k a.place _ a.applied.is_recorded (apply_passes n d a.applied.class a.applied.ts)
    a.before

pub applied_alike : (h : History) (n a j b k : ℕ) → AppliedBefore h n a j ↔ AppliedBefore h n b k
    → is_applied h a j n ≡ is_applied h b k n
applied_alike h n a j b k alike = grind (arith, before_applied, applied_before)
