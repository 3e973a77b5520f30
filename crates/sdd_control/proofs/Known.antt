-- An heir's value is never unknown.
use Rattle.sdd_control.proofs.All.{Act, Bool, Finish, FitAll, IsNoted, List, Log, NeverUnknown, None, Option, Some, Unknown, Val, ap, arith, heir, inl, inr, last, log_of, nat_tests, refl, suc, sym, true, value, value_by, zero, ℕ, ◌<◌, ◌==◌, ◌∙◌, ◌≡◌, ◌≢◌, ◌⊎◌}
use Rattle.sdd_control.proofs.Kept.{Kept}
use Rattle.sdd_control.proofs.Promises.{kept}

first_value : (first : Bool) → value_by None first true ≢ Unknown
first_value first e = grind (arith, nat_tests)

last_or_none : (x : Option (ℕ × Val)) → (x ≡ None) ⊎ ((i : ℕ) × (v : Val) × (x ≡ Some (i, v)))
last_or_none None = inl refl
last_or_none (Some p) = inr (p.0, p.1, refl)

module _ (backups writes : ℕ) (log : Log) (k : Kept backups writes log) where
  known : (n i : ℕ) → i < n → heir log i ≡ true → value log i ≢ Unknown
  known zero i l h e = absurd (omega arith)
  known (suc n) i l h e =
      elim (last_or_none (last log i)) [
        | inl p ↦
            let q : value log i ≡ value_by None (i == 0) true = ap (λ z. value_by z (i == 0) (heir log i)) p ∙ ap (λ z. value_by None (i == 0) z) h in
            first_value (i == 0) (sym q ∙ e)
        | inr p ↦
            let s = k.last_sound p.0 i p.1 p.2 in
            let q : value log i ≡ p.1 = ap (λ z. value_by z (i == 0) (heir log i)) p.2 in
            known n p.0 (let m = s.below in omega arith) s.heir (s.value ∙ sym q ∙ e)
      ]

  -- so a Finish note has all or none
  pub finish_known : (i : ℕ) (v : Val) → IsNoted log (Finish i v) → v ≢ Unknown
  finish_known i v s e = let r = k.finished i v s in known (suc i) i (omega arith) r.heir (r.value ∙ e)

pub never_unknown_of : (backups writes : ℕ) (acts : List Act) → FitAll backups acts → NeverUnknown (log_of backups writes acts)
never_unknown_of backups writes acts f i s = finish_known backups writes (log_of backups writes acts) (kept backups writes acts f) i Unknown s refl
