-- Of conditions that ascend by class the first that spoils a READ is that of the lowest class.
use Rattle.sdd_dm.proofs.All.{Ascend, Bool, ClassNo, Cond, List, Refuses, Some, Ts, View, [], ap, arith, false, filter, head_of, is_met, judge, judged, map, not, refl, slice_get, spoils, subst, suc, true, zero, ℕ, ◌<◌, ◌∙◌, ◌∷◌, ◌≡◌, ◌≤◌}

abbrev classes_in : List Cond → List ℕ
classes_in conds = map (λ (d : Cond). d.class.0) conds

-- the first stands below all others
first_below : (d : Cond) (conds : List Cond) (n : ℕ) (e : Cond) → Ascend (classes_in (d ∷ conds)) → slice_get conds n ≡ Some e
    → d.class.0 < e.class.0
first_below d [] n e h there = cc
first_below d (x ∷ conds) zero e h there = let p : x ≡ e = cc in subst (λ (y : Cond). d.class.0 < y.class.0) p h.0
first_below d (x ∷ conds) (suc n) e h there = grind (arith, first_below x conds n e h.1 there)

record IsFirst (p : Cond → Bool) (conds : List Cond) (e : Cond) : Type 0 where
  first : Cond
  is : head_of (filter p conds) ≡ Some first
  low : first.class.0 ≤ e.class.0

first_is_lowest : (p : Cond → Bool) (conds : List Cond) (n : ℕ) (e : Cond) → Ascend (classes_in conds) → slice_get conds n ≡ Some e → p e ≡ true
    → IsFirst p conds e
first_is_lowest p [] n e h there so = cc
first_is_lowest p (x ∷ conds) zero e h there so =
    let q : x ≡ e = cc in
    record { first = x; is = rw (ap p q ∙ so) refl; low = subst (λ (y : Cond). x.class.0 ≤ y.class.0) q (omega arith) }
first_is_lowest p (x ∷ conds) (suc n) e h there so =
    let below = first_below x conds n e h there in
    let i = first_is_lowest p conds n e h.1 there so in
    elim (p x) as (λ b. p x ≡ b → IsFirst p (x ∷ conds) e) [
      | true ↦ λ s. record { first = x; is = rw s refl; low = omega (arith, below) }
      | false ↦ λ s. record { first = i.first; is = rw s i.is; low = i.low }
    ] refl

pub lowest_is_named : (view : View) (conds : List Cond) (by : ClassNo) (write : Ts) (place : ℕ) (spoiler : Cond) → Ascend (map (λ d. d.class.0) conds)
    → judge view conds ≡ Refuses by write → slice_get conds place ≡ Some spoiler → spoils view spoiler ≡ true → by.0 ≤ spoiler.class.0
lowest_is_named view conds by write place spoiler h refused there so =
    let i = first_is_lowest (spoils view) conds place spoiler h there so in
    let is = ap (judged view (filter (λ d. not (is_met view d)) conds)) i.is in
    subst (λ (c : ClassNo). c.0 ≤ spoiler.class.0) (cc) i.low
