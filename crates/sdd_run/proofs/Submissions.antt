-- Each transaction is submitted at most once, also by a part of a schedule.
use Rattle.sdd_run.proofs.All.{AreDistinct, AreSubmittedOnce, Event, List, [], ap, arith, cases_eq, eq-eqb, filter_map, get_or as slice_index_or, length, ne_eqb, one_if, refl, submits_in, submitted_by, subst, suc, sym, ℕ, ◌++◌, ◌+◌, ◌<◌, ◌==◌, ◌∙◌, ◌∷◌, ◌≡◌, ◌≤◌}
use Rattle.sdd_progress.specs.obligations.All.{Submit}

abbrev numbers : List Event → List ℕ
numbers es = filter_map submitted_by es

-- a number that isn't among them
abbrev IsNew : ℕ → List ℕ → Type 0
IsNew n xs = (k : ℕ) → k < length xs → (d : ℕ) → n ≡ slice_index_or xs k d → ⊥

not_later : (n m : ℕ) (xs : List ℕ) → IsNew n (m ∷ xs) → IsNew n xs
not_later n m xs h k l d e = h (suc k) (omega arith) d e

never : (n : ℕ) (es : List Event) → IsNew n (numbers es) → submits_in n es ≡ 0
never n [] h = refl
never n (Submit m ∷ es) h = ap (λ b. one_if b + submits_in n es) (ne_eqb m.0 n (λ e. h 0 (omega arith) 0 (sym e)))
    ∙ (grind (arith, not_later, numbers, (never n es (not_later n m.0 (numbers es) h))))
never n (_ ∷ es) h = let e = never n es h in omega arith

others_distinct : (m : ℕ) (xs : List ℕ) → AreDistinct (m ∷ xs) → AreDistinct xs
others_distinct m xs h i k less l d e = h (suc i) (suc k) (omega arith) (omega arith) d e

first_new : (m : ℕ) (xs : List ℕ) → AreDistinct (m ∷ xs) → IsNew m xs
first_new m xs h k l d e = h 0 (suc k) (omega arith) (omega arith) d e

one_more : (n m : ℕ) (es : List Event) → IsNew m (numbers es) → submits_in n es ≤ 1 → one_if (m == n) + submits_in n es ≤ 1
one_more n m es fresh few = grind (arith, cases_eq, never, eq-eqb, ne_eqb)

-- distinct numbers are submitted once
pub once : (es : List Event) → AreDistinct (numbers es) → AreSubmittedOnce es
once [] h n = omega arith
once (Submit m ∷ es) h n = one_more n m.0 es (first_new m.0 (numbers es) h) (once es (others_distinct m.0 (numbers es) h) n)
once (_ ∷ es) h n = let e = once es h n in omega arith

-- a part submits no more often than all

part_submits : (n : ℕ) (xs ys : List Event) → submits_in n xs ≤ submits_in n (xs ++ ys)
part_submits n [] ys = omega arith
part_submits n (x ∷ xs) ys = let h = part_submits n xs ys in omega arith

pub once_before : (xs ys all : List Event) → xs ++ ys ≡ all → AreSubmittedOnce all → AreSubmittedOnce xs
once_before xs ys all e h n =
    let part = part_submits n xs ys in
    omega (arith, subst (λ es. submits_in n es ≤ 1) (sym e) (h n))
