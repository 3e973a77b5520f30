-- The classes of a module are found one by one.
use Rattle.sdd_tm.proofs.All.{Catalogue, ClassState, List, [], ap, append-nil, arith, class_at, cond, false, filter, filter-append, first_class, map, map-append, numbers_to, range_push, suc, true, ℕ, ◌++◌, ◌+◌, ◌-◌, ◌==◌, ◌∙◌, ◌∷◌, ◌≡◌, ◌≤◌}

-- those among the first n classes
abbrev pub classes_to : Catalogue → ℕ → ℕ → List ℕ
classes_to cat tm n = filter (λ c. (class_at cat c).tm.0 == tm) (numbers_to n)

to_more : (cat : Catalogue) (tm n : ℕ) → classes_to cat tm (suc n) ≡ classes_to cat tm n ++ cond ((class_at cat (suc n)).tm.0 == tm) (suc n ∷ []) []
to_more cat tm n =
    ap (filter (λ c. (class_at cat c).tm.0 == tm)) (range_push 1 n ∙ ap (λ k. numbers_to n ++ k ∷ []) (omega arith))
    ∙ filter-append (λ c. (class_at cat c).tm.0 == tm) (numbers_to n) (suc n ∷ [])

-- one that is the module's
pub class_kept : (cat : Catalogue) (tm n : ℕ) (before : List ClassState) (new : ClassState) → 1 ≤ n
    → ((class_at cat n).tm.0 == tm) ≡ true → new ≡ first_class cat n → before ≡ map (first_class cat) (classes_to cat tm (n - 1))
    → before ++ new ∷ [] ≡ map (first_class cat) (classes_to cat tm (n + 1 - 1))
class_kept cat tm n before new l own is e = grind (arith, classes_to, to_more, map-append)

-- and one that isn't
pub class_left : (cat : Catalogue) (tm n : ℕ) → 1 ≤ n → ((class_at cat n).tm.0 == tm) ≡ false
    → map (first_class cat) (classes_to cat tm (n - 1)) ≡ map (first_class cat) (classes_to cat tm (n + 1 - 1))
class_left cat tm n l other = grind (arith, class_at, to_more, cond, append-nil)
