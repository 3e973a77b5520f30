-- Lists that are made of the members of another one.
use Rattle.sdd_watch.proofs.All.{List, Option, [], ap, arith, cons_option, filter_map, filter_map-append, map, map-range_with_len_more, range_with_len, refl, sym, ℕ, ◌++◌, ◌+◌, ◌∙◌, ◌∷◌, ◌≡◌}

pub picked_map : {A B C : Type 0} (f : B → Option C) (g : A → B) (xs : List A) → filter_map f (map g xs) ≡ filter_map (λ x. f (g x)) xs
picked_map f g [] = refl
picked_map f g (x ∷ xs) = ap (cons_option (f (g x))) (picked_map f g xs)

-- one number more of those from 0 on
pub picked_more : {A B : Type 0} (f : A → Option B) (g : ℕ → A) (n : ℕ) (old new : List B) → old ≡ filter_map f (map g (range_with_len 0 n))
    → new ≡ old ++ filter_map f (g n ∷ []) → new ≡ filter_map f (map g (range_with_len 0 (n + 1)))
picked_more f g n old new e is =
    is ∙ ap (λ ys. ys ++ filter_map f (g n ∷ [])) e
    ∙ sym (filter_map-append f (map g (range_with_len 0 n)) (g n ∷ []))
    ∙ sym (ap (filter_map f) (map-range_with_len_more g 0 n n (omega arith)))
