-- What was made of the members of a list so far, and of all of them.
use Rattle.sdd_moments.proofs.All.{Bool, List, [], ap, filter, filter-append, get_or, length, map, map-append, sym, take, take_all, take_more, ℕ, ◌++◌, ◌+◌, ◌<◌, ◌∙◌, ◌∷◌, ◌≡◌, ◌≤◌}

-- those that pass a test

pub filtered_to : {A : Type 0} (p : A → Bool) (xs : List A) (i : ℕ) (d : A) (old more : List A) → i < length xs
    → more ≡ old ++ filter p (get_or xs i d ∷ []) → old ≡ filter p (take i xs) → more ≡ filter p (take (i + 1) xs)
filtered_to p xs i d old more lt add e =
    add ∙ ap (λ ys. ys ++ filter p (get_or xs i d ∷ [])) e ∙ sym (filter-append p (take i xs) (get_or xs i d ∷ []))
    ∙ ap (filter p) (sym (take_more xs i d lt))

pub filtered_all : {A : Type 0} (p : A → Bool) (xs : List A) (i : ℕ) (all : List A) → length xs ≤ i → all ≡ filter p (take i xs) → all ≡ filter p xs
filtered_all p xs i all past e = e ∙ ap (filter p) (take_all i xs past)

-- their images

pub mapped_to : {A B : Type 0} (f : A → B) (xs : List A) (i : ℕ) (d : A) (old more : List B) (x : B) → i < length xs → x ≡ f (get_or xs i d)
    → more ≡ old ++ x ∷ [] → old ≡ map f (take i xs) → more ≡ map f (take (i + 1) xs)
mapped_to f xs i d old more x lt is add e =
    add ∙ (λ j. e j ++ is j ∷ []) ∙ sym (map-append f (take i xs) (get_or xs i d ∷ [])) ∙ ap (map f) (sym (take_more xs i d lt))

pub mapped_all : {A B : Type 0} (f : A → B) (xs : List A) (i : ℕ) (all : List B) → length xs ≤ i → all ≡ map f (take i xs) → all ≡ map f xs
mapped_all f xs i all past e = e ∙ ap (map f) (take_all i xs past)
