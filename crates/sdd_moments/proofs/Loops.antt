-- Loops: what was made and what is left to make is all of it.
use Rattle.sdd_moments.proofs.All.{List, Option, [], add-one, all_links_more, ap, append-nil, append_assoc, drop, drop-cons, drop_all, filter_map, filter_map-append, flat_map, get_or, length, map, refl, sym, ℕ, ◌++◌, ◌+◌, ◌<◌, ◌∙◌, ◌∷◌, ◌≡◌, ◌≤◌}

pub next : {A : Type 0} (xs : List A) (x : A) (i : ℕ) → i < length xs → x ≡ get_or xs i x → drop i xs ≡ x ∷ drop (i + 1) xs
next xs x i lt is = rw (drop-cons xs i x, ← is, add-one) refl

-- an image more, and all images

pub mapped_more : {A B : Type 0} (f : A → B) (xs : List A) (x : A) (out now total : List B) (i : ℕ) → i < length xs → x ≡ get_or xs i x
    → now ≡ out ++ f x ∷ [] → out ++ map f (drop i xs) ≡ total → now ++ map f (drop (i + 1) xs) ≡ total
mapped_more f xs x out now total i lt is push e =
    ap (λ l. l ++ map f (drop (i + 1) xs)) push
    ∙ append_assoc out (f x ∷ []) (map f (drop (i + 1) xs)) ∙ ap (λ l. out ++ map f l) (sym (next xs x i lt is)) ∙ e

-- what one item gives, and what all give

pub filtered_more : {A B : Type 0} (f : A → Option B) (xs : List A) (x : A) (out now total : List B) (i : ℕ) → i < length xs → x ≡ get_or xs i x
    → now ≡ out ++ filter_map f (x ∷ []) → out ++ filter_map f (drop i xs) ≡ total → now ++ filter_map f (drop (i + 1) xs) ≡ total
filtered_more f xs x out now total i lt is push e =
    ap (λ l. l ++ filter_map f (drop (i + 1) xs)) push
    ∙ append_assoc out (filter_map f (x ∷ [])) (filter_map f (drop (i + 1) xs))
    ∙ ap (λ l. out ++ l) (sym (filter_map-append f (x ∷ []) (drop (i + 1) xs)))
    ∙ ap (λ l. out ++ filter_map f l) (sym (next xs x i lt is)) ∙ e

pub filtered_end : {A B : Type 0} (f : A → Option B) (xs : List A) (out total : List B) (i : ℕ) → length xs ≤ i
    → out ++ filter_map f (drop i xs) ≡ total → out ≡ total
filtered_end f xs out total i past e = sym (append-nil out) ∙ ap (λ l. out ++ filter_map f l) (sym (drop_all i xs past)) ∙ e

-- what one more gives after what the others gave
pub joined_more : {A B : Type 0} (f : A → List B) (xs : List A) (x : A) (old new : List B)
    → old ≡ flat_map f xs → new ≡ old ++ f x → new ≡ flat_map f (xs ++ x ∷ [])
joined_more f xs x old new e push = all_links_more f xs x old new e push
