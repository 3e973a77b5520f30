-- What was written, one item more, and how written words are put together.
use Rattle.sdd_words.proofs.All.{List, Word, [], add-one, ap, append-nil, append_assoc, arith, drop, drop-cons, drop_all, flat_map, get_or, length, map, more_bytes, refl, spaced, sym, ℕ, ◌++◌, ◌+◌, ◌<◌, ◌∙◌, ◌∷◌, ◌≡◌, ◌≤◌}
pub use Rattle.std.proofs.lemmas.Grind.{flat_map-append}
pub use Rattle.std.proofs.lemmas.List.Folds.{flat_map-map}

-- what f makes of the items before, and what it makes of those that are left
pub item_written : {A : Type 0} (f : A → List ℕ) (xs : List A) (x : A) (out total : List ℕ) (i : ℕ) → i < length xs → x ≡ get_or xs i x
    → out ++ flat_map f (drop i xs) ≡ total
    → (out ++ f x) ++ flat_map f (drop (i + 1) xs) ≡ total
item_written f xs x out total i lt is e = grind (arith, drop-cons, add-one, flat_map, append_assoc)

pub items_written : {A : Type 0} (f : A → List ℕ) (xs : List A) (out total : List ℕ) (i : ℕ) → length xs ≤ i
    → out ++ flat_map f (drop i xs) ≡ total → out ≡ total
items_written f xs out total i past e = sym (append-nil out) ∙ ap (λ l. out ++ flat_map f l) (sym (drop_all i xs past)) ∙ e

pub flat_map-flat_map : {A B : Type 0} (f : B → List ℕ) (g : A → List B) (xs : List A)
    → flat_map f (flat_map g xs) ≡ flat_map (λ x. flat_map f (g x)) xs
flat_map-flat_map f g [] = refl
flat_map-flat_map f g (x ∷ xs) = flat_map-append f (g x) (flat_map g xs) ∙ ap (λ (l : List ℕ). flat_map f (g x) ++ l) (flat_map-flat_map f g xs)

-- further words are each a word after a space
pub words_spaced : {A : Type 0} (f : A → Word) (xs : List A) → flat_map (λ x. spaced (f x)) xs ≡ more_bytes (map f xs)
words_spaced f [] = refl
words_spaced f (x ∷ xs) = ap (λ (l : List ℕ). spaced (f x) ++ l) (words_spaced f xs)

pub more_bytes-append : (ws vs : List Word) → more_bytes (ws ++ vs) ≡ more_bytes ws ++ more_bytes vs
more_bytes-append [] vs = refl
more_bytes-append (w ∷ ws) vs = grind (arith, append_assoc, (more_bytes-append ws vs))
