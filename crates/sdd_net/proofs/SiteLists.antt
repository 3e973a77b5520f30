-- The loops that list the sites and the links.
use Rattle.sdd_net.proofs.All.{List, None, Option, Some, [], ap, append-nil, append_assoc, arith, filter_map, filter_map-append, flat_map, flat_map-append, get_or, length, map, map-range_with_len_more, nat_tests, range_with_len, sym, take, take_more, ℕ, ◌++◌, ◌+◌, ◌<◌, ◌∙◌, ◌∷◌, ◌≡◌}

-- one site more of a kind
pub sites_more : {A : Type 0} (f : ℕ → A) (n k : ℕ) (before old new : List A)
    → old ≡ before ++ map f (range_with_len 1 n) → k ≡ n + 1 → new ≡ old ++ f k ∷ []
    → new ≡ before ++ map f (range_with_len 1 (n + 1))
sites_more f n k before old new e same push = grind (arith, nat_tests, append_assoc, map-range_with_len_more)

-- one more that is among the links, or is not
pub links_yes : {A B : Type 0} (f : A → Option B) (xs : List A) (i : ℕ) (d : A) (y : B) (before old new : List B)
    → i < length xs → old ≡ before ++ filter_map f (take i xs) → f (get_or xs i d) ≡ Some y → new ≡ old ++ y ∷ []
    → new ≡ before ++ filter_map f (take (i + 1) xs)
links_yes f xs i d y before old new l e is push =
    rw (push, e, take_more xs i d l, filter_map-append, is) (append_assoc before (filter_map f (take i xs)) (y ∷ []))

pub links_no : {A B : Type 0} (f : A → Option B) (xs : List A) (i : ℕ) (d : A) (before old : List B)
    → i < length xs → old ≡ before ++ filter_map f (take i xs) → f (get_or xs i d) ≡ None → old ≡ before ++ filter_map f (take (i + 1) xs)
links_no f xs i d before old l e is =
    rw (take_more xs i d l, filter_map-append, is) (e ∙ ap (λ ys. before ++ ys) (sym (append-nil (filter_map f (take i xs)))))

-- the links from one site more
pub all_links_more : {A B : Type 0} (f : A → List B) (xs : List A) (x : A) (old new : List B)
    → old ≡ flat_map f xs → new ≡ old ++ f x → new ≡ flat_map f (xs ++ x ∷ [])
all_links_more f xs x old new e push = rw (push, e, flat_map-append) (ap (λ ys. flat_map f xs ++ ys) (sym (append-nil (f x))))
