-- One item more of a list that is gone through.
use Rattle.sdd_links.proofs.All.{List, Option, [], append_assoc, arith, cons_option, drop, drop-cons, enumerate_from, filter_map, flat_map, get_or, length, ℕ, ◌++◌, ◌+◌, ◌<◌, ◌∷◌, ◌≡◌}

drop_next : {X : Type 0} (xs : List X) (i : ℕ) (x : X) → i < length xs → x ≡ get_or xs i x → drop i xs ≡ x ∷ drop (i + 1) xs
drop_next xs i x l is = grind (arith, drop-cons)

pub item_more : {X A : Type 0} (f : X → List A) (xs : List X) (i : ℕ) (x : X) (old new all : List A) → i < length xs → x ≡ get_or xs i x
    → old ++ flat_map f (drop i xs) ≡ all → new ≡ old ++ f x → new ++ flat_map f (drop (i + 1) xs) ≡ all
item_more f xs i x old new all l is before now = grind (arith, append_assoc, drop_next)

pub numbered_more : {X A : Type 0} (f : ℕ × X → List A) (xs : List X) (i : ℕ) (x : X) (old new all : List A) → i < length xs
    → x ≡ get_or xs i x → old ++ flat_map f (enumerate_from i (drop i xs)) ≡ all → new ≡ old ++ f (i, x)
    → new ++ flat_map f (enumerate_from (i + 1) (drop (i + 1) xs)) ≡ all
numbered_more f xs i x old new all l is before now = grind (arith, append_assoc, drop_next)

-- the same for items that may give one
pub option_more : {X A : Type 0} (f : X → Option A) (xs : List X) (i : ℕ) (x : X) (old new all : List A) → i < length xs → x ≡ get_or xs i x
    → old ++ filter_map f (drop i xs) ≡ all → new ≡ old ++ cons_option (f x) [] → new ++ filter_map f (drop (i + 1) xs) ≡ all
option_more f xs i x old new all l is before now = grind (arith, append_assoc, drop_next)
