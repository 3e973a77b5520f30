-- The first finding of a list.
use Rattle.sdd_catalog.proofs.All.{Bool, CatRule, List, None, Option, Some, [], ap, arith, cond, drop, drop_all, drop_more, found_from, found_in, get_or, head_of, length, map, nat_tests, option_map, or_else, sym, take, take_more, when, ℕ, ◌++◌, ◌+◌, ◌<◌, ◌∙◌, ◌≡◌, ◌≤◌}

-- the first of two lists joined
pub head_of-append : {A : Type 0} (xs ys : List A) → head_of (xs ++ ys) ≡ or_else (head_of xs) (head_of ys)
head_of-append xs ys = grind (arith, nat_tests)

pub head_of_map : {A B : Type 0} (f : A → B) (xs : List A) → head_of (map f xs) ≡ option_map f (head_of xs)
head_of_map f xs = grind (arith, nat_tests)

-- a list with no first is empty
pub empty_of_head : {A : Type 0} (xs : List A) → head_of xs ≡ None → xs ≡ []
empty_of_head xs e = grind (arith, nat_tests)

pub head_of-when : (b : Bool) (rule : CatRule) → head_of (when b rule) ≡ cond b (Some rule) None
head_of-when b rule = grind (arith, nat_tests)

-- where nothing is found before an item with a finding, that is the first
pub found_here : {A B : Type 0} (f : List A → A → List B) (items : List A) (i : ℕ) (x : A) (y : B)
    → head_of (found_in f items) ≡ head_of (found_from f (take i items) (drop i items)) → x ≡ get_or items i x → i < length items
    → Some y ≡ head_of (f (take i items) x) → Some y ≡ head_of (found_in f items)
found_here f items i x y rest is within e = grind (arith, nat_tests, drop_more, head_of-append)

-- at an item with none, the first of the rest comes later
pub found_later : {A B : Type 0} (f : List A → A → List B) (items : List A) (i : ℕ) (x : A) → x ≡ get_or items i x → i < length items
    → head_of (f (take i items) x) ≡ None
    → head_of (found_from f (take i items) (drop i items)) ≡ head_of (found_from f (take (i + 1) items) (drop (i + 1) items))
found_later f items i x is within e = grind (arith, nat_tests, drop_more, take_more, head_of-append)

-- past the last item nothing is found
pub found_nowhere : {A B : Type 0} (f : List A → A → List B) (before items : List A) (i : ℕ) → length items ≤ i
    → head_of (found_from f before (drop i items)) ≡ None
found_nowhere f before items i past = ap (λ xs. head_of (found_from f before xs)) (drop_all i items past)

-- the first of two lists joined, where the first of the one is known
pub head_of_join : {A : Type 0} (xs ys : List A) (o : Option A) → o ≡ head_of xs → head_of (xs ++ ys) ≡ or_else o (head_of ys)
head_of_join xs ys o e = head_of-append xs ys ∙ ap (λ o. or_else o (head_of ys)) (sym e)
