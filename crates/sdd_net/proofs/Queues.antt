-- The lists of a mailbox, of which one changes.
use Rattle.sdd_net.proofs.All.{Bool, IsLowest, IsTrue, IsWithin, List, Mailbox, MatchOption, None, OnErr, Option, Result, Site, Some, TakesFirst, TakesMessage, [], ap, arith, empty_boxes, empty_mailbox, false, get_or, get_or as slice_index_or, get_or-map, get_or-set_other, get_or-set_same, is_site, length, length-set, map, map-set, map-set_same, nat_tests, nil_from_length, option_to_list, place_of, replicate, slice_set, suc, sym, total, ℕ, ◌++◌, ◌+◌, ◌<◌, ◌∙◌, ◌∷◌, ◌≡◌, ◌≤◌}

pub map_index : {A B : Type 0} (f : A → B) (xs : List A) (i : ℕ) (x : A) (d : B) → i < length xs → x ≡ get_or xs i x
    → slice_index_or (map f xs) i d ≡ f x
map_index f xs i x d l e = get_or-map f xs i x d l ∙ ap f (sym e)

-- one list with an item at its end
pub pushed : {A B : Type 0} (f : A → List B) (xs : List A) (i : ℕ) (x y : A) (item : B) → i < length xs → x ≡ get_or xs i x
    → f y ≡ f x ++ item ∷ []
    → map f (slice_set xs i y) ≡ slice_set (map f xs) i (slice_index_or (map f xs) i [] ++ item ∷ [])
pushed f xs i x y item l e g = rw (map_index f xs i x [] l e) (map-set f xs i y ∙ ap (λ z. slice_set (map f xs) i z) g)

-- one list stays as it was
pub all_stay : {A B : Type 0} (f : A → List B) (xs : List A) (i : ℕ) (x y : A) → i < length xs → x ≡ get_or xs i x → f y ≡ f x
    → map f (slice_set xs i y) ≡ map f xs
all_stay f xs i x y l e g = map-set_same f xs i y x (g ∙ ap f e)

pub on_err : {P E T : Type 0} (r : Result T E) → P → OnErr r P
on_err r p = grind (arith, nat_tests)

-- what taking the first item of one list leaves
abbrev pub Popped : {A M : Type 0} → (A → List M) → List A → List A → ℕ → Option M → Type 0
Popped f xs ys i None = (map f ys ≡ map f xs) × (slice_index_or (map f xs) i [] ≡ [])
Popped {M = M} f xs ys i (Some m) = (rest : List M) × (slice_index_or (map f xs) i [] ≡ m ∷ rest) × (map f ys ≡ slice_set (map f xs) i rest)

pub popped : {A M : Type 0} (f : A → List M) (xs : List A) (i : ℕ) (x y : A) (o : Option M) → i < length xs → x ≡ get_or xs i x
    → f x ≡ option_to_list o ++ f y → (o ≡ None → f x ≡ [])
    → Popped f xs (slice_set xs i y) i o
popped f xs i x y None l e g n = grind (arith, map-set_same, map_index)
popped f xs i x y (Some m) l e g n = (f y, map_index f xs i x [] l e ∙ g, map-set f xs i y)

pub no_items : {A : Type 0} (xs : List A) (n : ℕ) → n ≡ length xs → n ≡ 0 → xs ≡ []
no_items xs n e f = nil_from_length xs (sym e ∙ f)

pub by_cases : {M : Type 0} (o : Option M) (P Q : Type 0) (R : M → Type 0) → MatchOption o P R → (P → Q) → o ≡ None → Q
by_cases o P Q R h f e = grind (arith, nat_tests)

pub match_popped : {A M : Type 0} (f : A → List M) (xs ys : List A) (i : ℕ) (o : Option M) → Popped f xs ys i o
    → MatchOption o ((map f ys ≡ map f xs) × (slice_index_or (map f xs) i [] ≡ []))
    (λ m. (rest : List M) × (slice_index_or (map f xs) i [] ≡ m ∷ rest) × (map f ys ≡ slice_set (map f xs) i rest))
match_popped f xs ys i o h = grind (arith, nat_tests)

-- the whole mailbox

pub filled : {M : Type 0} (queues : List (List M)) (k tms dms : ℕ) → queues ≡ replicate k [] → k ≤ 1 + tms + dms → 1 + tms + dms ≤ k
    → record { down = false; tms = tms; queues = queues } ≡ empty_mailbox tms dms
filled queues k tms dms e l m =
    let s : k ≡ suc (tms + dms) = omega (arith, l, m) in
    ap (λ qs. record { down = false; tms = tms; queues = qs }) (e ∙ ap (λ j. replicate j []) s)

pub all_empty : {M : Type 0} (boxes : List (Mailbox M)) (k tms dms : ℕ) → boxes ≡ replicate k (empty_mailbox tms dms) → k ≤ 1 + tms + dms
    → 1 + tms + dms ≤ k → record { tms = tms; boxes = boxes } ≡ empty_boxes tms dms
all_empty boxes k tms dms e l m =
    let s : k ≡ suc (tms + dms) = omega (arith, l, m) in
    ap (λ bs. record { tms = tms; boxes = bs }) (e ∙ ap (λ j. replicate j (empty_mailbox tms dms)) s)

-- a site of the network has its place among as many as there are sites
pub site_placed : (tms dms : ℕ) (x : Site) → IsTrue (is_site tms dms x) → IsWithin (suc (tms + dms)) (place_of tms x)
site_placed tms dms x h = grind (arith, nat_tests)

total_set : {M : Type 0} (queues : List (List M)) (i : ℕ) (item : M) (rest : List M) → i < length queues → slice_index_or queues i [] ≡ item ∷ rest
    → suc (total (slice_set queues i rest)) ≡ total queues
total_set (q ∷ queues) (suc i) item rest l e = let n = total_set queues i item rest (omega arith) e in omega (arith, n)
total_set _ _ item rest l e = grind (arith, nat_tests)

pub takes : {M : Type 0} (down : Bool) (tms : ℕ) (old new : List (List M)) (from : Site) (place : ℕ) (msg : M) → place_of tms from ≡ Some place
    → TakesFirst old new place msg
    → TakesMessage (record { down = down; tms = tms; queues = old }) (record { down = down; tms = tms; queues = new }) from msg
    × IsLowest (record { down = down; tms = tms; queues = old }) from
takes {M = M} down tms old new from place msg at t =
    grind (arith, length-set, slice_index_or, get_or-set_same, total_set, get_or-set_other, nat_tests)
