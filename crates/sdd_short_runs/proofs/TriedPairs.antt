-- The pairs that are tried, one by one.
use Rattle.sdd_short_runs.proofs.All.{All, All-append, All-push, Bool, Contains, Contains-cases, Contains-here, Contains-later, Contains-nil, List, Member, [], and_from, and_parts, ap, append-nil, are_apart, arith, cond, false, filter, filter_more, flat_map_more, inl, inr, is_pair, length, length-append, length-map, lent, list_any, map, map-append, may_miss, miss_by, misses_by, misses_one, not, pairs_around, pairs_of, reads_from, refl, slice_index_or, subst, suc, sym, take, take-map, take_all, take_more, true, zero, ℕ, ◌&&◌, ◌++◌, ◌+◌, ◌-◌, ◌<◌, ◌∙◌, ◌∷◌, ◌≡◌, ◌≤◌}
use Rattle.std.specs.Borrow.{Bor}

-- where there is room, one more
with_room : {X : Type 0} (most : ℕ) (xs : List X) (x : X) → length (take most xs) < most → take most xs ++ x ∷ [] ≡ take most (xs ++ x ∷ [])
with_room zero xs x room = absurd (omega (arith, room))
with_room (suc zero) [] x room = refl
with_room (suc (suc n)) [] x room = refl
with_room (suc n) (y ∷ xs) x room = ap (λ z. y ∷ z) (with_room n xs x (omega (arith, room)))

-- and else no more
without_room : {X : Type 0} (most : ℕ) (xs more : List X) → (length (take most xs) < most → ⊥) → take most xs ≡ take most (xs ++ more)
without_room zero xs more full = refl
without_room (suc n) [] more full = absurd (full (omega arith))
without_room (suc n) (y ∷ xs) more full = ap (λ z. y ∷ z) (without_room n xs more (λ room. full (omega (arith, room))))

-- the first ones of a list, and of one behind it
take_append : {X : Type 0} (most : ℕ) (xs ys : List X) → take most (xs ++ ys) ≡ take most xs ++ take (most - length xs) ys
take_append zero xs ys =
    let none : zero ≡ zero - length xs = omega arith in
    ap (λ k. take k ys) none
take_append (suc n) [] ys =
    let all : suc n ≡ suc n - zero = omega arith in
    ap (λ k. take k ys) all
take_append (suc n) (x ∷ xs) ys =
    let one_less : n - length xs ≡ suc n - suc (length xs) = omega arith in
    ap (λ z. x ∷ z) (take_append n xs ys ∙ ap (λ k. take n xs ++ take k ys) one_less)

without_first : {X : Type 0} (left : ℕ) (xs : List X) → left - length (take left xs) ≡ left - length xs
without_first zero xs = omega arith
without_first (suc n) [] = refl
without_first (suc n) (x ∷ xs) = let rest = without_first n xs in omega (arith, rest)

-- tests of some member

passes : {X : Type 0} (p : X → Bool) (xs : List X) (x : X) → Contains xs x → p x ≡ true → list_any p xs ≡ true
passes p [] x there ok = absurd (Contains-nil x there)
passes p (y ∷ xs) x there ok =
    elim (Contains-cases y xs x there) [
      | inl e ↦ (let here = ap p (sym e) ∙ ok in grind (arith, here))
      | inr later ↦ (let rest = passes p xs x later ok in grind (arith, rest))
    ]

passing : {X : Type 0} (p : X → Bool) (xs : List X) → list_any p xs ≡ true → (x : X) × Contains xs x × (p x ≡ true)
passing p [] ok = cc
passing {X} p (y ∷ xs) ok = by (p y) refl (λ later. passing p xs later)
  where
    by : (b : Bool) → p y ≡ b → (list_any p xs ≡ true → (x : X) × Contains xs x × (p x ≡ true)) → (x : X) × Contains (y ∷ xs) x × (p x ≡ true)
    by true e go = (y, Contains-here y xs, e)
    by false e go = (let rest = go (grind (arith, e, ok)) in (rest.0, Contains-later y xs rest.0 rest.1, rest.2))

none_pass : {X : Type 0} (p : X → Bool) (xs : List X) → ((x : X) → Contains xs x → p x ≡ true → ⊥) → filter p xs ≡ []
none_pass p [] none = refl
none_pass p (y ∷ xs) none = by (p y) refl (none_pass p xs (λ x h. none x (Contains-later y xs x h)))
  where
    by : (b : Bool) → p y ≡ b → filter p xs ≡ [] → filter p (y ∷ xs) ≡ []
    by true e rest = absurd (none y (Contains-here y xs) e)
    by false e rest = grind (arith, e, rest)

-- one that misses no change makes no pair
misses : (all : List Member) (outer inner : Member) → Contains all inner → is_pair outer inner ≡ true → misses_one all outer.accesses ≡ true
misses all outer inner there pair =
    let both = and_parts (list_any (miss_by outer inner) outer.accesses) (not (are_apart outer.accesses inner.accesses)) pair in
    let read = passing (miss_by outer inner) outer.accesses both.0 in
    let missed = and_parts (reads_from read.0 inner.accesses) (may_miss inner.accesses outer.accesses read.0) read.2 in
    passes (misses_by all outer.accesses) outer.accesses read.0 read.1
    (passes (λ (m : Member). reads_from read.0 m.accesses && not (are_apart outer.accesses m.accesses)) all inner there
    (and_from (reads_from read.0 inner.accesses) (not (are_apart outer.accesses inner.accesses)) missed.0 both.1))

pub no_pairs : (all : List Member) (outer : Member) (most : ℕ) → false ≡ misses_one all outer.accesses → take most (filter (is_pair outer) all) ≡ []
no_pairs all outer most none = ap (take most) (none_pass (is_pair outer) all (λ m there pair. differ (none ∙ misses all outer m there pair))) ∙ nothing most
  where
    differ : ◌≡◌ {A = Bool} false true → ⊥
    differ e = cc

    nothing : (n : ℕ) → take {A = Member} n [] ≡ []
    nothing zero = refl
    nothing (suc n) = refl

-- pairs with the next outer one
pub pairs_more : (all : List Member) (i : ℕ) (x : Member) → i < length all → x ≡ slice_index_or all i x
    → pairs_of all (take (i + 1) all) ≡ pairs_of all (take i all) ++ pairs_around all x
pairs_more all i x l is =
    ap (pairs_of all) (take_more all i x l ∙ ap (λ z. take i all ++ z ∷ []) (sym is)) ∙ sym (flat_map_more (pairs_around all) [] (take i all) x)

pub left_more : (all : List Member) (i : ℕ) (x : Member) (most left left_then : ℕ) (inner : List (Bor Member)) → i < length all → x ≡ slice_index_or all i x
    → left ≡ most - length (pairs_of all (take i all)) → lent inner ≡ take left (filter (is_pair x) all) → left_then ≡ left - length inner
    → left_then ≡ most - length (pairs_of all (take (i + 1) all))
left_more all i x most left left_then inner l is before are then =
    let one = length-map inner (λ (m : Bor Member). m.now) in
    let two = ap length are in
    let three = without_first left (filter (is_pair x) all) in
    let four = length-map {B = Member × Member} (filter (is_pair x) all) (λ m. (x, m)) in
    let five = ap length (pairs_more all i x l is) ∙ length-append (pairs_of all (take i all)) (pairs_around all x) in
    omega (arith, before, then, one, two, three, four, five)

pub tried_more : (P : Member × Member → Type 0) (all : List Member) (i : ℕ) (x : Member) (most left : ℕ) (inner given : List (Bor Member)) → i < length all
    → x ≡ slice_index_or all i x → left ≡ most - length (pairs_of all (take i all)) → lent inner ≡ take left (filter (is_pair x) all) → given ≡ inner
    → All P (map (λ m. (x, m)) (lent given)) → All P (take most (pairs_of all (take i all))) → All P (take most (pairs_of all (take (i + 1) all)))
tried_more P all i x most left inner given l is before are same around done =
    subst (All P)
    (sym (ap (take most) (pairs_more all i x l is) ∙ take_append most (pairs_of all (take i all)) (pairs_around all x)
    ∙ ap (λ k. take most (pairs_of all (take i all)) ++ take k (pairs_around all x)) (sym before)
    ∙ ap (λ z. take most (pairs_of all (take i all)) ++ z) (take-map (λ m. (x, m)) left (filter (is_pair x) all))
    ∙ ap (λ z. take most (pairs_of all (take i all)) ++ map (λ m. (x, m)) z) (sym are ∙ ap lent (sym same))))
    (All-append P (take most (pairs_of all (take i all))) (map (λ m. (x, m)) (lent given)) done around)

-- the next inner one
pub around_more : (P : Member × Member → Type 0) (x : Member) (given : List (Bor Member)) (i : ℕ) (m : Member) → i < length (lent given)
    → slice_index_or (lent given) i m ≡ m → P (x, m) → All P (map (λ m. (x, m)) (take i (lent given))) → All P (map (λ m. (x, m)) (take (i + 1) (lent given)))
around_more P x given i m l is here before =
    subst (All P)
    (sym (ap (map (λ m. (x, m))) (take_more (lent given) i m l ∙ ap (λ z. take i (lent given) ++ z ∷ []) is)
    ∙ map-append (λ m. (x, m)) (take i (lent given)) (m ∷ [])))
    (All-push P (map (λ m. (x, m)) (take i (lent given))) (x, m) before here)

-- one that makes a pair, where there is room
pub inner_pushed : (p : Member → Bool) (all : List Member) (i : ℕ) (x : Member) (most : ℕ) (found : List (Bor Member)) → i < length all
    → x ≡ slice_index_or all i x → lent found ≡ take most (filter p (take i all)) → length found < most → p x ≡ true
    → lent found ++ x ∷ [] ≡ take most (filter p (take (i + 1) all))
inner_pushed p all i x most found l is before room pair =
    let long = length-map found (λ (m : Bor Member). m.now) in
    let same = ap length before in
    ap (λ z. z ++ x ∷ []) before ∙ with_room most (filter p (take i all)) x (omega (arith, long, same, room))
    ∙ ap (take most) (sym (filter_more p all i x l ∙ ap (λ z. filter p (take i all) ++ cond (p z) (z ∷ []) []) (sym is)
    ∙ ap (λ b. filter p (take i all) ++ cond b (x ∷ []) []) pair))

-- one that doesn't, or for which there is no room
pub inner_left_out : (p : Member → Bool) (all : List Member) (i : ℕ) (x : Member) (most : ℕ) (found : List (Bor Member)) → i < length all
    → x ≡ slice_index_or all i x → lent found ≡ take most (filter p (take i all)) → (length found < most → p x ≡ true → ⊥)
    → lent found ≡ take most (filter p (take (i + 1) all))
inner_left_out p all i x most found l is before out =
    before ∙ by (p x) refl ∙ ap (take most) (sym (filter_more p all i x l ∙ ap (λ z. filter p (take i all) ++ cond (p z) (z ∷ []) []) (sym is)))
  where
    long : length (lent found) ≡ length found
    long = length-map found (λ (m : Bor Member). m.now)

    by : (b : Bool) → p x ≡ b → take most (filter p (take i all)) ≡ take most (filter p (take i all) ++ cond (p x) (x ∷ []) [])
    by true e =
        let same = ap length before in
        without_room most (filter p (take i all)) (cond (p x) (x ∷ []) []) (λ room. out (omega (arith, long, same, room)) e)
    by false e = ap (take most) (sym (ap (λ b. filter p (take i all) ++ cond b (x ∷ []) []) e ∙ append-nil (filter p (take i all))))

pub inner_all : (p : Member → Bool) (all : List Member) (n most : ℕ) (found : List (Bor Member)) → length all ≤ n
    → lent found ≡ take most (filter p (take n all)) → lent found ≡ take most (filter p all)
inner_all p all n most found l are = are ∙ ap (λ z. take most (filter p z)) (take_all n all l)

-- all of them

pub around_all : (P : Member × Member → Type 0) (x : Member) (given : List (Bor Member)) (n : ℕ) → length (lent given) ≤ n
    → All P (map (λ m. (x, m)) (take n (lent given))) → All P (map (λ m. (x, m)) (lent given))
around_all P x given n l all = subst (λ z. All P (map (λ m. (x, m)) z)) (take_all n (lent given) l) all

pub tried_all : (P : Member × Member → Type 0) (all : List Member) (n most : ℕ) → length all ≤ n
    → All P (take most (pairs_of all (take n all))) → All P (take most (pairs_of all all))
tried_all P all n most l each = subst (λ z. All P (take most (pairs_of all z))) (take_all n all l) each
