-- The conditions on a writer rest on the diagonals between the reader and the writer alone.
use Rattle.sdd_protocol.proofs.All.{All, All-head, All-tail, Bool, Covers, DiagonalIndex, Edge, Entry, IsIndexOf, List, None, Option, Protocol, Some, [], ap, append-nil, arith, asked_by, asked_in, cases_Bool, cases_lt, cond_for, condition_on, condition_under, drop, drop_split, false, filter, filter-append, filter_map, find, get_or, get_or-drop, get_or-take, get_or_past, inl, inr, is_between, length, length-drop, length-take, nat_tests, option_and_then, option_map, protocol_between, range_of, refl, sym, take, take-append-drop, time_asked, true, ℕ, ◌++◌, ◌+◌, ◌-◌, ◌<◌, ◌∙◌, ◌∷◌, ◌≡◌, ◌≤◌}

-- a filter that nothing passes
filter_none : {X : Type 0} (p : X → Bool) (xs : List X) → All (λ x. p x ≡ false) xs → filter p xs ≡ []
filter_none p [] h = refl
filter_none p (x ∷ xs) h = rw (All-head (λ x. p x ≡ false) x xs h) (filter_none p xs (All-tail (λ x. p x ≡ false) x xs h))

-- a range that has all that pass a filter
pub filter_range : {X : Type 0} (p : X → Bool) (xs : List X) (a b : ℕ) → a ≤ b
    → ((k : ℕ) (d : X) → k < length xs → p (get_or xs k d) ≡ true → (a ≤ k) × (k < b))
    → filter p (take (b - a) (drop a xs)) ≡ filter p xs
filter_range p xs a b le h =
    let fails : (k : ℕ) (d : _) → k < length xs → ((a ≤ k) × (k < b) → ⊥) → p (get_or xs k d) ≡ false =
    λ k d l n. elim (cases_Bool (p (get_or xs k d))) [ inl t ↦ absurd (n (h k d l t)) | inr f ↦ f ] in
    let front : filter p (take a xs) ≡ [] =
    filter_none p (take a xs) (grind (arith, length-take, get_or-take)) in
    let back : filter p (drop b xs) ≡ [] =
    filter_none p (drop b xs) (grind (arith, length-drop, get_or-drop)) in
    let range = take (b - a) (drop a xs) in
    sym (append-nil (filter p range))
    ∙ ap (λ z. filter p range ++ z) (sym back)
    ∙ sym (filter-append p range (drop b xs))
    ∙ ap (λ z. filter p z) (sym (drop_split xs a b le))
    ∙ ap (λ z. z ++ filter p (drop a xs)) (sym front)
    ∙ sym (filter-append p (take a xs) (drop a xs))
    ∙ ap (λ z. filter p z) (take-append-drop a xs)

-- an edge that is covered and between two classes is in their range
covered_within : (index : DiagonalIndex) (i j k : ℕ) (e : Edge) → Covers index k e
    → is_between i j e ≡ true → ((range_of index i j).0 ≤ k) × (k < (range_of index i j).1)
covered_within index i j k e h t = grind (arith, nat_tests)

-- no range ends before it begins
range_in_order : (entries : List Entry) (count : ℕ) (index : DiagonalIndex)
    → IsIndexOf entries count index → (i j : ℕ) → (range_of index i j).0 ≤ (range_of index i j).1
range_in_order entries count index h i j = grind (arith, nat_tests, cases_lt, get_or_past)

-- the range for two classes has the diagonals between them
pub diagonals_in_range : (entries : List Entry) (index : DiagonalIndex)
    → IsIndexOf entries (length entries) index → (i j : ℕ)
    → filter (λ e. is_between i j e.edge) (take ((range_of index i j).1 - (range_of index i j).0) (drop (range_of index i j).0 entries)) ≡ filter
    (λ e. is_between i j e.edge) entries
diagonals_in_range entries index h i j =
    filter_range (λ e. is_between i j e.edge) entries (range_of index i j).0 (range_of index i j).1 (range_in_order entries (length entries) index h i j)
    (λ k d l t. covered_within index i j k (get_or entries k d).edge (h.covers k d l) t)

-- what an entry that has the protocol asks for is between
nothing_between : (protocol : Protocol) (test : ℕ → Bool) (i j : ℕ) (entry : Entry)
    → is_between i j entry.edge ≡ false → asked_in protocol test i j entry ≡ None
nothing_between protocol test i j entry t = grind (arith, nat_tests)

-- a list with the members that give something gives the same
filter_map-filter : {A B : Type 0} (f : A → Option B) (p : A → Bool) (xs : List A)
    → ((x : A) → p x ≡ false → f x ≡ None) → filter_map f (filter p xs) ≡ filter_map f xs
filter_map-filter f p [] h = refl
filter_map-filter f p (x ∷ xs) h = grind (arith, nat_tests, (filter_map-filter f p xs h))

-- lists with the same diagonals between the reader and the writer ask for the same fragments
asked_by-between : (protocol : Protocol) (test : ℕ → Bool) (xs ys : List Entry) (i j : ℕ)
    → filter (λ e. is_between i j e.edge) xs ≡ filter (λ e. is_between i j e.edge) ys
    → asked_by protocol test xs i j ≡ asked_by protocol test ys i j
asked_by-between protocol test xs ys i j e = grind (arith, nat_tests, nothing_between, filter_map-filter)

-- the first member that passes a test is the first of those that pass it
find-filter : {A : Type 0} (p : A → Bool) (xs : List A) → find p (filter p xs) ≡ find p xs
find-filter p [] = refl
find-filter p (x ∷ xs) = grind (arith, nat_tests, (find-filter p xs))

-- and have one protocol between the two
protocol_between-between : (xs ys : List Entry) (i j : ℕ)
    → filter (λ e. is_between i j e.edge) xs ≡ filter (λ e. is_between i j e.edge) ys
    → protocol_between xs i j ≡ protocol_between ys i j
protocol_between-between xs ys i j e =
    let between : Entry → Bool = λ x. is_between i j x.edge in
    ap (λ o. option_map (λ (x : Entry). x.protocol) o) (sym (find-filter between xs) ∙ ap (λ l. find between l) e ∙ find-filter between ys)

condition_under-between : (test : ℕ → Bool) (xs ys : List Entry) (i own p2 j : ℕ) (protocol : Protocol)
    → filter (λ e. is_between i j e.edge) xs ≡ filter (λ e. is_between i j e.edge) ys
    → condition_under test xs i own p2 j protocol ≡ condition_under test ys i own p2 j protocol
condition_under-between test xs ys i own p2 j protocol e =
    ap (λ frags. option_and_then (λ t. cond_for j t frags) (time_asked own p2 protocol)) (asked_by-between protocol test xs ys i j e)

each_then : {A B : Type 0} (f g : A → Option B) (o : Option A) → ((x : A) → f x ≡ g x) → option_and_then f o ≡ option_and_then g o
each_then f g None h = refl
each_then f g (Some x) h = h x

-- and set one condition
pub condition_on-between : (test : ℕ → Bool) (xs ys : List Entry) (i own p2 j : ℕ)
    → filter (λ e. is_between i j e.edge) xs ≡ filter (λ e. is_between i j e.edge) ys
    → condition_on test xs i own p2 j ≡ condition_on test ys i own p2 j
condition_on-between test xs ys i own p2 j e =
    each_then (condition_under test xs i own p2 j) (condition_under test ys i own p2 j) (protocol_between xs i j)
    (λ protocol. condition_under-between test xs ys i own p2 j protocol e)
    ∙ ap (λ o. option_and_then (condition_under test ys i own p2 j) o) (protocol_between-between xs ys i j e)
