-- Groups, one pair after the other.
use Rattle.sdd_links.proofs.All.{List, None, [], ap, append-nil, arith, cases_eq, chain_after, chains, drop, drop_all, filter-append, flat_map, get_or, get_or as slice_index_or, get_or-map, get_or-map-range_with_len, get_or-set_other, get_or-set_same, group, groups, length, length-map, length-map-range_with_len, length-set, map, map-set, range_with_len, refl, replicate, same_lists, slice_set, slice_set as set, suc, sym, take, take_more, zero, ℕ, ◌++◌, ◌+◌, ◌<◌, ◌∙◌, ◌∷◌, ◌≡◌, ◌≤◌}

map-push : {X Y : Type 0} (f : X → Y) (xs : List X) (x : X) → map f (xs ++ x ∷ []) ≡ map f xs ++ f x ∷ []
map-push f [] x = refl
map-push f (y ∷ xs) x = ap (λ z. f y ∷ z) (map-push f xs x)

pub group_at : (pairs : List (ℕ × ℕ)) (count i : ℕ) (d : List ℕ) → i < count → get_or (groups pairs count) i d ≡ group pairs i
group_at pairs count i d l = get_or-map-range_with_len (group pairs) 0 count i i d l (omega arith)

pub groups_more : (pairs : List (ℕ × ℕ)) (count key number : ℕ) → key < count
    → slice_set (groups pairs count) key (slice_index_or (groups pairs count) key [] ++ number ∷ []) ≡ groups (pairs ++ (key, number) ∷ []) count
groups_more pairs count key number l = grind (arith, get_or, length-map-range_with_len, length-set, same_lists, cases_eq, get_or-set_same, group_at, filter-append, map-push, get_or-set_other, append-nil)

-- no pairs, empty groups
no_groups : (a n : ℕ) → map (group []) (range_with_len a n) ≡ replicate n []
no_groups a zero = refl
no_groups a (suc n) = ap (λ z. [] ∷ z) (no_groups (a + 1) n)

pub groups_of_none : (count : ℕ) → replicate count [] ≡ groups [] count
groups_of_none count = sym (no_groups 0 count)

pub groups_long : (pairs : List (ℕ × ℕ)) (count : ℕ) → length (groups pairs count) ≡ count
groups_long pairs count = length-map-range_with_len (group pairs) 0 count

-- the lists as they stand, and as they are seen
pub list_more : {V : Type 0} (items : V → List ℕ) (lists : List V) (now : List (List ℕ)) (key number : ℕ) (old new : V)
    → map items lists ≡ now → key < length now → old ≡ get_or lists key old → items new ≡ items old ++ number ∷ []
    → map items (set lists key new) ≡ set now key (get_or now key [] ++ number ∷ [])
list_more items lists now key number old new seen within is more = grind (arith, length-map, get_or, get_or-map, map-set)

pub groups_next : (pairs : List (ℕ × ℕ)) (count i : ℕ) (made new : List (List ℕ)) (d : ℕ × ℕ) → i < length pairs
    → (get_or pairs i d).0 < count → made ≡ groups (take i pairs) count
    → new ≡ slice_set made (get_or pairs i d).0 (slice_index_or made (get_or pairs i d).0 [] ++ (get_or pairs i d).1 ∷ [])
    → new ≡ groups (take (i + 1) pairs) count
groups_next pairs count i made new d h key old e =
    let pair = get_or pairs i d in
    e ∙ ap (λ m. slice_set m pair.0 (slice_index_or m pair.0 [] ++ pair.1 ∷ [])) old
    ∙ groups_more (take i pairs) count pair.0 pair.1 key
    ∙ ap (λ ps. groups ps count) (sym (take_more pairs i d h))

-- a pair whose key isn't there changes nothing
pub groups_past : (pairs : List (ℕ × ℕ)) (count i : ℕ) (d : ℕ × ℕ) → i < length pairs → count ≤ (get_or pairs i d).0
    → groups (take i pairs) count ≡ groups (take (i + 1) pairs) count
groups_past pairs count i d h past =
    let pair = get_or pairs i d in
    let old = groups (take i pairs) count in
    let more = take i pairs ++ (pair.0, pair.1) ∷ [] in
    same_lists old (groups more count) (groups_long (take i pairs) count ∙ sym (groups_long more count))
    (λ k e l.
    let within : k < count = omega (arith, l, groups_long (take i pairs) count) in
    group_at (take i pairs) count k e within
    ∙ sym (grind (arith, filter-append, append-nil))
    ∙ sym (group_at more count k e within))
    ∙ ap (λ ps. groups ps count) (sym (take_more pairs i d h))

over_map : {V : Type 0} (items : V → List ℕ) (vs : List V) → flat_map (λ v. chain_after None (items v)) vs ≡ chains (map items vs)
over_map items [] = refl
over_map items (v ∷ vs) = ap (λ l. chain_after None (items v) ++ l) (over_map items vs)

-- the chains of lists as they stand, and as they are seen
pub chains_of : {V : Type 0} (items : V → List ℕ) (slice lists : List V) (now : List (List ℕ)) (i : ℕ) (before after : List (ℕ × ℕ))
    → slice ≡ lists → map items lists ≡ now → length slice ≤ i
    → after ++ flat_map (λ v. chain_after None (items v)) (drop i slice) ≡ before ++ flat_map (λ v. chain_after None (items v)) slice
    → after ≡ before ++ chains now
chains_of items slice lists now i before after same seen past e = grind (arith, append-nil, drop_all, over_map)
