-- The place of the first of each name, one name more.
use Rattle.sdd_certify.proofs.All.{Bor, List, None, Option, Some, [], ap, arith, bytes_eq, bytes_eq-Decides, cases_Bool, cond, false, get_or, is_at, is_eq-slice_cmp, is_some, length, length-map, length-take-le, map, map-append, nat_cmp, nat_tests, or_else, place_in, position_from, refl, slice_cmp, subst, sym, take, take_more, true, ℕ, ◌++◌, ◌+◌, ◌<◌, ◌∙◌, ◌∷◌, ◌≡◌, ◌≤◌}

abbrev Here : List ℕ → ℕ → List ℕ → Option ℕ
Here last place name = cond (bytes_eq name last) (Some place) None

place_more : (first : ℕ) (names : List (List ℕ)) (last name : List ℕ)
    → position_from (bytes_eq name) first (names ++ last ∷ []) ≡ or_else (position_from (bytes_eq name) first names) (Here last (first + length names) name)
place_more first [] last name = let none : first + 0 ≡ first = omega arith in rw none refl
place_more first (other ∷ names) last name = grind (arith, nat_tests, bytes_eq, position_from, Here, (place_more (first + 1) names last name))

abbrev pub Found : (List ℕ → Option ℕ) → List (List ℕ) → Type 0
Found made names = (name : List ℕ) → made name ≡ place_in names name

some_stays : {A : Type 0} (o p : Option A) → is_some o ≡ true → or_else o p ≡ o
some_stays o p e = grind (arith, nat_tests)

or_second : {A : Type 0} (o p : Option A) → is_some o ≡ false → or_else o p ≡ p
or_second o p e = grind (arith, nat_tests)

-- a name that has a place
known_name : (names : List (List ℕ)) (last : List ℕ) (made : List ℕ → Option ℕ) → is_some (made last) ≡ true → Found made names
    → Found made (names ++ last ∷ [])
known_name names last made has old name = grind (arith, cases_Bool, bytes_eq, bytes_eq-Decides, is_some, place_more, some_stays, Here, nat_tests)

-- a new name
new_name : (names : List (List ℕ)) (last : List ℕ) (made new : List ℕ → Option ℕ) (place : ℕ) → place ≡ 1 + length names → is_some (made last) ≡ false
    → ((name : List ℕ) → new name ≡ cond (is_at (slice_cmp nat_cmp last) name) (Some place) (made name)) → Found made names
    → Found new (names ++ last ∷ [])
new_name names last made new place is absent updates old name =
    grind (arith, Here, bytes_eq, is_eq-slice_cmp, cases_Bool, bytes_eq-Decides, is_some, place_more, or_second, nat_tests)

-- the names up to the next place
pub lent_more : (names : List (Bor (List ℕ))) (i : ℕ) (d : Bor (List ℕ)) → i < length names
    → map (λ t. t.now) (take (i + 1) names) ≡ map (λ t. t.now) (take i names) ++ (get_or names i d).now ∷ []
lent_more names i d lt =
    ap (map (λ (u : Bor (List ℕ)). u.now)) (take_more names i d lt) ∙ map-append (λ (u : Bor (List ℕ)). u.now) (take i names) (get_or names i d ∷ [])

-- one step of the loop, where the name has a place
pub known_step : (names : List (Bor (List ℕ))) (i : ℕ) (d : Bor (List ℕ)) (key : List ℕ) (made : List ℕ → Option ℕ)
    → i < length names → key ≡ (get_or names i d).now
    → is_some (made key) ≡ true → Found made (map (λ t. t.now) (take i names)) → Found made (map (λ t. t.now) (take (i + 1) names))
known_step names i d key made lt same has old =
    let there = subst (λ (n : List ℕ). is_some (made n) ≡ true) same has in
    subst (Found made) (sym (lent_more names i d lt)) (known_name (map (λ (t : Bor (List ℕ)). t.now) (take i names)) (get_or names i d).now made there old)

-- and where it has none yet
pub new_step : (names : List (Bor (List ℕ))) (i : ℕ) (d : Bor (List ℕ)) (key : List ℕ) (made new : List ℕ → Option ℕ)
    → i < length names → key ≡ (get_or names i d).now → is_some (made key) ≡ false
    → ((name : List ℕ) → new name ≡ cond (is_at (slice_cmp nat_cmp key) name) (Some (i + 1)) (made name))
    → Found made (map (λ t. t.now) (take i names)) → Found new (map (λ t. t.now) (take (i + 1) names))
new_step names i d key made new lt same absent updates old =
    let nothing = subst (λ (n : List ℕ). is_some (made n) ≡ false) same absent in
    let now = subst (λ (n : List ℕ). (name : List ℕ) → new name ≡ cond (is_at (slice_cmp nat_cmp n) name) (Some (i + 1)) (made name)) same updates in
    let long : length (map (λ (t : Bor (List ℕ)). t.now) (take i names)) ≡ i =
    length-map (take i names) (λ (t : Bor (List ℕ)). t.now) ∙ length-take-le i names (let le : i ≤ length names = omega arith in le) in
    let count : i + 1 ≡ 1 + length (map (λ (t : Bor (List ℕ)). t.now) (take i names)) = omega (arith, long) in
    subst (Found new) (sym (lent_more names i d lt))
    (new_name (map (λ (t : Bor (List ℕ)). t.now) (take i names)) (get_or names i d).now made new (i + 1) count nothing now old)
