-- Lists in which no item stands twice: names, and numbers.
use Rattle.sdd_script.proofs.All.{AreDistinct, Bool, List, Some, [], ap, arith, bytes_eq, bytes_eq-Decides, cases_lt, cond, eq-eqb, eqb, false, get_or, get_or as slice_index_or, get_or-append_right, get_or_append_left, has_name, is_some, length, length-append, list_any, ltb-false, ne_eqb, not, or_false, position, position_or_len, refl, repeats, subst, suc, sym, true, zero, ℕ, ◌++◌, ◌+◌, ◌-◌, ◌<◌, ◌==◌, ◌∙◌, ◌∷◌, ◌≡◌, ◌≢◌, ◌≤◌}
use Rattle.sdd_script.proofs.WordCuts.{NonePasses, position_again, no_position}

pub if_false : (a b : Bool) → cond a true b ≡ false → (a ≡ false) × (b ≡ false)
if_false a b e = grind arith

-- a test that no item passes

pub none_any : {A : Type 0} (p : A → Bool) (xs : List A) → list_any p xs ≡ false → NonePasses p xs
none_any p [] e = tt
none_any p (x ∷ xs) e = let h = or_false (p x) (list_any p xs) e in (h.0, none_any p xs h.1)

pub any_none : {A : Type 0} (p : A → Bool) (xs : List A) → NonePasses p xs → list_any p xs ≡ false
any_none p [] h = refl
any_none p (x ∷ xs) h = let a = h.0 in let b = any_none p xs h.1 in rw (a, b) refl

none_if : (b : Bool) (n m : ℕ) → suc n ≤ cond (not b) (1 + m) 0 → (b ≡ false) × (n ≤ m)
none_if b n m h = grind arith

past_none : {A : Type 0} (p : A → Bool) (xs : List A) → length xs ≤ position_or_len p xs → NonePasses p xs
past_none p [] h = tt
past_none p (x ∷ xs) h = let r = none_if (p x) (length xs) (position_or_len p xs) h in (r.0, past_none p xs r.1)

pub none_found : {A : Type 0} (p : A → Bool) (xs : List A) → is_some (position p xs) ≡ false → NonePasses p xs
none_found p xs e = past_none p xs (ltb-false (position_or_len p xs) (length xs) (grind arith))

pub found_none : {A : Type 0} (p : A → Bool) (xs : List A) → NonePasses p xs → is_some (position p xs) ≡ false
found_none p xs h = let e = no_position p xs h in rw e refl

-- ---- names

pub turned : (a b : List ℕ) → bytes_eq a b ≡ bytes_eq b a
turned a b = (grind (arith, bytes_eq-Decides))

pub differ_again : (a b : List ℕ) → bytes_eq a b ≡ false → bytes_eq b a ≡ false
differ_again a b e = turned b a ∙ e

none_more : {A : Type 0} (p : A → Bool) (xs : List A) (x : A) → NonePasses p xs → p x ≡ false → NonePasses p (xs ++ x ∷ [])
none_more p [] x h e = (e, tt)
none_more p (y ∷ xs) x h e = (h.0, none_more p xs x h.1 e)

in_middle : {A : Type 0} (p : A → Bool) (xs : List A) (x : A) (rest : List A) → NonePasses p (xs ++ x ∷ rest) → p x ≡ false
in_middle p [] x rest h = h.0
in_middle p (y ∷ xs) x rest h = in_middle p xs x rest h.1

split_at : (ns : List (List ℕ)) (i : ℕ) → i < length ns → (before : List (List ℕ))
    × (behind : List (List ℕ)) × (ns ≡ before ++ get_or ns i [] ∷ behind) × (length before ≡ i)
split_at [] i lt = absurd (omega arith)
split_at (n ∷ ns) zero lt = ([], ns, refl, refl)
split_at (n ∷ ns) (suc i) lt = let p = split_at ns i (omega arith) in (n ∷ p.0, p.1, ap (λ (l : List (List ℕ)). n ∷ l) p.2, ap suc p.3)

-- an item more

pub repeats_not : (ns : List (List ℕ)) (name : List ℕ) → repeats ns ≡ false → NonePasses (bytes_eq name) ns → repeats (ns ++ name ∷ []) ≡ false
repeats_not [] name e h = refl
repeats_not (n ∷ ns) name e h =
    let r = if_false (has_name ns n) (repeats ns) e in
    let other : NonePasses (bytes_eq n) (ns ++ name ∷ []) = none_more (bytes_eq n) ns name (none_any (bytes_eq n) ns r.0) (differ_again name n h.0) in
    let a : has_name (ns ++ name ∷ []) n ≡ false = any_none (bytes_eq n) (ns ++ name ∷ []) other in
    let b = repeats_not ns name r.1 h.1 in
    rw (a, b) refl

pub apart_before : (ns : List (List ℕ)) (name : List ℕ) (rest : List (List ℕ)) → repeats (ns ++ name ∷ rest) ≡ false
    → NonePasses (bytes_eq name) ns
apart_before [] name rest e = tt
apart_before (n ∷ ns) name rest e =
    let r = if_false (has_name (ns ++ name ∷ rest) n) (repeats (ns ++ name ∷ rest)) e in
    (differ_again n name (in_middle (bytes_eq n) ns name rest (none_any (bytes_eq n) (ns ++ name ∷ rest) r.0)), apart_before ns name rest r.1)

-- an item is found at its place
pub place_of_name : (ns : List (List ℕ)) (i : ℕ) → repeats ns ≡ false → i < length ns → position (bytes_eq (get_or ns i [])) ns ≡ Some i
place_of_name ns i e lt =
    let p = split_at ns i lt in
    let name : List ℕ = get_or ns i [] in
    let found : position (bytes_eq name) (p.0 ++ name ∷ p.1) ≡ Some (length p.0) =
    position_again (bytes_eq name) p.0 name p.1
    (apart_before p.0 name p.1 (subst (λ (l : List (List ℕ)). repeats l ≡ false) p.2 e))
    ((bytes_eq-Decides name name).1 refl) in
    ap (position (bytes_eq name)) p.2 ∙ found ∙ ap (λ (k : ℕ). Some k) p.3

-- ---- numbers

zero_of : (k n : ℕ) → k ≡ n → k - n ≡ 0
zero_of k n e = omega (arith, e)

not_at : (ns : List ℕ) (x i d : ℕ) → NonePasses (λ n. n == x) ns → i < length ns → get_or ns i d ≢ x
not_at [] x i d h lt e = omega arith
not_at (n ∷ ns) x zero d h lt e = let q : eqb n x ≡ true = eq-eqb n x e in let r : eqb n x ≡ false = h.0 in absurd cc
not_at (n ∷ ns) x (suc i) d h lt e = not_at ns x i d h.1 (omega arith) e

all_differ : (ns : List ℕ) (x : ℕ) → ((i : ℕ) → i < length ns → get_or ns i 0 ≡ x → ⊥) → NonePasses (λ n. n == x) ns
all_differ [] x h = tt
all_differ (n ∷ ns) x h = (ne_eqb n x (h 0 (omega arith)), all_differ ns x (λ i lt. h (suc i) (omega arith)))

pub distinct_more : (ns : List ℕ) (x : ℕ) → AreDistinct ns → NonePasses (λ n. n == x) ns → AreDistinct (ns ++ x ∷ [])
distinct_more ns x h other i k less within d =
    grind (arith, cases_lt, slice_index_or, get_or_append_left, length-append, get_or, get_or-append_right, zero_of, not_at)

pub apart_from : (ns : List ℕ) (x : ℕ) (rest : List ℕ) → AreDistinct (ns ++ x ∷ rest) → NonePasses (λ n. n == x) ns
apart_from ns x rest h = all_differ ns x (λ i lt e.
    let len : length (ns ++ x ∷ rest) ≡ length ns + length (x ∷ rest) = length-append ns (x ∷ rest) in
    let at : get_or (ns ++ x ∷ rest) (length ns) 0 ≡ x =
    get_or-append_right ns (x ∷ rest) (length ns) (length ns) 0 refl (omega arith)
    ∙ ap (λ (n : ℕ). get_or (x ∷ rest) n 0) (zero_of (length ns) (length ns) refl) in
    h i (length ns) lt (omega (arith, len)) 0 (get_or_append_left ns (x ∷ rest) 0 i lt ∙ e ∙ sym at))
