-- A list cut at the first item that passes, both ways.
use Rattle.sdd_script.proofs.All.{Bool, List, None, Option, Plain, Quoted, Some, Word, [], add-one, after_first, ap, append_assoc, arith, before_first, before_point, behind_point, bytes_eq-Decides, cut_at, drop, drop-cons, drop_all, drop_at, eqb-true, false, get_or, has_point, is_key, is_point, is_some, length, length-append, nat_lt as ltb, place_if, position, position-Some, position_or_len, refl, sym, take, take-append-drop, take_all, take_at, true, ℕ, ◌++◌, ◌+◌, ◌<◌, ◌∙◌, ◌∷◌, ◌≡◌}

abbrev pub NonePasses : {A : Type 0} → (A → Bool) → List A → Type 0
NonePasses p [] = Unit {0}
NonePasses p (x ∷ xs) = (p x ≡ false) × NonePasses p xs

pub first_at : {A : Type 0} (p : A → Bool) (xs : List A) (x : A) (rest : List A) → NonePasses p xs → p x ≡ true
    → position_or_len p (xs ++ x ∷ rest) ≡ length xs
first_at p [] x rest h e = rw e refl
first_at p (y ∷ xs) x rest h e = let a = h.0 in let ih = first_at p xs x rest h.1 e in rw (a, ih) (omega arith)

pub before_again : {A : Type 0} (p : A → Bool) (xs : List A) (x : A) (rest : List A) → NonePasses p xs → p x ≡ true
    → before_first p (xs ++ x ∷ rest) ≡ xs
before_again p xs x rest h e = take_at xs (x ∷ rest) (position_or_len p (xs ++ x ∷ rest)) (sym (first_at p xs x rest h e))

pub after_again : {A : Type 0} (p : A → Bool) (xs : List A) (x : A) (rest : List A) → NonePasses p xs → p x ≡ true
    → after_first p (xs ++ x ∷ rest) ≡ rest
after_again p xs x rest h e =
    let n : length (xs ++ x ∷ []) ≡ position_or_len p (xs ++ x ∷ rest) + 1 = rw (first_at p xs x rest h e) (omega (arith, length-append xs (x ∷ []))) in
    cc (append_assoc xs (x ∷ []) rest, drop_at (xs ++ x ∷ []) rest (position_or_len p (xs ++ x ∷ rest) + 1) n)

pub from_again : {A : Type 0} (p : A → Bool) (xs : List A) (x : A) (rest : List A) → NonePasses p xs
    → p x ≡ true → drop (position_or_len p (xs ++ x ∷ rest)) (xs ++ x ∷ rest) ≡ x ∷ rest
from_again p xs x rest h e = drop_at xs (x ∷ rest) (position_or_len p (xs ++ x ∷ rest)) (sym (first_at p xs x rest h e))

pub position_again : {A : Type 0} (p : A → Bool) (xs : List A) (x : A) (rest : List A) → NonePasses p xs
    → p x ≡ true → position p (xs ++ x ∷ rest) ≡ Some (length xs)
position_again p xs x rest h e = grind (arith, first_at, length-append)

-- where none passes

pub none_at : {A : Type 0} (p : A → Bool) (xs : List A) → NonePasses p xs → position_or_len p xs ≡ length xs
none_at p [] h = refl
none_at p (y ∷ xs) h = let a = h.0 in let ih = none_at p xs h.1 in rw (a, ih) (omega arith)

pub no_position : {A : Type 0} (p : A → Bool) (xs : List A) → NonePasses p xs → position p xs ≡ None
no_position p xs h = grind (arith, none_at)

pub all_before : {A : Type 0} (p : A → Bool) (xs : List A) → NonePasses p xs → before_first p xs ≡ xs
all_before p xs h = take_all (position_or_len p xs) xs (omega (arith, none_at p xs h))

pub none_from : {A : Type 0} (p : A → Bool) (xs : List A) → NonePasses p xs → drop (position_or_len p xs) xs ≡ []
none_from p xs h = drop_all (position_or_len p xs) xs (omega (arith, none_at p xs h))

-- what is cut is joined again

pub joined_again : {A : Type 0} (p : A → Bool) (xs : List A) → before_first p xs ++ drop (position_or_len p xs) xs ≡ xs
joined_again p xs = take-append-drop (position_or_len p xs) xs

pub key_is_that : (key : List ℕ) (w : Word) → is_key key w ≡ true → w ≡ Plain key
key_is_that key w e = grind (arith, bytes_eq-Decides)

pub is_key_again : (key : List ℕ) → is_key key (Plain key) ≡ true
is_key_again key = (bytes_eq-Decides key key).1 refl

-- what is cut at a keyword is joined by it
pub key_cut : (key : List ℕ) (ws : List Word) (k : ℕ) → position (is_key key) ws ≡ Some k → ws ≡ take k ws ++ Plain key ∷ drop (k + 1) ws
key_cut key ws k e =
    let d : Word = Quoted [] in
    let p = position-Some (is_key key) ws k d e in
    let lt : k < length ws = p.0 in
    let is : get_or ws k d ≡ Plain key = key_is_that key (get_or ws k d) p.1 in
    sym (take-append-drop k ws) ∙ ap (λ l. take k ws ++ l) (rw (drop-cons ws k d, is, add-one) refl)

pub cut_takes : (key : List ℕ) (ws before behind : List Word) → cut_at key ws ≡ Some (before, behind) → ws ≡ before ++ Plain key ∷ behind
cut_takes key ws before behind e = (grind (arith, key_cut))

pub cut_again : (key : List ℕ) (before behind : List Word) → NonePasses (is_key key) before
    → cut_at key (before ++ Plain key ∷ behind) ≡ Some (before, behind)
cut_again key before behind h =
    let t : is_key key (Plain key) ≡ true = is_key_again key in
    let p = position_again (is_key key) before (Plain key) behind h t in
    let n : length (before ++ Plain key ∷ []) ≡ length before + 1 = omega (arith, length-append before (Plain key ∷ [])) in
    let a : take (length before) (before ++ Plain key ∷ behind) ≡ before = take_at before (Plain key ∷ behind) (length before) refl in
    let b : drop (length before + 1) (before ++ Plain key ∷ behind) ≡ behind =
    ap (λ (l : List Word). drop (length before + 1) l) (sym (append_assoc before (Plain key ∷ []) behind))
    ∙ drop_at (before ++ Plain key ∷ []) behind (length before + 1) n in
    rw (p, a, b) refl

-- points

pub no_point : (bytes : List ℕ) → NonePasses is_point bytes → has_point bytes ≡ false
no_point bytes h = let e = no_position is_point bytes h in rw e refl

point_if : (bytes : List ℕ) (o : Option ℕ) → position is_point bytes ≡ o → is_some o ≡ true
    → bytes ≡ before_point bytes ++ 46 ∷ behind_point bytes
point_if bytes None p e = absurd cc
point_if bytes (Some k) p e =
    let at = position-Some is_point bytes k 0 p in
    let is : get_or bytes k 0 ≡ 46 = eqb-true (get_or bytes k 0) 46 at.1 in
    let lt : k < length bytes = at.0 in
    let whole : bytes ≡ take k bytes ++ 46 ∷ drop (k + 1) bytes = sym (take-append-drop k bytes)
    ∙ ap (λ l. take k bytes ++ l) (rw (drop-cons bytes k 0, is, add-one) refl) in
    let place : position_or_len is_point bytes ≡ k = (place_if (ltb (position_or_len is_point bytes) (length bytes)) (position_or_len is_point bytes) k p) in
    rw place whole

pub point_cut : (bytes : List ℕ) → has_point bytes ≡ true → bytes ≡ before_point bytes ++ 46 ∷ behind_point bytes
point_cut bytes e = point_if bytes (position is_point bytes) refl e
