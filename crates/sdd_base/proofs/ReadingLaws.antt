-- What a reading that came to no fault says, and a reading of each member of a list as a loop makes it.
use Rattle.sdd_base.proofs.All.{Bool, Err, Fails, List, None, Ok, Option, Result, Some, [], along, ap, append-nil, append_assoc, arith, drop, drop_all, drop_more, get_or, length, map, must, nat_tests, refl, require, subst, sym, true, ℕ, ◌++◌, ◌+◌, ◌<◌, ◌>>=◌, ◌∙◌, ◌∷◌, ◌≡◌, ◌≤◌}

abbrev done : {A F : Type 0} → A → Result A F
done x = Ok x

pub ok_is : {A F : Type 0} (x y : A) → done {F = F} x ≡ done {F = F} y → x ≡ y
ok_is x y e = cc

-- of two readings that come to no fault the first gives a value
pub bind_ok : {A B F : Type 0} (r : Result A F) (f : A → Result B F) (y : B) → (r >>= f) ≡ Ok y → (x : A) × (r ≡ Ok x) × (f x ≡ Ok y)
bind_ok r f y e = grind (arith, nat_tests)

pub require_ok : {A F : Type 0} (fault : F) (o : Option A) (x : A) → require fault o ≡ Ok x → o ≡ Some x
require_ok fault None x e = absurd cc
require_ok {F = F} fault (Some y) x e = ap (λ z. Some z) (ok_is {F = F} y x e)

pub must_ok : {F : Type 0} (fault : F) (b : Bool) (u : Unit {0}) → must fault b ≡ Ok u → b ≡ true
must_ok fault b u e = grind (arith, nat_tests)

-- the fault of the first reading is that of both
pub fails_bind : {E A B F : Type 0} (fault_in : E → Option F) (e : E) (r : Result A F) (f : A → Result B F) → Fails fault_in e r
    → Fails fault_in e (r >>= f)
fails_bind fault_in e r f h = grind (arith, nat_tests)

-- each member has its answer
abbrev pub Answers : {A B F : Type 0} → (ℕ → A → Result B F) → ℕ → List A → List B → Type 0
Answers f number [] [] = Unit {0}
Answers f number (x ∷ xs) (y ∷ ys) = (f number x ≡ Ok y) × Answers f (number + 1) xs ys
Answers f number _ _ = ⊥

pub along_ok : {A B F : Type 0} (f : ℕ → A → Result B F) (number : ℕ) (xs : List A) (ys : List B) → along f number xs ≡ Ok ys
    → Answers f number xs ys
along_ok f number [] [] e = tt
along_ok {B = B} {F = F} f number [] (y ∷ ys) e = let n : List B = [] in let p : n ≡ y ∷ ys = ok_is {F = F} n (y ∷ ys) e in absurd cc
along_ok {F = F} f number (x ∷ xs) ys e =
    let a = bind_ok (f number x) (λ y. along f (number + 1) xs >>= λ ys. Ok (y ∷ ys)) ys e in
    let b = bind_ok (along f (number + 1) xs) (λ ys. Ok (a.0 ∷ ys)) ys a.2 in
    rw (← ok_is {F = F} (a.0 ∷ b.0) ys b.2) (a.1, along_ok f (number + 1) xs b.0 b.1)

pub ok_along : {A B F : Type 0} (f : ℕ → A → Result B F) (number : ℕ) (xs : List A) (ys : List B) → Answers f number xs ys
    → along f number xs ≡ Ok ys
ok_along f number (x ∷ xs) (y ∷ ys) h = let a = h.0 in let b = ok_along f (number + 1) xs ys h.1 in rw (a, b) refl
ok_along f number _ _ h = grind (arith, nat_tests)

-- A loop over a list: what was read before, and what is still read.
abbrev pub with_front : {B F : Type 0} → List B → Result (List B) F → Result (List B) F
with_front front reading = reading >>= (λ ys. Ok (front ++ ys))

-- one more member at the front's end
regroup : {B F : Type 0} (front : List B) (y : B) (reading : Result (List B) F)
    → with_front front (reading >>= (λ ys. Ok (y ∷ ys))) ≡ with_front (front ++ y ∷ []) reading
regroup front y (Ok ys) = ap (λ zs. Ok zs) (simp append_assoc)
regroup front y (Err fault) = refl

-- the first member that is left
at_drop : {V A B F : Type 0} (view : V → A) (f : ℕ → A → Result B F) (xs : List V) (i number : ℕ) (x : V) → i < length xs → x ≡ get_or xs i x
    → along f number (map view (drop i xs)) ≡ (f number (view x) >>= (λ y. along f (number + 1) (map view (drop (i + 1) xs)) >>= (λ ys. Ok (y ∷ ys))))
at_drop view f xs i number x lt is = ap (λ l. along f number (map view l)) (drop_more xs i x lt ∙ ap (λ z. z ∷ drop (i + 1) xs) (sym is))

-- a member that is read goes to the front
pub goes_on : {V A B F : Type 0} (view : V → A) (f : ℕ → A → Result B F) (total : Result (List B) F) (front : List B)
    (xs : List V) (i number : ℕ) (x : V) (y : B) → i < length xs → x ≡ get_or xs i x → f number (view x) ≡ Ok y
    → with_front front (along f number (map view (drop i xs))) ≡ total
    → with_front (front ++ y ∷ []) (along f (number + 1) (map view (drop (i + 1) xs))) ≡ total
goes_on view f total front xs i number x y lt is h so_far =
    let one = ap (with_front front)
    (at_drop view f xs i number x lt is ∙ ap (λ r. r >>= (λ y. along f (number + 1) (map view (drop (i + 1) xs)) >>= (λ ys. Ok (y ∷ ys)))) h) in
    sym (one ∙ regroup front y (along f (number + 1) (map view (drop (i + 1) xs)))) ∙ so_far

-- the fault of a member is that of all
pub ends : {E V A B F : Type 0} (fault_in : E → Option F) (view : V → A) (f : ℕ → A
    → Result B F) (total : Result (List B) F) (e : E) (front : List B) (xs : List V) (i number : ℕ) (x : V)
    → i < length xs → x ≡ get_or xs i x → Fails fault_in e (f number (view x))
    → with_front front (along f number (map view (drop i xs))) ≡ total → Fails fault_in e total
ends {B = B} {F = F} fault_in view f total e front xs i number x lt is h so_far =
    let here = fails_bind fault_in e (f number (view x)) (λ y. along f (number + 1) (map view (drop (i + 1) xs)) >>= (λ ys. Ok (y ∷ ys))) h in
    let left : Fails fault_in e (along f number (map view (drop i xs))) = subst (λ (r : Result (List B) F). Fails fault_in e r)
    (sym (at_drop view f xs i number x lt is)) here in
    subst (λ (r : Result (List B) F). Fails fault_in e r) so_far (fails_bind fault_in e (along f number (map view (drop i xs))) (λ ys. Ok (front ++ ys)) left)

-- where no member is left, all are read
pub is_done : {V A B F : Type 0} (view : V → A) (f : ℕ → A → Result B F) (total : Result (List B) F) (front : List B) (xs : List V) (i number : ℕ)
    → length xs ≤ i
    → with_front front (along f number (map view (drop i xs))) ≡ total → total ≡ Ok front
is_done view f total front xs i number past so_far = grind (arith, nat_tests, drop_all, append-nil)
