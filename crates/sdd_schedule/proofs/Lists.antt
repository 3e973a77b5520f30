-- Lists that grow by what a number or a record adds.
use Rattle.sdd_schedule.proofs.All.{Bool, List, None, Option, Some, [], ap, append_assoc, cond, each_more, false, filter, filter-append, filter_map, filter_map-append, flat_map, get_or, length, list_any, list_any-append, map, map-append, numbers_to, or-false, refl, sym, take, take_more, true, up_to, ℕ, ◌++◌, ◌+◌, ◌-◌, ◌<◌, ◌||◌, ◌∙◌, ◌∷◌, ◌≡◌, ◌≤◌}

kept-append : {A B : Type 0} (g : A → B) (p : A → Bool) (xs ys : List A) → map g (filter p (xs ++ ys)) ≡ map g (filter p xs) ++ map g (filter p ys)
kept-append g p xs ys = ap (map g) (filter-append p xs ys) ∙ map-append g (filter p xs) (filter p ys)

-- images of the numbers that pass: one number more
pub kept_to : {B : Type 0} (g : ℕ → B) (p : ℕ → Bool) (n : ℕ) (start old more : List B) → 1 ≤ n
    → more ≡ old ++ map g (filter p (n ∷ [])) → old ≡ start ++ map g (filter p (numbers_to (n - 1))) → more ≡ start ++ map g (filter p (numbers_to (n + 1 - 1)))
kept_to g p n start old more some e before =
    e ∙ ap (λ l. l ++ map g (filter p (n ∷ []))) before ∙ append_assoc start (map g (filter p (numbers_to (n - 1)))) (map g (filter p (n ∷ [])))
    ∙ ap (λ l. start ++ l) (sym (ap (λ ns. map g (filter p ns)) (up_to n some) ∙ kept-append g p (numbers_to (n - 1)) (n ∷ [])))

-- what each number adds: one number more
pub each_to : {B : Type 0} (f : ℕ → List B) (n : ℕ) (old more : List B) → 1 ≤ n → more ≡ old ++ f n → old ≡ flat_map f (numbers_to (n - 1))
    → more ≡ flat_map f (numbers_to (n + 1 - 1))
each_to f n old more some e before = each_more f (numbers_to (n - 1)) (numbers_to (n + 1 - 1)) n [] old more (up_to n some) before e

-- where a test passes one number more
pub passing : {B : Type 0} (g : ℕ → B) (p : ℕ → Bool) (n : ℕ) → p n ≡ true → map g (filter p (n ∷ [])) ≡ g n ∷ []
passing g p n e = ap (λ b. map g (cond b (n ∷ []) [])) e

pub failing : {B : Type 0} (g : ℕ → B) (p : ℕ → Bool) (n : ℕ) → p n ≡ false → map g (filter p (n ∷ [])) ≡ []
failing g p n e = ap (λ b. map g (cond b (n ∷ []) [])) e

-- what is chosen of one member
pub chosen : {A B : Type 0} (f : A → Option B) (a : A) (b : B) → f a ≡ Some b → filter_map f (a ∷ []) ≡ b ∷ []
chosen f a b e = rw e refl

pub not_chosen : {A B : Type 0} (f : A → Option B) (a : A) → f a ≡ None → filter_map f (a ∷ []) ≡ []
not_chosen f a e = rw e refl

pub none_chosen : {A B : Type 0} (f : A → Option B) (xs : List A) → ((a : A) → f a ≡ None) → filter_map f xs ≡ []
none_chosen f [] e = refl
none_chosen f (x ∷ xs) e = rw (e x) (none_chosen f xs e)

-- what is chosen of a list, one member more
pub chosen_more : {A B : Type 0} (f : A → Option B) (xs : List A) (i : ℕ) (x : A) (old more : List B) → i < length xs → x ≡ get_or xs i x
    → more ≡ old ++ filter_map f (x ∷ []) → old ≡ filter_map f (take i xs) → more ≡ filter_map f (take (i + 1) xs)
chosen_more f xs i x old more l is e before =
    e ∙ ap (λ k. k ++ filter_map f (x ∷ [])) before
    ∙ sym (ap (filter_map f) (take_more xs i x l ∙ ap (λ y. take i xs ++ y ∷ []) (sym is)) ∙ filter_map-append f (take i xs) (x ∷ []))

-- whether a member passes, one member more
or_turned : (a b : Bool) → (a || b) ≡ (b || a)
or_turned true true = refl
or_turned true false = refl
or_turned false true = refl
or_turned false false = refl

pub any_more : {A : Type 0} (p : A → Bool) (xs : List A) (i : ℕ) (x : A) (old new : Bool) → i < length xs → x ≡ get_or xs i x
    → new ≡ (p x || old) → old ≡ list_any p (take i xs) → new ≡ list_any p (take (i + 1) xs)
any_more p xs i x old new l is e before =
    e ∙ or_turned (p x) old ∙ ap (λ b. b || p x) before
    ∙ sym (ap (list_any p) (take_more xs i x l ∙ ap (λ y. take i xs ++ y ∷ []) (sym is))
    ∙ list_any-append p (take i xs) (x ∷ []) ∙ ap (λ b. list_any p (take i xs) || b) (or-false (p x)))
