-- Lists by class: what stands at a class of a list that is made over a range, and of one of which an element was changed.
use Rattle.sdd_rules.proofs.All.{Bool, List, None, Option, Some, [], ap, arith, false, filter, first_some, length, list_all, list_any, map, nat_tests, or_else, range_with_len, refl, slice_index_or, suc, sym, true, update, zero, ℕ, ◌+◌, ◌<◌, ◌==◌, ◌||◌, ◌∙◌, ◌∷◌, ◌≡◌, ◌≢◌, ◌≤◌}

-- an element of a changed list

pub at_own : {A : Type 0} (f : A → A) (xs : List A) (k : ℕ) (d : A) → k < length xs → slice_index_or (update k f xs) k d ≡ f (slice_index_or xs k d)
at_own f [] k d h = absurd (omega arith)
at_own f (x ∷ xs) zero d h = refl
at_own f (x ∷ xs) (suc k) d h = at_own f xs k d (omega arith)

pub at_other : {A : Type 0} (f : A → A) (xs : List A) (k c : ℕ) (d : A) → c ≢ k → slice_index_or (update k f xs) c d ≡ slice_index_or xs c d
at_other f (x ∷ xs) zero zero d h = absurd (h refl)
at_other f (x ∷ xs) (suc k) (suc c) d h = at_other f xs k c d (λ e. h (ap suc e))
at_other f _ _ _ d h = refl

-- equal numbers or not

pub same_number : (a b : ℕ) → a ≡ b → (a == b) ≡ true
same_number a b e = grind (arith, nat_tests)

pub other_number : (a b : ℕ) → b ≢ a → (a == b) ≡ false
other_number a b h = grind (arith, nat_tests)

pub number_is : (a b : ℕ) → (a == b) ≡ true → a ≡ b
number_is a b h = grind (arith, nat_tests)

pub number_not : (a b : ℕ) → (a == b) ≡ false → b ≢ a
number_not a b h e = let t = same_number a b (sym e) in absurd cc

-- at class k, or at another
pub by_class : (P : ℕ → Type 0) (k c : ℕ) → P k → (c ≢ k → P c) → P c
by_class P k c own other = grind arith

-- an element of a list that is made over a range

pub at_range : {A : Type 0} (f : ℕ → A) (a n c : ℕ) (d : A) → c < n → slice_index_or (map f (range_with_len a n)) c d ≡ f (a + c)
at_range f a zero c d h = absurd (omega arith)
at_range f a (suc n) zero d h = let e : a + 0 ≡ a = omega arith in sym (ap f e)
at_range f a (suc n) (suc c) d h = let e : (a + 1) + c ≡ a + suc c = omega arith in at_range f (a + 1) n c d (omega arith) ∙ ap f e

pub past_range : {A : Type 0} (f : ℕ → A) (a n c : ℕ) (d : A) → n ≤ c → slice_index_or (map f (range_with_len a n)) c d ≡ d
past_range f a zero c d h = refl
past_range f a (suc n) zero d h = absurd (omega arith)
past_range f a (suc n) (suc c) d h = past_range f (a + 1) n c d (omega arith)

pub past : {A : Type 0} (xs : List A) (c : ℕ) (d : A) → length xs ≤ c → slice_index_or xs c d ≡ d
past [] c d h = refl
past (x ∷ xs) zero d h = absurd (omega arith)
past (x ∷ xs) (suc c) d h = past xs c d (omega arith)

-- tests over a list, and over a range

pub any_map : {A B : Type 0} (f : B → Bool) (g : A → B) (xs : List A) → list_any f (map g xs) ≡ list_any (λ x. f (g x)) xs
any_map f g [] = refl
any_map f g (x ∷ xs) = ap (λ b. f (g x) || b) (any_map f g xs)

pub any_range : (f g : ℕ → Bool) (a n : ℕ) → ((c : ℕ) → c < a + n → f c ≡ g c)
    → list_any f (range_with_len a n) ≡ list_any g (range_with_len a n)
any_range f g a zero h = refl
any_range f g a (suc n) h = rw (h a (omega arith), any_range f g (a + 1) n (λ c l. h c (omega arith))) refl

pub all_same : {A : Type 0} (f g : A → Bool) (xs : List A) → ((x : A) → f x ≡ g x) → list_all f xs ≡ list_all g xs
all_same f g xs h = grind arith

pub filter_same : {A : Type 0} (f g : A → Bool) (xs : List A) → ((x : A) → f x ≡ g x) → filter f xs ≡ filter g xs
filter_same f g xs h = grind arith

-- the first of a list

pub first_map : {A B C : Type 0} (f : B → Option C) (g : A → B) (xs : List A) → first_some f (map g xs) ≡ first_some (λ x. f (g x)) xs
first_map f g [] = refl
first_map f g (x ∷ xs) = ap (or_else (f (g x))) (first_map f g xs)

pub first_none : {A B : Type 0} (f : A → Option B) (xs : List A) → ((x : A) → f x ≡ None) → first_some f xs ≡ None
first_none f [] h = refl
first_none f (x ∷ xs) h = rw (h x, first_none f xs h) refl

pub first_range : {B : Type 0} (f g : ℕ → Option B) (a n : ℕ) → ((c : ℕ) → c < a + n → f c ≡ g c)
    → first_some f (range_with_len a n) ≡ first_some g (range_with_len a n)
first_range f g a zero h = refl
first_range f g a (suc n) h = rw (h a (omega arith), first_range f g (a + 1) n (λ c l. h c (omega arith))) refl

-- where it is there at one class alone
pub only_at : {B : Type 0} (f : ℕ → Option B) (a n k : ℕ) (x : B) → k < n → f (a + k) ≡ Some x → ((c : ℕ) → c ≢ a + k → f c ≡ None)
    → first_some f (range_with_len a n) ≡ Some x
only_at f a zero k x l e o = absurd (omega arith)
only_at f a (suc n) zero x l e o = grind arith
only_at f a (suc n) (suc k) x l e o = grind (arith, (only_at f (a + 1) n k x (omega arith)))

-- what is found first stands at one class
pub found_first : {B : Type 0} (f : ℕ → Option B) (P : B → Type 0) (a n : ℕ) (x : B) → ((c : ℕ) → c < a + n → f c ≡ Some x → P x)
    → first_some f (range_with_len a n) ≡ Some x → P x
found_first f P a zero x h e = cc
found_first f P a (suc n) x h e = grind (arith, or_else, first_some, range_with_len, (found_first f P (a + 1) n x (λ c l. h c (omega arith))))

-- one number up to another, or past it
pub split : (P : Type 0) (c n : ℕ) → (c ≤ n → P) → (n < c → P) → P
split P c n f g = grind arith

-- the same from class 0 on

pub at_classes : {A : Type 0} (f : ℕ → A) (n c : ℕ) (d : A) → c < n → slice_index_or (map f (range_with_len 0 n)) c d ≡ f c
at_classes f n c d h = let e : 0 + c ≡ c = omega arith in at_range f 0 n c d h ∙ ap f e

pub only_class : {B : Type 0} (f : ℕ → Option B) (n k : ℕ) (x : B) → k < n → f k ≡ Some x → ((c : ℕ) → c ≢ k → f c ≡ None)
    → first_some f (range_with_len 0 n) ≡ Some x
only_class f n k x l e o =
    let z : 0 + k ≡ k = omega arith in
    only_at f 0 n k x l (ap f z ∙ e) (λ c q. o c (λ r. q (r ∙ sym z)))

-- a test that one class passes
any_at : (f : ℕ → Bool) (a n k : ℕ) → k < n → f (a + k) ≡ true → list_any f (range_with_len a n) ≡ true
any_at f a zero k l e = absurd (omega arith)
any_at f a (suc n) zero l e = grind arith
any_at f a (suc n) (suc k) l e = grind (arith, any_at f (a + 1) n k)

pub any_class : (f : ℕ → Bool) (n k : ℕ) → k < n → f k ≡ true → list_any f (range_with_len 0 n) ≡ true
any_class f n k l e = let z : 0 + k ≡ k = omega arith in any_at f 0 n k l (ap f z ∙ e)
