-- Tests over stretches of numbers, and lists of messages.
use Rattle.sdd_control.proofs.All.{Bool, GONE, List, Message, None, OK, Some, VALUE, [], and_both, arith, cases_Bool, cases_lt, cond, drop, every_from, false, first_from, inl, inr, nat_tests, not, refl, subst, suc, sym, true, zero, ℕ, ◌&&◌, ◌++◌, ◌+◌, ◌<◌, ◌||◌, ◌∷◌, ◌≡◌, ◌≤◌, ◌⊎◌}

pub and_left : (a b : Bool) → (a && b) ≡ true → a ≡ true
and_left a b e = grind (arith, nat_tests)

pub and_right : (a b : Bool) → (a && b) ≡ true → b ≡ true
and_right a b e = grind (arith, nat_tests)

pub or_cases : (a b : Bool) → (a || b) ≡ true → (a ≡ true) ⊎ (b ≡ true)
or_cases a b e = grind (arith, nat_tests)

pub not_true : (a : Bool) → not a ≡ true → a ≡ false
not_true a e = grind (arith, nat_tests)

pub not_both : (a : Bool) → a ≡ true → a ≡ false → ⊥
not_both a p q = cc

pub every_at : (p : ℕ → Bool) (k n j : ℕ) → every_from p k n ≡ true → k ≤ j → j < k + n → p j ≡ true
every_at p k zero j e l m = absurd (omega arith)
every_at p k (suc n) j e l m =
    elim (cases_lt k j) [
      | inl h ↦ every_at p (k + 1) n j (and_right (p k) (every_from p (k + 1) n) e) (omega arith) (omega arith)
      | inr h ↦ let q : k ≡ j = omega arith in subst (λ z. p z ≡ true) q (and_left (p k) (every_from p (k + 1) n) e)
    ]

pub every_all : (p : ℕ → Bool) (k n : ℕ) → ((j : ℕ) → k ≤ j → j < k + n → p j ≡ true) → every_from p k n ≡ true
every_all p k zero h = refl
every_all p k (suc n) h = grind (arith, and_both, every_from, (every_all p (k + 1) n (λ j l m. h j (omega arith) (omega arith))))

pub first_at : (p : ℕ → Bool) (k n j : ℕ) → first_from p k n ≡ Some j → (k ≤ j) × (j < k + n) × (p j ≡ true)
first_at p k zero j e = absurd (cc)
first_at p k (suc n) j e = grind (arith, cases_Bool, first_from, (first_at p (k + 1) n j))

pub first_before : (p : ℕ → Bool) (k n j m : ℕ) → first_from p k n ≡ Some j → k ≤ m → m < j → p m ≡ false
first_before p k zero j m e l u = absurd (cc)
first_before p k (suc n) j m e l u = grind (arith, cases_Bool, first_from, cases_lt, (first_before p (k + 1) n j m))

pub none_at : (p : ℕ → Bool) (k n j : ℕ) → first_from p k n ≡ None → k ≤ j → j < k + n → p j ≡ false
none_at p k zero j e l m = absurd (omega arith)
none_at p k (suc n) j e l m = grind (arith, cases_Bool, first_from, cases_lt, (none_at p (k + 1) n j))

-- a message is on a link
abbrev pub Has : List Message → Message → Type 0
Has [] m = ⊥
Has (x ∷ xs) m = (x ≡ m) ⊎ Has xs m

-- nothing is after a GONE
abbrev pub Tidy : List Message → Type 0
Tidy [] = Unit {0}
Tidy (GONE ∷ xs) = xs ≡ []
Tidy (OK ∷ xs) = Tidy xs
Tidy (VALUE v ∷ xs) = Tidy xs

pub has_append : (xs ys : List Message) (m : Message) → Has (xs ++ ys) m → Has xs m ⊎ Has ys m
has_append [] ys m h = inr h
has_append (x ∷ xs) ys m (inl e) = inl (inl e)
has_append (x ∷ xs) ys m (inr h) = elim (has_append xs ys m h) [ inl k ↦ inl (inr k) | inr k ↦ inr k ]

pub has_left : (xs ys : List Message) (m : Message) → Has xs m → Has (xs ++ ys) m
has_left [] ys m h = elim h [ ]
has_left (x ∷ xs) ys m (inl e) = inl e
has_left (x ∷ xs) ys m (inr h) = inr (has_left xs ys m h)

pub has_right : (xs ys : List Message) (m : Message) → Has ys m → Has (xs ++ ys) m
has_right [] ys m h = h
has_right (x ∷ xs) ys m h = inr (has_right xs ys m h)

pub has_drop : (xs : List Message) (m : Message) → Has (drop 1 xs) m → Has xs m
has_drop xs m h = grind (arith, nat_tests)

pub has_first : (xs rest : List Message) (m : Message) → xs ≡ m ∷ rest → Has xs m
has_first xs rest m e = subst (λ z. Has z m) (sym e) (inl refl)

pub has_cond : (b : Bool) (x m : Message) → Has (cond b (x ∷ []) []) m → (b ≡ true) × (x ≡ m)
has_cond b x m h = grind (arith, nat_tests)

pub tidy_drop : (xs : List Message) → Tidy xs → Tidy (drop 1 xs)
tidy_drop xs t = grind (arith, nat_tests, Tidy)

pub tidy_cond : (b : Bool) (x : Message) → Tidy (cond b (x ∷ []) [])
tidy_cond b x = grind (arith, nat_tests)

pub tidy_append : (xs ys : List Message) → (¬ Has xs GONE) → Tidy ys → Tidy (xs ++ ys)
tidy_append [] ys n t = t
tidy_append (GONE ∷ xs) ys n t = absurd (n (inl refl))
tidy_append (OK ∷ xs) ys n t = tidy_append xs ys (λ h. n (inr h)) t
tidy_append (VALUE v ∷ xs) ys n t = tidy_append xs ys (λ h. n (inr h)) t

pub tidy_gone : (xs rest : List Message) → Tidy xs → xs ≡ GONE ∷ rest → rest ≡ []
tidy_gone xs rest t e = let s : Tidy (GONE ∷ rest) = subst Tidy e t in s
