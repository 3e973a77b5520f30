-- Tests of the members of lists, and what they tell.
use Rattle.sdd_history_examples.proofs.All.{Bool, Contains, Contains-cases, Contains-nil, Contains-range, List, [], and_parts, ap, arith, at_member, cond, contains, each_passes, false, inl, inr, list_all, not, numbers_to, true, ℕ, ◌∙◌, ◌∷◌, ◌≡◌, ◌≤◌}

-- a test that counts only where another passes
abbrev pub if_so : Bool → Bool → Bool
if_so true b = b
if_so false b = true

pub so : (a b : Bool) → if_so a b ≡ true → a ≡ true → b ≡ true
so a b e t = grind arith

-- whether two tests tell the same
abbrev pub same : Bool → Bool → Bool
same a b = cond a b (not b)

pub same_is : (a b : Bool) → same a b ≡ true → a ≡ b
same_is a b e = grind arith

-- where all pass, each does
pub each : {A : Type 0} (p : A → Bool) (xs : List A) (x : A) → list_all p xs ≡ true → Contains xs x → p x ≡ true
each p [] x e m = absurd (Contains-nil x m)
each p (y ∷ xs) x e m =
    let both = and_parts (p y) (list_all p xs) e in
    elim (Contains-cases y xs x m) [
      | inl same ↦ ap p same ∙ both.0
      | inr later ↦ each p xs x both.1 later
    ]

-- all pairs of two lists
abbrev pub all_pairs : {A B : Type 0} → (A → B → Bool) → List A → List B → Bool
all_pairs p xs ys = list_all (λ x. list_all (p x) ys) xs

pub each_pair : {A B : Type 0} (p : A → B → Bool) (xs : List A) (ys : List B) (x : A) (y : B) → all_pairs p xs ys ≡ true
    → Contains xs x → Contains ys y → p x y ≡ true
each_pair p xs ys x y e m n = each (p x) ys y (each (λ z. list_all (p z) ys) xs x e m) n

-- of numbers
pub each_number : (p : ℕ → Bool) (xs : List ℕ) (n : ℕ) → list_all p xs ≡ true → contains xs n ≡ true → p n ≡ true
each_number p xs n e c = at_member (λ m. p m ≡ true) xs n (each_passes p xs e) c

-- of the numbers from 1 on
pub each_to : (p : ℕ → Bool) (most n : ℕ) → list_all p (numbers_to most) ≡ true → 1 ≤ n → n ≤ most → p n ≡ true
each_to p most n e from to = each p (numbers_to most) n e (Contains-range 1 most n from (omega arith))
