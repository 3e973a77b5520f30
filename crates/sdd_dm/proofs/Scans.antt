-- Scans of a range from the front.
use Rattle.sdd_dm.proofs.All.{Bool, List, None, Option, Some, ap, arith, false, first_some, list_any, or_else, range_with_len, refl, suc, sym, true, ℕ, ◌+◌, ◌-◌, ◌<◌, ◌||◌, ◌∙◌, ◌∷◌, ◌≡◌, ◌≤◌}

-- what is left of the range up to n
abbrev pub from : ℕ → ℕ → List ℕ
from i n = range_with_len i (n - i)

from_more : (i n : ℕ) → i < n → from i n ≡ i ∷ from (i + 1) n
from_more i n h = let e : n - i ≡ suc (n - (i + 1)) = omega arith in rw e refl

pub first_not : {B : Type 0} (f : ℕ → Option B) (i n : ℕ) (all : Option B) → i < n → f i ≡ None → first_some f (from i n) ≡ all
    → first_some f (from (i + 1) n) ≡ all
first_not f i n all h e g = sym (ap (first_some f) (from_more i n h) ∙ ap (λ o. or_else o (first_some f (from (i + 1) n))) e) ∙ g

pub first_here : {B : Type 0} (f : ℕ → Option B) (i n : ℕ) (all : Option B) (b : B) → i < n → f i ≡ Some b → first_some f (from i n) ≡ all
    → all ≡ Some b
first_here f i n all b h e g = sym g ∙ ap (first_some f) (from_more i n h) ∙ ap (λ o. or_else o (first_some f (from (i + 1) n))) e

pub first_end : {B : Type 0} (f : ℕ → Option B) (i n : ℕ) (all : Option B) → n ≤ i → first_some f (from i n) ≡ all → all ≡ None
first_end f i n all h g = sym g ∙ ap (first_some f) (let e : n - i ≡ 0 = omega arith in ap (range_with_len i) e)

pub any_not : (f : ℕ → Bool) (i n : ℕ) (all : Bool) → i < n → f i ≡ false → list_any f (from i n) ≡ all → list_any f (from (i + 1) n) ≡ all
any_not f i n all h e g = sym (ap (list_any f) (from_more i n h) ∙ ap (λ b. b || list_any f (from (i + 1) n)) e) ∙ g

pub any_here : (f : ℕ → Bool) (i n : ℕ) (all : Bool) → i < n → f i ≡ true → list_any f (from i n) ≡ all → all ≡ true
any_here f i n all h e g = sym g ∙ ap (list_any f) (from_more i n h) ∙ ap (λ b. b || list_any f (from (i + 1) n)) e

pub any_end : (f : ℕ → Bool) (i n : ℕ) (all : Bool) → n ≤ i → list_any f (from i n) ≡ all → all ≡ false
any_end f i n all h g = sym g ∙ ap (list_any f) (let e : n - i ≡ 0 = omega arith in ap (range_with_len i) e)
