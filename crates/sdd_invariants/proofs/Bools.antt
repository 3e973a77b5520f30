-- Tests, and numbers that are the same or not.
use Rattle.sdd_invariants.proofs.All.{Bool, None, Option, Some, arith, dec_le, eq-eqb, eqb-true, false, if◌then◌else◌, inl, inr, refl, subst, true, ℕ, ◌&&◌, ◌<◌, ◌==◌, ◌||◌, ◌≡◌, ◌≤◌, ◌⊎◌}

pub if_way : {A : Type 0} (P : A → Type 0) (b : Bool) (x y : A) → P x → P y → P (if b then x else y)
if_way P b x y h k = grind arith

pub and_left : (a b : Bool) → (a && b) ≡ true → a ≡ true
and_left a b e = grind arith

pub and_right : (a b : Bool) → (a && b) ≡ true → b ≡ true
and_right a b e = grind arith

pub neither_left : (a b : Bool) → (a || b) ≡ false → a ≡ false
neither_left a b e = grind arith

pub neither_right : (a b : Bool) → (a || b) ≡ false → b ≡ false
neither_right a b e = grind arith

pub only_right : (a b : Bool) → a ≡ false → (a || b) ≡ true → b ≡ true
only_right a b e f = grind arith

pub only_left : (a b : Bool) → b ≡ false → (a || b) ≡ true → a ≡ true
only_left a b e f = grind arith

pub true_or_false : (b : Bool) → (b ≡ true) ⊎ (b ≡ false)
true_or_false b = grind arith

pub not_both : (b : Bool) → b ≡ true → b ≡ false → ⊥
not_both b e f = grind arith

-- of two numbers
pub same_or_not : (k c : ℕ) → (k ≡ c) ⊎ ((k == c) ≡ false)
same_or_not k c = elim (k == c) as (λ b. (k == c) ≡ b → (k ≡ c) ⊎ (b ≡ false)) [ true ↦ λ e. inl (eqb-true k c e) | false ↦ λ e. inr refl ] refl

pub same_number : (c : ℕ) → (c == c) ≡ true
same_number c = eq-eqb c c refl

pub differ : (a d : ℕ) → (a == d) ≡ false → a ≡ d → ⊥
differ a d e p = let q : (a == d) ≡ true = subst (λ x. (a == x) ≡ true) p (same_number a) in cc

pub not_zero : (c : ℕ) → 1 ≤ c → (c == 0) ≡ false
not_zero c h = elim (same_or_not c 0) [ inl p ↦ absurd (omega arith) | inr p ↦ p ]

pub lower_same_higher : (a b : ℕ) → (a < b) ⊎ ((a ≡ b) ⊎ (b < a))
lower_same_higher a b = grind (arith, dec_le)

-- one of two options
pub none_not_some : {A : Type 0} (o : Option A) (x : A) → o ≡ None → o ≡ Some x → ⊥
none_not_some o x e f = grind arith
