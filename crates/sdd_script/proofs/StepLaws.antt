-- What a step that broke no rule says, and what a list of them does.
use Rattle.sdd_script.proofs.All.{Bool, Ok, Option, Result, Some, WorkRule, arith, false, must, nat_le, nat_tests, not, require, true, ℕ, ◌>>=◌, ◌≡◌, ◌≤◌}

-- a test that holds, and then what follows
pub must_then : {B : Type 0} (rule : WorkRule) (b : Bool) (f : Unit {0} → Result B WorkRule) (y : B) → (must rule b >>= f) ≡ Ok y
    → (b ≡ true) × (f tt ≡ Ok y)
must_then rule b f y e = grind arith

-- a value that is there, and then what follows
pub known_then : {A B : Type 0} (rule : WorkRule) (o : Option A) (f : A → Result B WorkRule) (y : B)
    → (require rule o >>= f) ≡ Ok y → (x : A) × (o ≡ Some x) × (f x ≡ Ok y)
known_then rule o f y e = grind arith

-- ---- equal parts make equal wholes

abbrev pub some_of : {A : Type 0} → A → Option A
some_of x = Some x

pub some_is : {A : Type 0} (x y : A) → some_of x ≡ some_of y → x ≡ y
some_is x y e = cc

-- ---- tests

pub not_true : (b : Bool) → not b ≡ true → b ≡ false
not_true b e = grind arith

pub le_of : (a b : ℕ) → nat_le a b ≡ true → a ≤ b
le_of a b e = grind (arith, nat_tests)

pub of_le : (a b : ℕ) → a ≤ b → nat_le a b ≡ true
of_le a b h = grind (arith, nat_tests)
