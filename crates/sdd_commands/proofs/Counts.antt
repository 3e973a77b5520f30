-- Counts by their decimal spelling.
use Rattle.sdd_commands.proofs.All.{Bool, List, None, Some, bytes_eq, bytes_eq-Decides, cond, decimal, decimal_is_IsNumeral, digits_value, lt-ltb, ltb-true, nat_lt, refl, sym, true, ℕ, ◌&&◌, ◌<◌, ◌^◌, ◌∙◌, ◌≡◌}
use Rattle.sdd_commands.specs.Command.{count_in}

by_tests : (bound : ℕ) (bytes : List ℕ) (n : ℕ) (x y : Bool) → n ≡ digits_value 10 bytes → bytes_eq bytes (decimal n) ≡ x → nat_lt n bound ≡ y
    → count_in bound bytes ≡ cond (x && y) (Some n) None
unfolding count_in
by_tests bound bytes n x y e p q = rw (← e, p, q) refl

-- a spelled number below the bound is counted
pub counted : (bound n : ℕ) → n < bound → n < 2 ^ 64 → count_in bound (decimal n) ≡ Some n
counted bound n below small =
    by_tests bound (decimal n) n true true (sym (decimal_is_IsNumeral n small).1) ((bytes_eq-Decides (decimal n) (decimal n)).1 refl) (lt-ltb n bound below)

some_is : (x y : ℕ) → Some x ≡ Some y → x ≡ y
some_is x y e = cc

found_if : (bytes : List ℕ) (bound m n : ℕ) (x y : Bool) → bytes_eq bytes (decimal m) ≡ x → nat_lt m bound ≡ y → cond (x && y) (Some m) None ≡ Some n
    → (bytes ≡ decimal n) × (n < bound)
found_if bytes bound m n true true p q e =
    let same : m ≡ n = some_is m n e in
    (rw (← same) ((bytes_eq-Decides bytes (decimal m)).0 p), rw (← same) (ltb-true m bound q))
found_if bytes bound m n _ _ p q e = absurd cc

-- and what is counted is spelled so
pub spelled : (bound : ℕ) (bytes : List ℕ) (n : ℕ) → count_in bound bytes ≡ Some n → (bytes ≡ decimal n) × (n < bound)
spelled bound bytes n e =
    let m : ℕ = digits_value 10 bytes in
    found_if bytes bound m n (bytes_eq bytes (decimal m)) (nat_lt m bound) refl refl
    (sym (by_tests bound bytes m (bytes_eq bytes (decimal m)) (nat_lt m bound) refl refl refl) ∙ e)
