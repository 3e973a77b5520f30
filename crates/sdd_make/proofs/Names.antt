-- The names of the made transactions are names.
use Rattle.sdd_make.proofs.All.{Bool, IsName, List, [], arith, both_are, codes, decimal, decimal_by_steps, false, is_name, is_name_byte, length, length-decimal-le, list_all, nat_le, nat_tests, refl, true, ℕ, ◌%◌, ◌&&◌, ◌++◌, ◌+◌, ◌<◌, ◌^◌, ◌∷◌, ◌≡◌, ◌≤◌}

digit_fits : (n : ℕ) → n < 10 → is_name_byte (48 + n) ≡ true
digit_fits n small = grind (arith, nat_tests)

-- one byte more at the end
all_more : (ds : List ℕ) (d : ℕ) → list_all is_name_byte ds ≡ true → is_name_byte d ≡ true → list_all is_name_byte (ds ++ d ∷ []) ≡ true
all_more [] d a e = rw e refl
all_more (c ∷ ds) d a e = first (is_name_byte c) (list_all is_name_byte ds) a (λ rest. all_more ds d rest e)
  where
    first : (b r : Bool) {s : Bool} → (b && r) ≡ true → (r ≡ true → s ≡ true) → (b && s) ≡ true
    first true r a f = f a
    first false r a f = absurd cc

digits_fit : (n : ℕ) → n < 2 ^ 64 → list_all is_name_byte (decimal n) ≡ true
digits_fit n small =
    decimal_by_steps (λ m ds. list_all is_name_byte ds ≡ true)
    (λ m l. rw (digit_fits m l) refl)
    (λ m ds l a. all_more ds (48 + m % 10) a (digit_fits (m % 10) (omega arith)))
    n small

short_fits : (ds : List ℕ) → length ds ≤ 31 → list_all is_name_byte ds ≡ true → is_name (116 ∷ ds) ≡ true
short_fits ds short all = grind (arith, nat_le, both_are, list_all)

pub number_named : (n : ℕ) → n < 2 ^ 32 → IsName (codes "t" ++ decimal n)
number_named n small =
    short_fits (decimal n) (omega (arith, length-decimal-le 10 n (omega arith) (omega arith) (omega arith))) (digits_fit n (omega arith))
