-- A spelled number is parsed.
use Rattle.sdd_words.proofs.All.{Bool, Err, FitsSigned, IsAscii-signed, IsNumeral, IsUtf8, IsUtf8-from_ascii, List, None, Ok, ParsesSigned, Result, Some, and_parts, arith, bytes_eq, bytes_eq-Decides, cond, cond_some, int_eq, is_small, lt-ltb, ltb-true, mag, nat_tests, not_true, parse-signed_decimal, refl, signed_decimal, signed_digits_value, subst, sym, true, w64, without_leading_sign, ℕ, ℤ, ◌&&◌, ◌<◌, ◌^◌, ◌∙◌, ◌≡◌}
use Rattle.sdd_words.specs.Number.{number_of}
pub use Rattle.std.proofs.lemmas.Bool.{and_parts as both}

pub parses : {E : Type 0} (z : ℤ) (bs : List ℕ) (r : Result ℤ E) → FitsSigned w64 z → bs ≡ signed_decimal z → ParsesSigned w64 10 bs r
    → r ≡ Ok z
parses z bs r fits e h = parse-signed_decimal w64 z bs r fits (omega arith) e h

pub same_number : {E : Type 0} (r : Result ℤ E) (y z : ℤ) → r ≡ Ok y → r ≡ Ok z → y ≡ z
same_number r y z a b = cc

abbrev done : {E : Type 0} → ℤ → Result ℤ E
done x = Ok x

ok_is : {E : Type 0} (x y : ℤ) → done {E = E} x ≡ done {E = E} y → x ≡ y
ok_is x y e = cc

-- a number that was parsed is the value of its digits
pub parsed_value : {E : Type 0} (r : Result ℤ E) (bs : List ℕ) (z : ℤ) → ParsesSigned w64 10 bs r → r ≡ Ok z → z ≡ signed_digits_value 10 bs
parsed_value {E} (Ok x) bs z h e = sym (ok_is {E = E} x z e) ∙ h.1
parsed_value (Err x) bs z h e = absurd cc

-- and it fits
pub parsed_fits : {E : Type 0} (r : Result ℤ E) (bs : List ℕ) (z : ℤ) → ParsesSigned w64 10 bs r → r ≡ Ok z → FitsSigned w64 z
parsed_fits {E} (Ok x) bs z h e = subst (FitsSigned w64) (sym h.1 ∙ ok_is {E = E} x z e) h.0.1
parsed_fits (Err x) bs z h e = absurd cc

by_tests : (bs : List ℕ) (z : ℤ) (x y : Bool) → z ≡ signed_digits_value 10 bs → bytes_eq bs (signed_decimal z) ≡ x → is_small z ≡ y
    → number_of bs ≡ cond (x && y) (Some z) None
unfolding number_of
by_tests bs z x y e p q = rw (← e, p, q) refl

pub number_of-spelled : (bs : List ℕ) (z : ℤ) → z ≡ signed_digits_value 10 bs → bs ≡ signed_decimal z → FitsSigned w64 z
    → number_of bs ≡ Some z
number_of-spelled bs z e h fits = by_tests bs z true true e ((bytes_eq-Decides bs (signed_decimal z)).1 h) (lt-ltb (mag z) (2 ^ 63) (omega arith))

pub number_of-other : (bs : List ℕ) (z : ℤ) → z ≡ signed_digits_value 10 bs → (bs ≡ signed_decimal z → ⊥) → number_of bs ≡ None
number_of-other bs z e other = grind (arith, by_tests, not_true, bytes_eq, signed_decimal, bytes_eq-Decides)

fits_small : (z : ℤ) → mag z < 2 ^ 63 → FitsSigned w64 z
fits_small z lt = omega arith

by_cases : (bs : List ℕ) (x y : Bool) → bytes_eq bs (signed_decimal (signed_digits_value 10 bs)) ≡ x → is_small (signed_digits_value 10 bs) ≡ y
    → (x ≡ true → y ≡ true → ⊥) → number_of bs ≡ None
by_cases bs x y p q h6 = grind (arith, by_tests, signed_digits_value)

pub number_of-unparsed : {E : Type 0} (r : Result ℤ E) (f : E) (bs : List ℕ) → ParsesSigned w64 10 bs r → r ≡ Err f → number_of bs ≡ None
number_of-unparsed r f bs h e = grind (arith, signed_digits_value, by_cases, bytes_eq, signed_decimal, parses, fits_small, ltb-true, bytes_eq-Decides)

pub number_of_other_bytes : (bs : List ℕ) → (IsUtf8 bs → ⊥) → number_of bs ≡ None
number_of_other_bytes bs other =
    let z : ℤ = signed_digits_value 10 bs in
    by_cases bs (bytes_eq bs (signed_decimal z)) (is_small z) refl refl (λ p q.
    absurd (other (rw ((bytes_eq-Decides bs (signed_decimal z)).0 p) (IsUtf8-from_ascii (signed_decimal z) (IsAscii-signed z (ltb-true (mag z) (2 ^ 63) q))))))

-- what is read is spelled so
pub number_takes : (bs : List ℕ) (z : ℤ) → number_of bs ≡ Some z → (bs ≡ signed_decimal z) × (mag z < 2 ^ 63)
unfolding number_of
number_takes bs z e = grind (arith, signed_digits_value, cond_some, bytes_eq, signed_decimal, and_parts, bytes_eq-Decides, ltb-true)

-- what parse asks of a signed number
abbrev IsParsed : List ℕ → Type 0
IsParsed bs = IsNumeral 10 (without_leading_sign bs) × FitsSigned w64 (signed_digits_value 10 bs)

value_if : (z : ℤ) → mag z < 2 ^ 63 → IsParsed (signed_decimal z) → signed_digits_value 10 (signed_decimal z) ≡ z
value_if z lt p =
    ok_is {E = Unit {0}} (signed_digits_value 10 (signed_decimal z)) z
    (parse-signed_decimal w64 z (signed_decimal z) (Ok (signed_digits_value 10 (signed_decimal z))) (fits_small z lt) lt refl (p, refl))

stable : (b : Bool) (y z : ℤ) → int_eq y z ≡ b → ((y ≡ z → ⊥) → ⊥) → y ≡ z
stable b y z e h = grind (arith, nat_tests)

signed_value : (z : ℤ) → mag z < 2 ^ 63 → signed_digits_value 10 (signed_decimal z) ≡ z
signed_value z lt =
    stable (int_eq (signed_digits_value 10 (signed_decimal z)) z) (signed_digits_value 10 (signed_decimal z)) z refl
    (λ other. (let e = parse-signed_decimal {E =
    Unit {0}} w64 z (signed_decimal z) (Err tt) (fits_small z lt) lt refl (λ p. other (value_if z lt p)) in absurd cc))

-- what is spelled is read
pub number_again : (z : ℤ) → mag z < 2 ^ 63 → number_of (signed_decimal z) ≡ Some z
number_again z lt = number_of-spelled (signed_decimal z) z (sym (signed_value z lt)) refl (fits_small z lt)
