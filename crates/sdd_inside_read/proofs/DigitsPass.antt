-- Printed numbers are passed whole, and give back the number.
use Rattle.std.proofs.Common.{arith, inl, inr, lt-ltb, ne_eqb}
use Rattle.std.proofs.lemmas.Bool.{cases_lt}
use Rattle.std.proofs.lemmas.Fmt.{decimal_is_IsNumeral, decimal_nonempty}
use Rattle.std.specs.Fmt.{decimal, digit_glyph, digits, digits_onto, signed_decimal}
use Rattle.std.specs.Prelude.{ℕ, ℤ, pos, negsuc, zero, suc, ◌≡◌, ◌<◌, ◌≤◌, ◌%◌, ◌/◌, ◌+◌, ◌^◌, ◌==◌, ◌⊎◌, true, false, if◌then◌else◌, List, [], ◌∷◌, length, refl}
use Rattle.std.specs.List.{list_all}
use Rattle.sdd_inside_read.proofs.Ends.{HasByte}
use Rattle.sdd_inside_read.proofs.Passing.{IsWhole, is_plain, whole_of_plain}
use Rattle.sdd_inside_read.specs.Values.{number_of}

-- a byte from 48 to 57 means nothing else

other : (c k : ℕ) → 48 ≤ c → c ≤ 57 → (k < 48) ⊎ (57 < k) → (c == k) ≡ false
other c k low high is = ne_eqb c k (λ e. elim is [ inl l ↦ omega (arith, e, low, l) | inr h ↦ omega (arith, e, high, h) ])

plain_digit : (c : ℕ) → 48 ≤ c → c ≤ 57 → is_plain c ≡ true
plain_digit c low high =
    rw (
      other c 34 low high (inl (omega arith)),
      other c 91 low high (inr (omega arith)),
      other c 123 low high (inr (omega arith)),
      other c 93 low high (inr (omega arith)),
      other c 125 low high (inr (omega arith)),
      other c 44 low high (inl (omega arith)),
      other c 10 low high (inl (omega arith)),
      other c 32 low high (inl (omega arith)),
    ) refl

glyph_plain : (n : ℕ) → n < 10 → is_plain (digit_glyph false n) ≡ true
glyph_plain n l = elim (cases_lt n 10) [ inl low ↦ rw (lt-ltb n 10 low) (plain_digit (48 + n) (omega arith) (omega (arith, low))) | inr high ↦ absurd (omega (arith, l, high)) ]

digits_plain : (k n : ℕ) (acc : List ℕ) → list_all is_plain acc ≡ true → list_all is_plain (digits_onto k 10 false n acc) ≡ true
digits_plain zero n acc h = h
digits_plain (suc k) n acc h =
    let d : List ℕ = digit_glyph false (n % 10) ∷ acc in
    let e : list_all is_plain d ≡ true = (rw (glyph_plain (n % 10) (omega arith)) h) in
    elim (n / 10 == 0) as (λ b. list_all is_plain (if b then d else digits_onto k 10 false (n / 10) d) ≡ true) [ true ↦ e | false ↦ digits_plain k (n / 10) d e ]

pub decimal_plain : (n : ℕ) → list_all is_plain (decimal n) ≡ true
unfolding digits
decimal_plain n = digits_plain 64 n [] refl

pub whole_number : (n : ℕ) → IsWhole (decimal n)
whole_number n = whole_of_plain (decimal n) (decimal_plain n)

pub signed_plain : (z : ℤ) → list_all is_plain (signed_decimal z) ≡ true
signed_plain (pos n) = decimal_plain n
signed_plain (negsuc n) = decimal_plain (suc n)

-- it isn't empty
pub some_digit : (n : ℕ) → n < 2 ^ 64 → HasByte (decimal n)
some_digit n l = some_of (decimal n) (decimal_nonempty n l)
  where
    some_of : (text : List ℕ) → 0 < length text → HasByte text
    some_of [] h = absurd (omega (arith, h))
    some_of (c ∷ text) h = (c, text, refl)

pub number_again : (n : ℕ) → n < 2 ^ 64 → number_of (decimal n) ≡ n
number_again n l = (decimal_is_IsNumeral n l).1
