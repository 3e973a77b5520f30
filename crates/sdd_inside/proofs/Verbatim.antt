-- Texts in which each byte stands for itself are escaped as they are: printed numbers, among others.
use Rattle.std.proofs.Common.{arith, inl, inr, lt-ltb, ne_eqb, sym}
use Rattle.std.proofs.lemmas.Bool.{cases_lt, le-ltb, le-leb, leb-true}
use Rattle.std.proofs.lemmas.Bool.Decides.{nat_tests}
use Rattle.std.specs.Cmp.{first_so, second_so}
use Rattle.std.specs.Fmt.{decimal, digit_glyph, digits, digits_onto, signed_decimal}
use Rattle.std.specs.Prelude.{ℕ, ℤ, pos, negsuc, zero, suc, ◌≡◌, ◌<◌, ◌≤◌, ◌%◌, ◌/◌, ◌+◌, ◌==◌, ◌&&◌, Bool, true, false, if◌then◌else◌, List, [], ◌∷◌, ◌++◌, not, nat_le, refl}
use Rattle.std.proofs.lemmas.List.Folds.{list_all-append}
use Rattle.std.specs.List.{list_all}
use Rattle.sdd_script.specs.All.{IsName, begins_with_letter, is_keyword, is_name_byte}
use Rattle.sdd_inside.specs.Json.{escaped, escaped_byte, is_verbatim}

abbrev pub AreVerbatim : List ℕ → Type 0
AreVerbatim text = list_all is_verbatim text ≡ true

not_so : (b : Bool) → not b ≡ true → b ≡ false
not_so false e = refl
not_so true e = sym e

-- a byte
verbatim_byte : (c : ℕ) → is_verbatim c ≡ true → escaped_byte c ≡ c ∷ []
verbatim_byte c h =
    let low = first_so (nat_le 32 c) (not (c == 34)) (first_so (nat_le 32 c && not (c == 34)) (not (c == 92)) h) in
    let quote = not_so (c == 34) (second_so (nat_le 32 c) (not (c == 34)) (first_so (nat_le 32 c && not (c == 34)) (not (c == 92)) h)) in
    let slash = not_so (c == 92) (second_so (nat_le 32 c && not (c == 34)) (not (c == 92)) h) in
    let above : 32 ≤ c = leb-true 32 c low in
    rw (
      quote,
      slash,
      ne_eqb c 8 (λ e. omega (arith, e, above)),
      ne_eqb c 9 (λ e. omega (arith, e, above)),
      ne_eqb c 10 (λ e. omega (arith, e, above)),
      ne_eqb c 12 (λ e. omega (arith, e, above)),
      ne_eqb c 13 (λ e. omega (arith, e, above)),
      le-ltb c 32 above,
    ) refl

pub verbatim : (text : List ℕ) → list_all is_verbatim text ≡ true → escaped text ≡ text
verbatim [] h = refl
verbatim (c ∷ text) h =
    (λ i. verbatim_byte c (first_so (is_verbatim c) (list_all is_verbatim text) h) i
    ++ verbatim text (second_so (is_verbatim c) (list_all is_verbatim text) h) i)

-- two parts
pub both_verbatim : (v w : List ℕ) → AreVerbatim v → AreVerbatim w → AreVerbatim (v ++ w)
both_verbatim v w h k = rw (list_all-append is_verbatim v w, h, k) refl

-- a digit from 48 to 57

digit : (c : ℕ) → 48 ≤ c → c ≤ 57 → is_verbatim c ≡ true
digit c low high =
    rw (
      le-leb 32 c (omega (arith, low)),
      ne_eqb c 34 (λ e. omega (arith, e, low)),
      ne_eqb c 92 (λ e. omega (arith, e, high)),
    ) refl

glyph : (n : ℕ) → n < 10 → is_verbatim (digit_glyph false n) ≡ true
glyph n l = elim (cases_lt n 10) [ inl low ↦ rw (lt-ltb n 10 low) (digit (48 + n) (omega arith) (omega (arith, low))) | inr high ↦ absurd (omega (arith, l, high)) ]

digits_verbatim : (k n : ℕ) (acc : List ℕ) → AreVerbatim acc → AreVerbatim (digits_onto k 10 false n acc)
digits_verbatim zero n acc h = h
digits_verbatim (suc k) n acc h =
    let d : List ℕ = digit_glyph false (n % 10) ∷ acc in
    let e : AreVerbatim d = (rw (glyph (n % 10) (omega arith)) h) in
    elim (n / 10 == 0) as (λ b. AreVerbatim (if b then d else digits_onto k 10 false (n / 10) d)) [ true ↦ e | false ↦ digits_verbatim k (n / 10) d e ]

-- a number
pub decimal_verbatim : (n : ℕ) → AreVerbatim (decimal n)
unfolding digits
decimal_verbatim n = digits_verbatim 64 n [] refl

pub signed_verbatim : (z : ℤ) → AreVerbatim (signed_decimal z)
signed_verbatim (pos n) = decimal_verbatim n
signed_verbatim (negsuc n) = decimal_verbatim (suc n)

pub number_verbatim : (n : ℕ) → escaped (decimal n) ≡ decimal n
number_verbatim n = verbatim (decimal n) (decimal_verbatim n)

-- a name

named_byte : (c : ℕ) → is_name_byte c ≡ true → is_verbatim c ≡ true
named_byte c h = grind (arith, nat_tests)

named_bytes : (name : List ℕ) → list_all is_name_byte name ≡ true → AreVerbatim name
named_bytes [] h = refl
named_bytes (c ∷ name) h =
    rw (
      named_byte c (first_so (is_name_byte c) (list_all is_name_byte name) h),
      named_bytes name (second_so (is_name_byte c) (list_all is_name_byte name) h),
    ) refl

bytes_of : (name : List ℕ) → IsName name → list_all is_name_byte name ≡ true
bytes_of name h = grind (arith, nat_tests, begins_with_letter, list_all, is_name_byte, is_keyword)

pub name_verbatim : (name : List ℕ) → IsName name → list_all is_verbatim name ≡ true
name_verbatim name h = named_bytes name (bytes_of name h)
