-- The spelling of a text is UTF-8, and that of a number is a plain word.
use Rattle.sdd_words.proofs.All.{AllDigits, Bool, HasNoSpace, IsAscii, IsAscii-cons, IsAscii-nil, IsPlain, IsUtf8, List, [], all_scalars, and_parts, ap, append-nil, append_assoc, arith, cases_lt, decimal_is_IsNumeral, digit_from_value, encode_ascii, encode_utf8_all, encodes-IsAscii, encodes-append, eqb, escaped, escaped_byte, get_or, inside_one, length, mag, nat_tests, refl, signed_decimal, suc, sym, true, ℕ, ℤ, ◌++◌, ◌<◌, ◌^◌, ◌∙◌, ◌∷◌, ◌≡◌}
use lib.Utf8.{encode, scalar}

high_byte : (b : ℕ) → (b < 128 → ⊥) → escaped_byte b ≡ b ∷ []
high_byte b h = grind (arith, nat_tests)

high_same : (bs : List ℕ) → ((k : ℕ) → k < length bs → get_or bs k 0 < 128 → ⊥) → escaped bs ≡ bs
high_same [] h = refl
high_same (b ∷ bs) h =
    ap (λ (l : List ℕ). l ++ escaped bs) (high_byte b (h 0 (omega arith))) ∙ ap (λ (l : List ℕ). b ∷ l) (high_same bs (λ k lt. h (suc k) (omega arith)))

pub escaped-append : (a b : List ℕ) → escaped (a ++ b) ≡ escaped a ++ escaped b
escaped-append [] b = refl
escaped-append (c ∷ a) b = ap (λ (l : List ℕ). escaped_byte c ++ l) (escaped-append a b) ∙ sym (append_assoc (escaped_byte c) (escaped a) (escaped b))

one : (c : ℕ) → c < 128 → IsAscii (c ∷ [])
one c lt = IsAscii-cons c [] lt IsAscii-nil

char_step : (c : ℕ) → escaped (encode c) ≡ encode_utf8_all (escaped_byte c)
char_step c = grind (arith, cases_lt, encode_ascii, append-nil, encodes-IsAscii, one, high_same, get_or, inside_one, high_byte, encode_utf8_all)

-- escaping characters is escaping bytes
chars_escape : (cs : List ℕ) → escaped (encode_utf8_all cs) ≡ encode_utf8_all (escaped cs)
chars_escape [] = refl
chars_escape (c ∷ cs) = grind (arith, escaped-append, encode_utf8_all, char_step, encodes-append, (chars_escape cs))

scalar_step : (c : ℕ) (cs : List ℕ) (x y : Bool) → eqb c 34 ≡ x → eqb c 92 ≡ y → scalar c ≡ true → all_scalars (escaped cs) ≡ true
    → all_scalars (escaped_byte c ++ escaped cs) ≡ true
scalar_step c cs x y p q h k = grind (arith, nat_tests)

scalars_escape : (cs : List ℕ) → all_scalars cs ≡ true → all_scalars (escaped cs) ≡ true
scalars_escape [] h = refl
scalars_escape (c ∷ cs) h = let a = and_parts (scalar c) (all_scalars cs) h in scalar_step c cs (eqb c 34) (eqb c 92) refl refl a.0 (scalars_escape cs a.1)

pub IsUtf8-escaped : (text : List ℕ) → IsUtf8 text → IsUtf8 (escaped text)
IsUtf8-escaped text u = (escaped u.0, (scalars_escape u.0 u.1.0, sym (chars_escape u.0) ∙ ap escaped u.1.1))

digits_plain : (ds : List ℕ) → AllDigits 10 ds → HasNoSpace ds
digits_plain [] h = tt
digits_plain (c ∷ ds) h = let r = digit_from_value c (omega (arith, h.0)) in ((λ e. omega (arith, r.0)), digits_plain ds h.1)

numeral_plain : (ds : List ℕ) → 0 < length ds → AllDigits 10 ds → IsPlain ds
numeral_plain ds some h = grind (arith, digit_from_value, digits_plain)

pub number_plain : (z : ℤ) → mag z < 2 ^ 63 → IsPlain (signed_decimal z)
number_plain z lt = grind (arith, decimal_is_IsNumeral, numeral_plain, digits_plain)
