-- Numbers by their digits, and words of modules, which are a letter and a number.
use Rattle.std.proofs.Common.{◌≡◌, ◌+◌, ◌/◌, ◌%◌, ◌<◌, ◌≤◌, ◌^◌, ◌∷◌, [], ◌++◌, ℕ, List, arith, refl, sym, ap, ◌∙◌, append_assoc}
use Rattle.std.proofs.lemmas.Fmt.{decimal_digit, decimal_step}
use Rattle.std.specs.Fmt.{decimal}
use Rattle.std.specs.Prelude.{true}
use Rattle.sdd_inside.specs.Json.{is_verbatim, quoted}
use Rattle.sdd_inside.specs.Pieces.{last_four}
use Rattle.sdd_inside.proofs.Verbatim.{decimal_verbatim, verbatim}

pub one : (n : ℕ) → n < 10 → (48 + n) ∷ [] ≡ decimal n
one n small = sym (decimal_digit n small)

pub two : (n : ℕ) → 10 ≤ n → n < 100 → (48 + n / 10) ∷ (48 + n % 10) ∷ [] ≡ decimal n
two n more few =
    let last : decimal n ≡ decimal (n / 10) ++ (48 + n % 10) ∷ [] = decimal_step n more (omega (arith, few)) in
    let first : decimal (n / 10) ≡ (48 + n / 10) ∷ [] = decimal_digit (n / 10) (omega (arith, few)) in
    sym (last ∙ ap (λ (l : List ℕ). l ++ (48 + n % 10) ∷ []) first)

pub three : (n : ℕ) → 100 ≤ n → n < 1000 → (48 + n / 100) ∷ (48 + n / 10 % 10) ∷ (48 + n % 10) ∷ [] ≡ decimal n
three n more few =
    let last : decimal n ≡ decimal (n / 10) ++ (48 + n % 10) ∷ [] = decimal_step n (omega (arith, more)) (omega (arith, few)) in
    let first : (48 + n / 10 / 10) ∷ (48 + n / 10 % 10) ∷ [] ≡ decimal (n / 10) = two (n / 10) (omega (arith, more)) (omega (arith, few)) in
    let same : n / 100 ≡ n / 10 / 10 = omega arith in
    ap (λ (k : ℕ). (48 + k) ∷ (48 + n / 10 % 10) ∷ (48 + n % 10) ∷ []) same
    ∙ sym (last ∙ ap (λ (l : List ℕ). l ++ (48 + n % 10) ∷ []) (sym first))

pub four : (n : ℕ) → 1000 ≤ n → n < 10000 → last_four n ≡ decimal n
four n more few =
    let last : decimal n ≡ decimal (n / 10) ++ (48 + n % 10) ∷ [] = decimal_step n (omega (arith, more)) (omega (arith, few)) in
    let first : (48 + n / 10 / 100) ∷ (48 + n / 10 / 10 % 10) ∷ (48 + n / 10 % 10) ∷ [] ≡ decimal (n / 10) =
    three (n / 10) (omega (arith, more)) (omega (arith, few)) in
    let thousands : n / 1000 % 10 ≡ n / 10 / 100 = omega (arith, few) in
    let hundreds : n / 100 ≡ n / 10 / 10 = omega arith in
    ap (λ (k : ℕ). (48 + k) ∷ (48 + n / 100 % 10) ∷ (48 + n / 10 % 10) ∷ (48 + n % 10) ∷ []) thousands
    ∙ ap (λ (k : ℕ). (48 + n / 10 / 100) ∷ (48 + k % 10) ∷ (48 + n / 10 % 10) ∷ (48 + n % 10) ∷ []) hundreds
    ∙ sym (last ∙ ap (λ (l : List ℕ). l ++ (48 + n % 10) ∷ []) (sym first))

-- more than four

four_at_end : (front : List ℕ) (a b c d : ℕ)
    → (((front ++ a ∷ []) ++ b ∷ []) ++ c ∷ []) ++ d ∷ [] ≡ front ++ a ∷ b ∷ c ∷ d ∷ []
four_at_end front a b c d =
    append_assoc ((front ++ a ∷ []) ++ b ∷ []) (c ∷ []) (d ∷ [])
    ∙ append_assoc (front ++ a ∷ []) (b ∷ []) (c ∷ d ∷ [])
    ∙ append_assoc front (a ∷ []) (b ∷ c ∷ d ∷ [])

-- a digit more, of a number that is a number's front
next : (m k : ℕ) → 10 ≤ m → m < 2 ^ 64 → m / 10 ≡ k → decimal m ≡ decimal k ++ (48 + m % 10) ∷ []
next m k more few same = decimal_step m more few ∙ ap (λ (i : ℕ). decimal i ++ (48 + m % 10) ∷ []) same

split : (n : ℕ) → 10000 ≤ n → n < 100000000 → decimal n ≡ decimal (n / 10000) ++ last_four n
split n more few =
    let d = next n (n / 10) (omega (arith, more)) (omega (arith, few)) refl in
    let c = next (n / 10) (n / 100) (omega (arith, more)) (omega (arith, few)) (omega arith) in
    let b = next (n / 100) (n / 1000) (omega (arith, more)) (omega (arith, few)) (omega arith) in
    let a = next (n / 1000) (n / 10000) (omega (arith, more)) (omega (arith, few)) (omega arith) in
    d
    ∙ ap (λ (l : List ℕ). l ++ (48 + n % 10) ∷ []) c
    ∙ ap (λ (l : List ℕ). (l ++ (48 + n / 10 % 10) ∷ []) ++ (48 + n % 10) ∷ []) b
    ∙ ap (λ (l : List ℕ). ((l ++ (48 + n / 100 % 10) ∷ []) ++ (48 + n / 10 % 10) ∷ []) ++ (48 + n % 10) ∷ []) a
    ∙ four_at_end (decimal (n / 10000)) (48 + n / 1000 % 10) (48 + n / 100 % 10) (48 + n / 10 % 10) (48 + n % 10)

pub many : (out : List ℕ) (n : ℕ) → 10000 ≤ n → n < 100000000 → (out ++ decimal (n / 10000)) ++ last_four n ≡ out ++ decimal n
many out n more few =
    append_assoc out (decimal (n / 10000)) (last_four n) ∙ ap (λ (l : List ℕ). out ++ l) (sym (split n more few))

-- the end of a string, a number and the end of a list

pub end_of_three : (out : List ℕ) (n : ℕ) → 100 ≤ n → n < 1000
    → out ++ 34 ∷ 44 ∷ (48 + n / 100) ∷ (48 + n / 10 % 10) ∷ (48 + n % 10) ∷ 93 ∷ [] ≡ out ++ 34 ∷ 44 ∷ (decimal n ++ 93 ∷ [])
end_of_three out n more few = ap (λ (l : List ℕ). out ++ 34 ∷ 44 ∷ (l ++ 93 ∷ [])) (three n more few)

pub end_of_four : (out : List ℕ) (n : ℕ) → 1000 ≤ n → n < 10000
    → out ++ 34 ∷ 44 ∷ (48 + n / 1000) ∷ (48 + n / 100 % 10) ∷ (48 + n / 10 % 10) ∷ (48 + n % 10) ∷ 93 ∷ []
    ≡ out ++ 34 ∷ 44 ∷ (decimal n ++ 93 ∷ [])
end_of_four out n more few =
    let first : n / 1000 ≡ n / 1000 % 10 = omega (arith, few) in
    ap (λ (k : ℕ). out ++ 34 ∷ 44 ∷ (48 + k) ∷ (48 + n / 100 % 10) ∷ (48 + n / 10 % 10) ∷ (48 + n % 10) ∷ 93 ∷ []) first
    ∙ ap (λ (l : List ℕ). out ++ 34 ∷ 44 ∷ (l ++ 93 ∷ [])) (four n more few)

pub end_put : (out number : List ℕ) → ((out ++ 34 ∷ 44 ∷ []) ++ number) ++ 93 ∷ [] ≡ out ++ 34 ∷ 44 ∷ (number ++ 93 ∷ [])
end_put out number = append_assoc (out ++ 34 ∷ 44 ∷ []) number (93 ∷ []) ∙ append_assoc out (34 ∷ 44 ∷ []) (number ++ 93 ∷ [])

-- the word of a module as a string

plain : (letter n : ℕ) → is_verbatim letter ≡ true → quoted (letter ∷ decimal n) ≡ 34 ∷ letter ∷ (decimal n ++ 34 ∷ [])
plain letter n h = ap (λ (l : List ℕ). 34 ∷ (l ++ 34 ∷ [])) (verbatim (letter ∷ decimal n) (rw (h, decimal_verbatim n) refl))

pub module_of_one : (out : List ℕ) (letter n : ℕ) → is_verbatim letter ≡ true → n < 10
    → out ++ 34 ∷ letter ∷ (48 + n) ∷ 34 ∷ [] ≡ out ++ quoted (letter ∷ decimal n)
module_of_one out letter n h small =
    ap (λ (l : List ℕ). out ++ 34 ∷ letter ∷ (l ++ 34 ∷ [])) (one n small) ∙ ap (λ (l : List ℕ). out ++ l) (sym (plain letter n h))

pub module_of_two : (out : List ℕ) (letter n : ℕ) → is_verbatim letter ≡ true → 10 ≤ n → n < 100
    → out ++ 34 ∷ letter ∷ (48 + n / 10) ∷ (48 + n % 10) ∷ 34 ∷ [] ≡ out ++ quoted (letter ∷ decimal n)
module_of_two out letter n h more few =
    ap (λ (l : List ℕ). out ++ 34 ∷ letter ∷ (l ++ 34 ∷ [])) (two n more few) ∙ ap (λ (l : List ℕ). out ++ l) (sym (plain letter n h))

pub module_put : (out : List ℕ) (letter n : ℕ) → is_verbatim letter ≡ true
    → ((out ++ 34 ∷ letter ∷ []) ++ decimal n) ++ 34 ∷ [] ≡ out ++ quoted (letter ∷ decimal n)
module_put out letter n h =
    append_assoc (out ++ 34 ∷ letter ∷ []) (decimal n) (34 ∷ [])
    ∙ append_assoc out (34 ∷ letter ∷ []) (decimal n ++ 34 ∷ [])
    ∙ ap (λ (l : List ℕ). out ++ l) (sym (plain letter n h))
