-- Strings are passed whole, and give back their text.
use Rattle.std.proofs.Common.{ap, arith, eqb-true, inl, inr, le-ltb, lt-ltb, ltb-false, ltb-true, ne_eqb, subst, sym, ◌∙◌}
use Rattle.std.proofs.lemmas.Bool.{cases_lt}
use Rattle.std.specs.Prelude.{ℕ, ◌≡◌, ◌==◌, ◌||◌, ◌<◌, ◌≤◌, ◌+◌, ◌-◌, ◌*◌, ◌⊎◌, nat_lt, Bool, true, false, if◌then◌else◌, List, [], ◌∷◌, ◌++◌, refl}
use Rattle.sdd_inside.specs.Json.{escaped, escaped_byte, hex_digit, numbered, quoted}
use Rattle.sdd_inside_read.proofs.Ends.{within_ends}
use Rattle.sdd_inside_read.proofs.Passing.{IsWhole, Passes, byte, nothing, then_byte, then_text, uncut_within}
use Rattle.sdd_inside_read.specs.Pieces.{AfterSlash, Cut, InString, Within}
use Rattle.sdd_inside_read.specs.Values.{Plain, hex_value, letter, string_of, unescaped}

-- how a character is spelled: by a letter behind a backslash, by its number, or by itself
data Spelled : ℕ → List ℕ → Type 0 where
  by_letter : {c l : ℕ} → (l == 117) ≡ false → letter l ≡ c → Spelled c (92 ∷ l ∷ [])
  by_number : {c x y : ℕ} → (x == 34) ≡ false → (x == 92) ≡ false → (y == 34) ≡ false → (y == 92) ≡ false → hex_value x * 16 + hex_value y ≡ c
      → Spelled c (92 ∷ 117 ∷ 48 ∷ 48 ∷ x ∷ y ∷ [])
  itself : {c : ℕ} → (c == 34) ≡ false → (c == 92) ≡ false → Spelled c (c ∷ [])

-- digits to the base 16

hex_back : (n : ℕ) → n < 16 → hex_value (hex_digit n) ≡ n
hex_back n l = elim (cases_lt n 10) [
  | inl low ↦ rw (lt-ltb n 10 low, lt-ltb (48 + n) 58 (omega (arith, low))) (omega arith)
  | inr high ↦ rw (le-ltb n 10 high, le-ltb (87 + n) 58 (omega (arith, high))) (omega arith)
]

hex_other : (n k : ℕ) → n < 16 → k ≡ 34 ⊎ k ≡ 92 → (hex_digit n == k) ≡ false
hex_other n k l is = elim (cases_lt n 10) [
  | inl low ↦ rw (lt-ltb n 10 low) (elim is [
    | inl e ↦ ne_eqb (48 + n) k (λ h. omega (arith, h, e, low))
    | inr e ↦ ne_eqb (48 + n) k (λ h. omega (arith, h, e, low))
  ])
  | inr high ↦ rw (le-ltb n 10 high) (elim is [
    | inl e ↦ ne_eqb (87 + n) k (λ h. omega (arith, h, e, high))
    | inr e ↦ ne_eqb (87 + n) k (λ h. omega (arith, h, e, high))
  ])
]

-- each character is spelled in one of these ways

lettered : (c n l : ℕ) (rest : List ℕ) → letter l ≡ n → (l == 117) ≡ false → Spelled c rest → Spelled c (if c == n then 92 ∷ l ∷ [] else rest)
lettered c n l rest is other h =
    elim (c == n) as (λ b. (c == n) ≡ b → Spelled c (if b then 92 ∷ l ∷ [] else rest)) [
      | true ↦ λ e. by_letter other (is ∙ sym (eqb-true c n e))
      | false ↦ λ e. h
    ] refl

control : (c : ℕ) → c < 32 → Spelled c (numbered c)
control c l =
    elim (nat_lt c 16) as (λ b. nat_lt c 16 ≡ b
    → Spelled c (92 ∷ 117 ∷ 48 ∷ 48 ∷ (if b then 48 ∷ hex_digit c ∷ [] else 49 ∷ hex_digit (c - 16) ∷ []))) [
      | true ↦ λ e. (let low : c < 16 = ltb-true c 16 e in
          by_number refl refl (hex_other c 34 low (inl refl)) (hex_other c 92 low (inr refl)) (omega (arith, hex_back c low)))
      | false ↦ λ e. (let high : 16 ≤ c = ltb-false c 16 e in
          let low : c - 16 < 16 = omega (arith, l) in
          by_number refl refl (hex_other (c - 16) 34 low (inl refl)) (hex_other (c - 16) 92 low (inr refl)) (omega (arith, hex_back (c - 16) low, high)))
    ] refl

ordinary : (c : ℕ) → (c == 34) ≡ false → (c == 92) ≡ false → Spelled c (if nat_lt c 32 then numbered c else c ∷ [])
ordinary c quote slash =
    elim (nat_lt c 32) as (λ b. nat_lt c 32 ≡ b → Spelled c (if b then numbered c else c ∷ [])) [
      | true ↦ λ e. control c (ltb-true c 32 e)
      | false ↦ λ e. itself quote slash
    ] refl

neither : (a b : Bool) → (a || b) ≡ false → (a ≡ false) × (b ≡ false)
neither false false h = (refl, refl)
neither _ _ h = absurd cc

special : (c : ℕ) → (c == 34 || c == 92) ≡ true → Spelled c (92 ∷ c ∷ [])
special c h =
    elim (c == 34) as (λ b. (c == 34) ≡ b → (b || c == 92) ≡ true → Spelled c (92 ∷ c ∷ [])) [
      | true ↦ λ e k. subst (λ x. Spelled x (92 ∷ x ∷ [])) (sym (eqb-true c 34 e)) (by_letter refl refl)
      | false ↦ λ e k. subst (λ x. Spelled x (92 ∷ x ∷ [])) (sym (eqb-true c 92 k)) (by_letter refl refl)
    ] refl h

abbrev by_kind : ℕ → List ℕ
by_kind c =
    if c == 8 then 92 ∷ 98 ∷ [] else (
    if c == 9 then 92 ∷ 116 ∷ [] else (
    if c == 10 then 92 ∷ 110 ∷ [] else (
    if c == 12 then 92 ∷ 102 ∷ [] else (
    if c == 13 then 92 ∷ 114 ∷ [] else (
    if nat_lt c 32 then numbered c else c ∷ [])))))

spelled : (c : ℕ) → Spelled c (escaped_byte c)
spelled c =
    elim (c == 34 || c == 92) as (λ b. (c == 34 || c == 92) ≡ b → Spelled c (if b then 92 ∷ c ∷ [] else by_kind c)) [
      | true ↦ λ e. special c e
      | false ↦ λ e. (let n = neither (c == 34) (c == 92) e in
          lettered c 8 98 _ refl refl (lettered c 9 116 _ refl refl (lettered c 10 110 _ refl refl
          (lettered c 12 102 _ refl refl (lettered c 13 114 _ refl refl (ordinary c n.0 n.1))))))
    ] refl

-- so a reader passes it, and has the character

in_string : (cut : Cut) (depth c : ℕ) → (c == 34) ≡ false → (c == 92) ≡ false → Passes cut (InString depth) (c ∷ []) (InString depth)
in_string cut depth c quote slash = byte cut (InString depth) (InString depth) c refl (rw (quote, slash) refl)

spelling_passes : (cut : Cut) (depth c : ℕ) (text : List ℕ) → Spelled c text → Passes cut (InString depth) text (InString depth)
spelling_passes cut depth c _ (by_letter {l = l} other is) =
    then_byte cut (InString depth) (AfterSlash depth) (InString depth) 92 (l ∷ []) refl refl (byte cut (AfterSlash depth) (InString depth) l refl refl)
spelling_passes cut depth c _ (by_number {x = x} {y = y} xq xs yq ys is) =
    then_byte cut (InString depth) (AfterSlash depth) (InString depth) 92 (117 ∷ 48 ∷ 48 ∷ x ∷ y ∷ []) refl refl
    (then_byte cut (AfterSlash depth) (InString depth) (InString depth) 117 (48 ∷ 48 ∷ x ∷ y ∷ []) refl refl
    (then_byte cut (InString depth) (InString depth) (InString depth) 48 (48 ∷ x ∷ y ∷ []) refl refl
    (then_byte cut (InString depth) (InString depth) (InString depth) 48 (x ∷ y ∷ []) refl refl
    (then_text cut (InString depth) (InString depth) (InString depth) (x ∷ []) (y ∷ []) (in_string cut depth x xq xs) (in_string cut depth y yq ys)))))
spelling_passes cut depth c _ (itself quote slash) = in_string cut depth c quote slash

spelling_read : (c : ℕ) (text rest : List ℕ) → Spelled c text → unescaped Plain (text ++ rest) ≡ c ∷ unescaped Plain rest
spelling_read c _ rest (by_letter {l = l} other is) = rw other (ap (λ x. x ∷ unescaped Plain rest) is)
spelling_read c _ rest (by_number {x = x} {y = y} xq xs yq ys is) =
    let value : (0 * 16 + hex_value x) * 16 + hex_value y ≡ c = omega (arith, is) in ap (λ v. v ∷ unescaped Plain rest) value
spelling_read c _ rest (itself quote slash) = rw slash refl

escaped_passes : (cut : Cut) (depth : ℕ) (text : List ℕ) → Passes cut (InString depth) (escaped text) (InString depth)
escaped_passes cut depth [] = nothing cut (InString depth)
escaped_passes cut depth (c ∷ text) =
    then_text cut (InString depth) (InString depth) (InString depth) (escaped_byte c) (escaped text)
    (spelling_passes cut depth c (escaped_byte c) (spelled c)) (escaped_passes cut depth text)

unescaped_again : (text : List ℕ) → unescaped Plain (escaped text) ≡ text
unescaped_again [] = refl
unescaped_again (c ∷ text) = spelling_read c (escaped_byte c) (escaped text) (spelled c) ∙ ap (λ x. c ∷ x) (unescaped_again text)

pub whole_string : (text : List ℕ) → IsWhole (quoted text)
whole_string text cut depth =
    then_byte cut (Within depth) (InString depth) (Within depth) 34 (escaped text ++ 34 ∷ []) (uncut_within cut depth 34 refl refl) refl
    (then_text cut (InString depth) (InString depth) (Within depth) (escaped text) (34 ∷ []) (escaped_passes cut depth text)
    (byte cut (InString depth) (Within depth) 34 refl refl))

pub string_again : (text : List ℕ) → string_of (quoted text) ≡ text
string_again text = ap (unescaped Plain) (within_ends 34 34 (escaped text)) ∙ unescaped_again text
