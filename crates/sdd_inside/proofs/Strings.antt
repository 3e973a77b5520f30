-- Strings that are put piece by piece.
use Rattle.std.proofs.Common.{◌≡◌, ℕ, List, [], ◌∷◌, ◌++◌, map, flat_map, sym, ap, ◌∙◌, append_assoc}
use Rattle.std.specs.Cmp.{first_so, second_so}
use Rattle.std.specs.Fmt.{signed_decimal}
use Rattle.std.specs.List.{list_all}
use Rattle.std.specs.Prelude.{ℤ, true, false, refl}
use Rattle.sdd_script.specs.All.{Plain, Value, Word}
use Rattle.sdd_script.specs.base.declared.value.Value.TheVariants.{Int, Text}
use Rattle.sdd_script.specs.words.Values.{value_word}
use Rattle.sdd_script.specs.words.Words.{word_bytes, line_bytes, more_bytes, spaced}
use Rattle.sdd_script.proofs.words.Written.{flat_map-append, words_spaced}
use Rattle.sdd_script.proofs.Pieces.{three_words, keyed}
use Rattle.sdd_inside.specs.Json.{escaped, escaped_byte, quoted}
use Rattle.sdd_inside.specs.Words.{is_number}
use Rattle.sdd_inside.proofs.Verbatim.{AreVerbatim, both_verbatim, signed_verbatim, verbatim}

-- a name, the sign # and a number
pub attempt_put : (out name number : List ℕ)
    → ((((out ++ 34 ∷ []) ++ escaped name) ++ 35 ∷ []) ++ escaped number) ++ 34 ∷ [] ≡ out ++ quoted (name ++ 35 ∷ number)
attempt_put out name number =
    let whole : escaped (name ++ 35 ∷ number) ≡ escaped name ++ 35 ∷ escaped number = flat_map-append escaped_byte name (35 ∷ number) in
    append_assoc (((out ++ 34 ∷ []) ++ escaped name) ++ 35 ∷ []) (escaped number) (34 ∷ [])
    ∙ append_assoc ((out ++ 34 ∷ []) ++ escaped name) (35 ∷ []) (escaped number ++ 34 ∷ [])
    ∙ append_assoc (out ++ 34 ∷ []) (escaped name) (35 ∷ (escaped number ++ 34 ∷ []))
    ∙ append_assoc out (34 ∷ []) (escaped name ++ 35 ∷ (escaped number ++ 34 ∷ []))
    ∙ ap (λ (l : List ℕ). out ++ 34 ∷ l) (sym (append_assoc (escaped name) (35 ∷ escaped number) (34 ∷ [])))
    ∙ ap (λ (l : List ℕ). out ++ 34 ∷ (l ++ 34 ∷ [])) (sym whole)

-- the first value of a row and the others
pub values_put : (out : List ℕ) (first : Value) (rest : List Value)
    → (out ++ word_bytes (value_word first)) ++ flat_map (λ (v : Value). spaced (value_word v)) rest
    ≡ out ++ line_bytes (map value_word (first ∷ rest))
values_put out first rest =
    append_assoc out (word_bytes (value_word first)) (flat_map (λ (v : Value). spaced (value_word v)) rest)
    ∙ ap (λ (l : List ℕ). out ++ (word_bytes (value_word first) ++ l)) (words_spaced value_word rest)

-- a line of four words
pub key_three : (out key : List ℕ) (a b c : Word)
    → (((out ++ key) ++ spaced a) ++ spaced b) ++ spaced c ≡ out ++ line_bytes (Plain key ∷ a ∷ b ∷ c ∷ [])
key_three out key a b c = three_words (out ++ key) a b c ∙ keyed out key (a ∷ b ∷ c ∷ [])

-- what stands between quotes, and each byte of it for itself
pub as_quoted : (out text : List ℕ) → AreVerbatim text → ((out ++ 34 ∷ []) ++ text) ++ 34 ∷ [] ≡ out ++ quoted text
as_quoted out text h =
    append_assoc (out ++ 34 ∷ []) text (34 ∷ [])
    ∙ append_assoc out (34 ∷ []) (text ++ 34 ∷ [])
    ∙ ap (λ (l : List ℕ). out ++ 34 ∷ (l ++ 34 ∷ [])) (sym (verbatim text h))

-- a number
pub key_put : (out : List ℕ) (z : ℤ) → ((out ++ 34 ∷ []) ++ signed_decimal z) ++ 34 ∷ [] ≡ out ++ quoted (signed_decimal z)
key_put out z = as_quoted out (signed_decimal z) (signed_verbatim z)

-- a row of numbers

value_verbatim : (v : Value) → is_number v ≡ true → AreVerbatim (word_bytes (value_word v))
value_verbatim (Int n) h = signed_verbatim n
value_verbatim (Text t) h = let no : false ≡ true = h in cc

more_verbatim : (values : List Value) → list_all is_number values ≡ true → AreVerbatim (more_bytes (map value_word values))
more_verbatim [] h = refl
more_verbatim (v ∷ values) h =
    both_verbatim (word_bytes (value_word v)) (more_bytes (map value_word values))
    (value_verbatim v (first_so (is_number v) (list_all is_number values) h))
    (more_verbatim values (second_so (is_number v) (list_all is_number values) h))

row_verbatim : (values : List Value) → list_all is_number values ≡ true → AreVerbatim (line_bytes (map value_word values))
row_verbatim [] h = refl
row_verbatim (v ∷ values) h = more_verbatim (v ∷ values) h

pub numbers_put : (out : List ℕ) (values : List Value) → list_all is_number values ≡ true
    → ((out ++ 34 ∷ []) ++ line_bytes (map value_word values)) ++ 34 ∷ [] ≡ out ++ quoted (line_bytes (map value_word values))
numbers_put out values h = as_quoted out (line_bytes (map value_word values)) (row_verbatim values h)
