-- JSON without spaces: strings, lists, and the members of objects.
use Rattle.std.specs.Prelude.{ℕ, ◌≡◌, ◌==◌, ◌&&◌, ◌||◌, ◌+◌, ◌-◌, nat_le, nat_lt, not, Bool, true, false, if◌then◌else◌, List, [], ◌∷◌, ◌++◌, flat_map, codes, refl}
use Rattle.std.specs.Fmt.{decimal}

abbrev pub hex_digit : ℕ → ℕ
hex_digit n = if nat_lt n 10 then 48 + n else 87 + n

-- a control character by its number in four digits
abbrev pub numbered : ℕ → List ℕ
numbered c = codes "\\u00" ++ (if nat_lt c 16 then 48 ∷ hex_digit c ∷ [] else 49 ∷ hex_digit (c - 16) ∷ [])

-- a byte of a string: quotes and backslashes stand after a backslash, control characters have a letter or a number,
-- and all else stands for itself
abbrev pub escaped_byte : ℕ → List ℕ
escaped_byte c =
    if c == 34 || c == 92 then 92 ∷ c ∷ [] else (
    if c == 8 then codes "\\b" else (
    if c == 9 then codes "\\t" else (
    if c == 10 then codes "\\n" else (
    if c == 12 then codes "\\f" else (
    if c == 13 then codes "\\r" else (
    if nat_lt c 32 then numbered c else c ∷ []))))))

abbrev pub escaped : List ℕ → List ℕ
escaped text = flat_map escaped_byte text

-- whether a byte of a string stands for itself
abbrev pub is_verbatim : ℕ → Bool
is_verbatim c = (nat_le 32 c && not (c == 34)) && not (c == 92)

-- a string
abbrev pub quoted : List ℕ → List ℕ
quoted text = 34 ∷ (escaped text ++ 34 ∷ [])

-- what stands after a comma
abbrev pub further : {A : Type 0} → (A → List ℕ) → A → List ℕ
further f x = 44 ∷ f x

-- texts with a comma between two
abbrev pub separated : {A : Type 0} → (A → List ℕ) → List A → List ℕ
separated f [] = []
separated f (x ∷ xs) = f x ++ flat_map (further f) xs

-- a list of items of one kind
abbrev pub array : {A : Type 0} → (A → List ℕ) → List A → List ℕ
array f xs = 91 ∷ (separated f xs ++ 93 ∷ [])

-- lists of two and three items of their own kinds

abbrev pub pair : List ℕ → List ℕ → List ℕ
pair a b = 91 ∷ (a ++ 44 ∷ (b ++ 93 ∷ []))

abbrev pub triple : List ℕ → List ℕ → List ℕ → List ℕ
triple a b c = 91 ∷ (a ++ 44 ∷ (b ++ 44 ∷ (c ++ 93 ∷ [])))

-- a member of an object: the first one, and one that follows another, which proofs see as one piece

abbrev pub member : List ℕ → List ℕ → List ℕ
member name value = 34 ∷ (name ++ 34 ∷ 58 ∷ value)

unfoldable pub also : List ℕ → List ℕ → List ℕ
also name value = 44 ∷ member name value

-- members that are left out where they have nothing to tell

abbrev pub unless_empty : {A : Type 0} → List ℕ → (A → List ℕ) → List A → List ℕ
unless_empty name f [] = []
unless_empty name f (x ∷ xs) = also name (array f (x ∷ xs))

abbrev pub if_true : List ℕ → Bool → List ℕ
if_true name false = []
if_true name true = also name (codes "true")

abbrev pub unless_zero : List ℕ → ℕ → List ℕ
unless_zero name n = if n == 0 then [] else also name (decimal n)

-- an object: its first member, and those that follow
abbrev pub object : List ℕ → List ℕ → List ℕ
object first more = 123 ∷ (first ++ (more ++ 125 ∷ []))

-- worked: after a letter a quote, a backslash, a tab, the character with the number 31, a newline and the one with the number 127
pub escapes : quoted (97 ∷ 34 ∷ 92 ∷ 9 ∷ 31 ∷ 10 ∷ 127 ∷ []) ≡ codes "\"a\\\"\\\\\\t\\u001f\\n\u{7f}\""
escapes = refl
