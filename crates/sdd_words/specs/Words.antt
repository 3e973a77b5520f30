-- The words of a line, and how they are spelled.
use Rattle.std.specs.Prelude.{◌≢◌, ℕ, List, [], ◌∷◌, ◌++◌, ◌==◌, ◌||◌, Bool, if◌then◌else◌}

-- A word of a line: without quotes, by its bytes, or a text between quotes, by the bytes that it stands for.
pub data Word : Type 0 where
  Plain : List ℕ → Word
  Quoted : List ℕ → Word

-- a quote or a backslash, which stand after a backslash in a text
abbrev pub is_special : ℕ → Bool
is_special c = c == 34 || c == 92

abbrev pub escaped_byte : ℕ → List ℕ
escaped_byte c = if is_special c then 92 ∷ c ∷ [] else c ∷ []

-- the spelling of a text, without its quotes
abbrev pub escaped : List ℕ → List ℕ
escaped [] = []
escaped (c ∷ cs) = escaped_byte c ++ escaped cs

abbrev pub word_bytes : Word → List ℕ
word_bytes (Plain bytes) = bytes
word_bytes (Quoted text) = 34 ∷ (escaped text ++ 34 ∷ [])

-- a word after a space
abbrev pub spaced : Word → List ℕ
spaced w = 32 ∷ word_bytes w

-- further words, each after one space
abbrev pub more_bytes : List Word → List ℕ
more_bytes [] = []
more_bytes (w ∷ ws) = 32 ∷ (word_bytes w ++ more_bytes ws)

-- the words of a line, with one space between two
abbrev pub line_bytes : List Word → List ℕ
line_bytes [] = []
line_bytes (w ∷ ws) = word_bytes w ++ more_bytes ws

abbrev pub HasNoSpace : List ℕ → Type 0
HasNoSpace [] = Unit {0}
HasNoSpace (c ∷ cs) = (c ≢ 32) × HasNoSpace cs

-- a plain word is not empty, holds no space and begins with no quote
abbrev pub IsPlain : List ℕ → Type 0
IsPlain [] = ⊥
IsPlain (c ∷ cs) = (c ≢ 34) × (c ≢ 32) × HasNoSpace cs

abbrev pub IsWord : Word → Type 0
IsWord (Plain bytes) = IsPlain bytes
IsWord (Quoted text) = Unit {0}

abbrev pub AllWords : List Word → Type 0
AllWords [] = Unit {0}
AllWords (w ∷ ws) = IsWord w × AllWords ws

-- the words of a line: at least one
abbrev pub AreWords : List Word → Type 0
AreWords [] = ⊥
AreWords (w ∷ ws) = IsWord w × AllWords ws
