-- Words as their line spells them, one after the other.
use Rattle.std.specs.Prelude.{ℕ, ◌+◌, ◌-◌, ◌==◌, take, length, List, [], ◌∷◌, Bool, true, false, Option, Some, None, ◌≡◌, if◌then◌else◌}
use Rattle.sdd_words.specs.Scan.{words_of}
use Rattle.sdd_words.specs.Words.{AllWords, escaped, line_bytes, Word, Plain, Quoted}

-- whether a byte of a text's spelling leads on to the next one, which stands for itself
abbrev pub leads_on : Bool → ℕ → Bool
leads_on true c = false
leads_on false c = c == 92

-- what the spelling of a text stands for; the first byte stands after a backslash or not
unfoldable pub unescaped_from : Bool → List ℕ → List ℕ
unescaped_from behind [] = []
unescaped_from behind (c ∷ cs) = if leads_on behind c then unescaped_from true cs else c ∷ unescaped_from false cs

-- the text of a spelling between quotes
abbrev pub unescaped : List ℕ → List ℕ
unescaped spelling = unescaped_from false spelling

-- whether the byte after a byte of a text stands after a backslash, none where the byte is the quote that ends the text
abbrev pub passes_to : Bool → ℕ → Option Bool
passes_to true c = Some false
passes_to false c = if c == 34 then None else Some (c == 92)

abbrev pub one_more : Option Bool → (Bool → ℕ) → ℕ
one_more None count = 0
one_more (Some behind) count = 1 + count behind

-- how many bytes stand before the quote that ends a text; the first byte stands after a backslash or not
unfoldable pub quote_from : Bool → List ℕ → ℕ
quote_from behind [] = 0
quote_from behind (c ∷ cs) = one_more (passes_to behind c) (λ b. quote_from b cs)

abbrev pub is_space : ℕ → Bool
is_space c = c == 32

-- what follows the space after a word, or nothing
abbrev pub behind_space : List ℕ → List ℕ
behind_space [] = []
behind_space (c ∷ cs) = cs

-- what stands before the last bytes, without the space there
abbrev pub before : List ℕ → List ℕ → List ℕ
before bytes [] = bytes
before bytes (c ∷ cs) = take (length bytes - length (c ∷ cs) - 1) bytes

-- the word of a spelling, that of a text without its quotes
abbrev pub word_spelled : Bool → List ℕ → Word
word_spelled true spelling = Quoted (unescaped spelling)
word_spelled false spelling = Plain spelling

-- the spelling of a text is that of what it stands for
abbrev pub IsSpelling : Bool → List ℕ → Type 0
IsSpelling true spelling = spelling ≡ escaped (unescaped spelling)
IsSpelling false spelling = Unit {0}

abbrev pub IsText : Word → Type 0
IsText word = (text : List ℕ) × (word ≡ Quoted text)

abbrev pub or_none : Option (List Word) → List Word
or_none None = []
or_none (Some ws) = ws

-- the words that are left of a line, by the bytes that are left
abbrev pub words_left : List ℕ → List Word
words_left bytes = or_none (words_of bytes)

-- bytes that are words with one space between two, or none
pub record IsLeft (bytes : List ℕ) : Type 0 where
  pub words : AllWords (words_left bytes)
  pub spelled : bytes ≡ line_bytes (words_left bytes)
