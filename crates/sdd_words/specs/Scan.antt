-- Reading the words of a line byte by byte.
use Rattle.std.specs.Prelude.{ℕ, List, [], ◌∷◌, ◌++◌, ◌==◌, Option, Some, None, if◌then◌else◌}
use Rattle.std.specs.Option.{option_map}
use Rattle.sdd_words.specs.Words.{is_special, Word, Plain, Quoted}
use Rattle.sdd_words.specs.declared.split.Mode.{Mode}
use Rattle.sdd_words.specs.declared.split.Mode.TheVariants.{Start, InPlain, InText, Escape, Closed}
use Rattle.sdd_words.specs.declared.split.Move.{Move}
use Rattle.sdd_words.specs.declared.split.Move.TheVariants.{Goes, Adds, Ends, Refuses}

-- what the next byte does: before a word, in a plain word, in a text, after a backslash, after the closing quote
abbrev pub move_of : Mode → ℕ → Move
move_of Start c = if c == 34 then Goes InText else (if c == 32 then Refuses else Adds InPlain)
move_of InPlain c = if c == 32 then Ends else Adds InPlain
move_of InText c = if c == 34 then Goes Closed else (if c == 92 then Goes Escape else Adds InText)
move_of Escape c = if is_special c then Adds InText else Refuses
move_of Closed c = if c == 32 then Ends else Refuses

-- where what the byte does leads to, none where it may not stand there
abbrev pub moves_to : Move → Option Mode
moves_to (Goes to) = Some to
moves_to (Adds to) = Some to
moves_to Ends = Some Start
moves_to Refuses = None

abbrev pub mode_after : Mode → ℕ → Option Mode
mode_after mode c = moves_to (move_of mode c)

-- the word that was read
abbrev pub word_of : Mode → List ℕ → Word
word_of Closed text = Quoted text
word_of _ text = Plain text

-- the word that the end of the line ends
abbrev pub last_word : Mode → List ℕ → Option Word
last_word InPlain text = Some (Plain text)
last_word Closed text = Some (Quoted text)
last_word _ text = None

abbrev pub words_at_end : Mode → List ℕ → Option (List Word)
words_at_end mode text = option_map (λ w. w ∷ []) (last_word mode text)

-- the words before, and those that are read after them
abbrev pub onto : List Word → Option (List Word) → Option (List Word)
onto front read = option_map (λ ws. front ++ ws) read

abbrev pub moved : Move → Mode → List ℕ → ℕ → (Mode → List ℕ → Option (List Word)) → Option (List Word)
moved (Goes to) mode text c read_on = read_on to text
moved (Adds to) mode text c read_on = read_on to (text ++ c ∷ [])
moved Ends mode text c read_on = onto (word_of mode text ∷ []) (read_on Start [])
moved Refuses mode text c read_on = None

-- the words of bytes, in a mode and with the word so far; none where they are no words with one space between two
unfoldable pub scan : Mode → List ℕ → List ℕ → Option (List Word)
scan mode text [] = words_at_end mode text
scan mode text (c ∷ cs) = moved (move_of mode c) mode text c (λ m t. scan m t cs)

-- the words of a line
abbrev pub words_of : List ℕ → Option (List Word)
words_of line = scan Start [] line
