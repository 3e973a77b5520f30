-- Worked examples.
use Rattle.std.specs.Prelude.{◌≡◌, [], ◌∷◌, codes, true, false, Some, None, refl}
use Rattle.sdd_words.specs.Keywords.{looks_like_column, spells_column}
use Rattle.sdd_words.specs.Lines.{cut_lines}
use Rattle.sdd_words.specs.Scan.{scan, words_of}
use Rattle.sdd_words.specs.Whole.{is_whole}
use Rattle.sdd_words.specs.Words.{line_bytes, Plain, Quoted}

-- a word and a text with a quote in it
pub two_words : words_of (codes "row \"a\\\"b\"") ≡ Some (Plain (codes "row") ∷ Quoted (codes "a\"b") ∷ [])
unfolding scan
two_words = refl

pub two_words_again : line_bytes (Plain (codes "row") ∷ Quoted (codes "a\"b") ∷ []) ≡ codes "row \"a\\\"b\""
two_words_again = refl

-- two spaces, another escape, and a text that goes on
pub two_spaces : words_of (codes "a  b") ≡ None
unfolding scan
two_spaces = refl

pub other_escape : words_of (codes "\"\\n\"") ≡ None
unfolding scan
other_escape = refl

pub text_goes_on : words_of (codes "\"a\"b") ≡ None
unfolding scan
text_goes_on = refl

-- the last line isn't ended
pub three_lines : cut_lines (codes "a\n\nb") ≡ (codes "a" ∷ [] ∷ [], codes "b")
unfolding cut_lines
three_lines = refl

pub minus_zero : is_whole (codes "-0") ≡ false
minus_zero = refl

pub one_point : looks_like_column (Quoted (codes "1.id")) ≡ true
one_point = refl

pub no_name : spells_column (codes "1.5") ≡ false
no_name = refl
