-- Texts of words: at most MAX_TEXT_BYTES bytes of UTF-8, none of them a newline.
use Rattle.std.specs.Prelude.{ℕ, nat_le, ◌==◌, ◌&&◌, not, length, List, Bool, true, Option, Some, None, if◌then◌else◌}
use Rattle.std.specs.List.{list_any}
use Rattle.std.specs.Str.{is_utf8}
use Rattle.sdd_base.specs.declared.limits.TheConstants.{MAX_TEXT_BYTES}
use Rattle.sdd_words.specs.Words.{Word, Plain, Quoted}

abbrev pub has_newline : List ℕ → Bool
has_newline bytes = list_any (λ c. c == 10) bytes

abbrev pub is_text : List ℕ → Bool
is_text bytes = nat_le (length bytes) MAX_TEXT_BYTES && not (has_newline bytes) && is_utf8 bytes

-- the text, if it is one
abbrev pub text_in : List ℕ → Option (List ℕ)
text_in bytes = if is_text bytes then Some bytes else None

-- whether a word that is written as a text is one
abbrev pub is_sound : Word → Bool
is_sound (Plain bytes) = true
is_sound (Quoted text) = is_text text
