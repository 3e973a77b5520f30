-- The first word of what is left of a line.
use Rattle.sdd_words.proofs.All.{AllWords, HasNoSpace, IsLeft, List, Plain, Quoted, Word, [], ap, append_assoc, arith, behind_space, drop, drop-append_seam, escaped, false, get_or, is_space, length, line_bytes, more_bytes, nat_tests, ne_eqb, position_or_len, quote_from, refl, subst, sym, take, take-append_seam, unescaped, word_bytes, words_left, ℕ, ◌++◌, ◌<◌, ◌∙◌, ◌∷◌, ◌≡◌, ◌≢◌}
use Rattle.sdd_words.specs.Scan.{scan}
use Rattle.sdd_words.proofs.Points.{place_here, place_on}
use Rattle.sdd_words.proofs.Splits.{scan_again}
use Rattle.sdd_words.proofs.TextCuts.{ends_at_quote, text_back}

-- the words are those that are spelled
pub left_again : (ws : List Word) → AllWords ws → words_left (line_bytes ws) ≡ ws
unfolding scan
left_again ws h = grind (arith, scan_again)

pub is_left : (ws : List Word) → AllWords ws → IsLeft (line_bytes ws)
is_left ws h = grind (arith, left_again)

-- a word without quotes ends before the first space
ends_at_space : (word : List ℕ) (ws : List Word) → HasNoSpace word → position_or_len is_space (word ++ more_bytes ws) ≡ length word
ends_at_space [] [] h = refl
ends_at_space [] (w ∷ ws) h = place_here is_space 32 (word_bytes w ++ more_bytes ws) refl
ends_at_space (c ∷ cs) ws h = grind (arith, place_on, ne_eqb, (ends_at_space cs ws h.1))

-- a word without quotes at the front, and the words after it
record PlainFirst (bytes : List ℕ) (ws : List Word) : Type 0 where
  word : List ℕ
  more : List Word
  words : ws ≡ Plain word ∷ more
  spelled : bytes ≡ word ++ more_bytes more
  no_space : HasNoSpace word
  are_words : AllWords more

-- what it cuts off
record CutsOff (bytes rest : List ℕ) (made : Word) : Type 0 where
  cut : words_left bytes ≡ made ∷ words_left rest
  left : IsLeft rest

plain_at : (bytes : List ℕ) (n : ℕ) (left : IsLeft bytes) → 0 < length bytes → get_or bytes 0 0 ≢ 34 → n ≡ position_or_len is_space bytes
    → CutsOff bytes (behind_space (drop n bytes)) (Plain (take n bytes))
plain_at bytes n left some other at = grind (arith, position_or_len, ends_at_space, take-append_seam, drop-append_seam, nat_tests, left_again, is_left)

pub plain_cut : (bytes : List ℕ) (n : ℕ) → IsLeft bytes → 0 < length bytes → get_or bytes 0 0 ≢ 34 → n ≡ position_or_len is_space bytes
    → words_left bytes ≡ Plain (take n bytes) ∷ words_left (behind_space (drop n bytes))
plain_cut bytes n left some other at = (plain_at bytes n left some other at).cut

pub plain_left : (bytes : List ℕ) (n : ℕ) → IsLeft bytes → 0 < length bytes → get_or bytes 0 0 ≢ 34 → n ≡ position_or_len is_space bytes
    → IsLeft (behind_space (drop n bytes))
plain_left bytes n left some other at = (plain_at bytes n left some other at).left

-- a text at the front, and the words after it
record TextFirst (bytes : List ℕ) (ws : List Word) : Type 0 where
  text : List ℕ
  more : List Word
  words : ws ≡ Quoted text ∷ more
  spelled : bytes ≡ escaped text ++ 34 ∷ more_bytes more
  are_words : AllWords more

text_first : (bytes : List ℕ) (ws : List Word) → 34 ∷ bytes ≡ line_bytes ws → AllWords ws → TextFirst bytes ws
text_first bytes ws e h = grind (arith, append_assoc)

record CutsText (bytes : List ℕ) (n : ℕ) : Type 0 where
  cut : words_left (34 ∷ bytes) ≡ Quoted (unescaped (take n bytes)) ∷ words_left (behind_space (behind_space (drop n bytes)))
  left : IsLeft (behind_space (behind_space (drop n bytes)))
  spelled : take n bytes ≡ escaped (unescaped (take n bytes))

text_at : (bytes : List ℕ) (n : ℕ) (left : IsLeft (34 ∷ bytes)) → n ≡ quote_from false bytes → CutsText bytes n
text_at bytes n left at =
    let first = text_first bytes (words_left (34 ∷ bytes)) left.spelled left.words in
    let length_is : n ≡ length (escaped first.text) =
    at ∙ ap (quote_from false) first.spelled ∙ ends_at_quote first.text (more_bytes first.more) in
    let word_is : take n bytes ≡ escaped first.text =
    ap (λ (k : ℕ). take k bytes) length_is ∙ ap (λ (l : List ℕ). take (length (escaped first.text)) l) first.spelled
    ∙ take-append_seam (escaped first.text) (34 ∷ more_bytes first.more) in
    let dropped : drop n bytes ≡ 34 ∷ more_bytes first.more =
    ap (λ (k : ℕ). drop k bytes) length_is ∙ ap (λ (l : List ℕ). drop (length (escaped first.text)) l) first.spelled
    ∙ drop-append_seam (escaped first.text) (34 ∷ more_bytes first.more) in
    let text_is : unescaped (take n bytes) ≡ first.text = ap unescaped word_is ∙ text_back first.text in
    record {
      cut = grind (arith, left_again, words_left, behind_space);
      left = subst IsLeft (sym (ap (λ (l : List ℕ). behind_space (behind_space l)) dropped ∙ (grind (arith, nat_tests)))) (is_left first.more first.are_words);
      spelled = word_is ∙ ap escaped (sym text_is);
    }

pub text_cut : (bytes : List ℕ) (n : ℕ) → IsLeft (34 ∷ bytes) → n ≡ quote_from false bytes
    → words_left (34 ∷ bytes) ≡ Quoted (unescaped (take n bytes)) ∷ words_left (behind_space (behind_space (drop n bytes)))
text_cut bytes n left at = (text_at bytes n left at).cut

pub text_left : (bytes : List ℕ) (n : ℕ) → IsLeft (34 ∷ bytes) → n ≡ quote_from false bytes
    → IsLeft (behind_space (behind_space (drop n bytes)))
text_left bytes n left at = (text_at bytes n left at).left

pub text_spelled : (bytes : List ℕ) (n : ℕ) → IsLeft (34 ∷ bytes) → n ≡ quote_from false bytes
    → take n bytes ≡ escaped (unescaped (take n bytes))
text_spelled bytes n left at = (text_at bytes n left at).spelled
