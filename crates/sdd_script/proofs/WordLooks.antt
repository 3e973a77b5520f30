-- What the words of a spelling look like: each is a word, a text, holds no newline, and is no keyword where it could be mistaken for one.
use Rattle.sdd_script.proofs.All.{AllDigits, Bool, HasNoNewline, HasNoSpace, IsAscii-signed, IsPlain, IsUtf8, IsUtf8-append, IsUtf8-escaped, IsUtf8-from_ascii, IsUtf8-from_is_utf8, IsValue, IsWord, List, Op, Plain, Quoted, Value, Word, [], ap, append-nil, arith, before_point, begins_with_letter, behind_point, both_are, both_hold, decimal, decimal_digit, decimal_is_IsNumeral, digit_from_value, drop_all, eqb, escaped, escaped_byte, false, first_decimal, get_or, has_newline, is_digit, is_free, is_keyword, is_name, is_name_byte, is_point, is_sound, is_text, is_utf8, is_whole, length, list_all, looks_like_column, mag, name_is_utf8, names_column, nat_le, ne_eqb, negsuc, not, number_plain, or_false as or_parts, pos, position_or_len, refl, signed_decimal, spells_column, suc, true, value_word, whole_digits, word_bytes, ℕ, ℤ, ◌&&◌, ◌++◌, ◌+◌, ◌<◌, ◌^◌, ◌∷◌, ◌≡◌, ◌≢◌, ◌≤◌}
use Rattle.sdd_script.proofs.StepLaws.{not_true, of_le as le_is}
use Rattle.sdd_script.proofs.WordCuts.{NonePasses, none_at, before_again, after_again, position_again, no_point}
use Rattle.sdd_lang.specs.base.declared.restriction.Op.TheVariants as ops
use Rattle.sdd_lang.specs.base.declared.value.Value.TheVariants as values

-- a word as lines hold it
pub record IsFine (w : Word) : Type 0 where
  pub word : IsWord w
  pub utf8 : IsUtf8 (word_bytes w)
  pub sound : is_sound w ≡ true
  pub line : HasNoNewline (word_bytes w)

-- ---- bytes joined

pub no_newline-append : (a b : List ℕ) → HasNoNewline a → HasNoNewline b → HasNoNewline (a ++ b)
no_newline-append [] b h k = k
no_newline-append (c ∷ a) b h k = (h.0, no_newline-append a b h.1 k)

no_space-append : (a b : List ℕ) → HasNoSpace a → HasNoSpace b → HasNoSpace (a ++ b)
no_space-append [] b h k = k
no_space-append (c ∷ a) b h k = (h.0, no_space-append a b h.1 k)

plain-append : (a b : List ℕ) → IsPlain a → HasNoSpace b → IsPlain (a ++ b)
plain-append a b h k = grind (arith, no_space-append)

-- ---- names

pub not_it : (p : ℕ → Bool) (b k : ℕ) → p k ≡ false → p b ≡ true → b ≢ k
not_it p b k other e same = let q : p b ≡ p k = ap p same in absurd cc

-- bytes that all pass a test which a newline (a space, a point) doesn't
pub no_newlines : (p : ℕ → Bool) (bs : List ℕ) → p 10 ≡ false → list_all p bs ≡ true → HasNoNewline bs
no_newlines p [] n e = tt
no_newlines p (b ∷ bs) n e = let h = both_hold (p b) (list_all p bs) e in (not_it p b 10 n h.0, no_newlines p bs n h.1)

pub no_spaces : (p : ℕ → Bool) (bs : List ℕ) → p 32 ≡ false → list_all p bs ≡ true → HasNoSpace bs
no_spaces p [] n e = tt
no_spaces p (b ∷ bs) n e = let h = both_hold (p b) (list_all p bs) e in (not_it p b 32 n h.0, no_spaces p bs n h.1)

pub no_points : (p : ℕ → Bool) (bs : List ℕ) → p 46 ≡ false → list_all p bs ≡ true → NonePasses is_point bs
no_points p [] n e = tt
no_points p (b ∷ bs) n e = let h = both_hold (p b) (list_all p bs) e in (ne_eqb b 46 (not_it p b 46 n h.0), no_points p bs n h.1)

pub record IsNamed (bytes : List ℕ) : Type 0 where
  pub letter : begins_with_letter bytes ≡ true
  pub bytes_are : list_all is_name_byte bytes ≡ true
  pub no_key : is_keyword bytes ≡ false

pub name_parts : (bs : List ℕ) → is_name bs ≡ true → IsNamed bs
name_parts bs e = grind (arith, both_hold, nat_le, list_all, not_true)

pub name_fine : (bs : List ℕ) → is_name bs ≡ true → IsFine (Plain bs)
name_fine bs e = grind (arith, name_parts, no_spaces, name_is_utf8, no_newlines)

-- ---- words that are free

name_free_if : (bs : List ℕ) → begins_with_letter bs ≡ true → is_keyword bs ≡ false → is_free (Plain bs) ≡ true
name_free_if [] l k = absurd cc
name_free_if (c ∷ cs) l k = (grind arith)

pub name_free : (bs : List ℕ) → is_name bs ≡ true → is_free (Plain bs) ≡ true
name_free bs e = let n = name_parts bs e in name_free_if bs n.letter n.no_key

free_digit : (c : ℕ) (cs : List ℕ) → is_digit c ≡ true → is_free (Plain (c ∷ cs)) ≡ true
free_digit c cs d =
    (rw (
      (ne_eqb c 102 (not_it is_digit c 102 refl d)),
      (ne_eqb c 119 (not_it is_digit c 119 refl d)),
      (ne_eqb c 97 (not_it is_digit c 97 refl d)),
      (ne_eqb c 115 (not_it is_digit c 115 refl d)),
      (ne_eqb c 43 (not_it is_digit c 43 refl d)),
      (ne_eqb c 61 (not_it is_digit c 61 refl d)),
      (ne_eqb c 33 (not_it is_digit c 33 refl d)),
      (ne_eqb c 60 (not_it is_digit c 60 refl d)),
      (ne_eqb c 62 (not_it is_digit c 62 refl d)),
    ) refl)

-- ---- numbers

within : (c : ℕ) → 48 ≤ c → c ≤ 57 → is_digit c ≡ true
within c lo hi = both_are (nat_le 48 c) (nat_le c 57) (le_is 48 c lo) (le_is c 57 hi)

all_digits : (ds : List ℕ) → AllDigits 10 ds → list_all is_digit ds ≡ true
all_digits [] h = refl
all_digits (c ∷ ds) h = grind (arith, digit_from_value, both_are, list_all, within, (all_digits ds h.1))

digits_free : (ds rest : List ℕ) → 0 < length ds → list_all is_digit ds ≡ true → is_free (Plain (ds ++ rest)) ≡ true
digits_free [] rest some e = absurd (omega arith)
digits_free (c ∷ ds) rest some e = free_digit c (ds ++ rest) (both_hold (is_digit c) (list_all is_digit ds) e).0

pub record IsDecimal (n : ℕ) : Type 0 where
  pub some : 0 < length (decimal n)
  pub digits : list_all is_digit (decimal n) ≡ true

wide_parts : (n : ℕ) → n < 2 ^ 64 → IsDecimal n
wide_parts n lt = let k = decimal_is_IsNumeral n (omega arith) in record { some = k.0.0; digits = all_digits (decimal n) k.0.1 }

pub decimal_parts : (n : ℕ) → n < 2 ^ 63 → IsDecimal n
decimal_parts n lt = wide_parts n (omega arith)

pub decimal_free : (n : ℕ) (rest : List ℕ) → n < 2 ^ 63 → is_free (Plain (decimal n ++ rest)) ≡ true
decimal_free n rest lt = let d = decimal_parts n lt in digits_free (decimal n) rest d.some d.digits

signed_no_newline : (z : ℤ) → mag z < 2 ^ 63 → HasNoNewline (signed_decimal z)
signed_no_newline (pos n) lt = no_newlines is_digit (decimal n) refl (decimal_parts n lt).digits
signed_no_newline (negsuc n) lt =
    ((λ e. omega arith), no_newlines is_digit (decimal (suc n)) refl (wide_parts (suc n) (omega (arith, lt))).digits)

pub signed_no_point : (z : ℤ) → mag z < 2 ^ 63 → NonePasses is_point (signed_decimal z)
signed_no_point (pos n) lt = no_points is_digit (decimal n) refl (decimal_parts n lt).digits
signed_no_point (negsuc n) lt = (refl, no_points is_digit (decimal (suc n)) refl (wide_parts (suc n) (omega (arith, lt))).digits)

pub number_fine : (z : ℤ) → mag z < 2 ^ 63 → IsFine (Plain (signed_decimal z))
number_fine z lt = record {
  word = number_plain z lt;
  utf8 = IsUtf8-from_ascii (signed_decimal z) (IsAscii-signed z lt);
  sound = refl;
  line = signed_no_newline z lt;
}

pub number_free : (z : ℤ) → mag z < 2 ^ 63 → is_free (Plain (signed_decimal z)) ≡ true
number_free (pos n) lt = let d = decimal_parts n lt in rw append-nil at (digits_free (decimal n) [] d.some d.digits)
number_free (negsuc n) lt = refl

pub count_fine : (n : ℕ) → n < 2 ^ 63 → IsFine (Plain (decimal n))
count_fine n lt = number_fine (pos n) lt

pub count_free : (n : ℕ) → n < 2 ^ 63 → is_free (Plain (decimal n)) ≡ true
count_free n lt = number_free (pos n) lt

-- ---- texts

quote : IsUtf8 (34 ∷ [])
unfolding lib.Utf8.encode
quote = (34 ∷ [], (refl, refl))

escaped_no_newline : (text : List ℕ) → has_newline text ≡ false → HasNoNewline (escaped text)
escaped_no_newline [] e = tt
escaped_no_newline (c ∷ cs) e =
    let h = or_parts (eqb c 10) (has_newline cs) e in
    no_newline-append (escaped_byte c) (escaped cs) (grind arith)
    (escaped_no_newline cs h.1)

pub text_fine : (text : List ℕ) → is_text text ≡ true → IsFine (Quoted text)
text_fine text e =
    let all = both_hold (nat_le (length text) 255 && not (has_newline text)) (is_utf8 text) e in
    let front = both_hold (nat_le (length text) 255) (not (has_newline text)) all.0 in
    record {
      word = tt;
      utf8 = IsUtf8-append (34 ∷ []) (escaped text ++ 34 ∷ []) quote
          (IsUtf8-append (escaped text) (34 ∷ []) (IsUtf8-escaped text (IsUtf8-from_is_utf8 text all.1)) quote);
      sound = e;
      line = grind (arith, no_newline-append, escaped_no_newline, not_true);
    }

pub value_fine : (v : Value) → IsValue v → IsFine (value_word v)
value_fine (values.Int z) h = number_fine z h
value_fine (values.Text text) h = text_fine text h

pub value_free : (v : Value) → IsValue v → is_free (value_word v) ≡ true
value_free v h = grind (arith, number_free)

pub value_names_no_column : (op : Op) (v : Value) → IsValue v → names_column op (value_word v) ≡ false
value_names_no_column op v h = grind (arith, drop_all, position_or_len, none_at, signed_no_point)

-- ---- columns of uses

column_bytes_line : (n : ℕ) (name : List ℕ) → n < 2 ^ 63 → is_name name ≡ true → HasNoNewline (decimal n ++ 46 ∷ name)
column_bytes_line n name lt e =
    no_newline-append (decimal n) (46 ∷ name) (no_newlines is_digit (decimal n) refl (decimal_parts n lt).digits)
    ((λ p. omega arith), no_newlines is_name_byte name refl (name_parts name e).bytes_are)

point : IsUtf8 (46 ∷ [])
unfolding lib.Utf8.encode
point = (46 ∷ [], (refl, refl))

pub column_fine : (n : ℕ) (name : List ℕ) → n < 2 ^ 63 → is_name name ≡ true → IsFine (Plain (decimal n ++ 46 ∷ name))
column_fine n name lt e =
    let number = count_fine n lt in
    record {
      word = plain-append (decimal n) (46 ∷ name) number.word
          ((λ p. omega arith), no_spaces is_name_byte name refl (name_parts name e).bytes_are);
      utf8 = IsUtf8-append (decimal n) (46 ∷ name) number.utf8 (IsUtf8-append (46 ∷ []) name point (name_is_utf8 name e));
      sound = refl;
      line = column_bytes_line n name lt e;
    }

pub column_free : (n : ℕ) (name : List ℕ) → n < 2 ^ 63 → is_free (Plain (decimal n ++ 46 ∷ name)) ≡ true
column_free n name lt = decimal_free n (46 ∷ name) lt

pub before_is : (n : ℕ) (name : List ℕ) → n < 2 ^ 63 → before_point (decimal n ++ 46 ∷ name) ≡ decimal n
before_is n name lt =
    before_again is_point (decimal n) 46 name (no_points is_digit (decimal n) refl (decimal_parts n lt).digits) refl

pub behind_is : (n : ℕ) (name : List ℕ) → n < 2 ^ 63 → behind_point (decimal n ++ 46 ∷ name) ≡ name
behind_is n name lt =
    after_again is_point (decimal n) 46 name (no_points is_digit (decimal n) refl (decimal_parts n lt).digits) refl

pub column_looks : (n : ℕ) (name : List ℕ) → n < 2 ^ 63 → is_name name ≡ true → looks_like_column (Plain (decimal n ++ 46 ∷ name)) ≡ true
column_looks n name lt e =
    rw (
      position_again is_point (decimal n) 46 name (no_points is_digit (decimal n) refl (decimal_parts n lt).digits) refl,
      behind_is n name lt,
      no_point name (no_points is_name_byte name refl (name_parts name e).bytes_are),
    ) refl

whole_if : (ds : List ℕ) → 0 < length ds → list_all is_digit ds ≡ true → 48 < get_or ds 0 0 → whole_digits ds ≡ true
whole_if ds some h first = grind arith

pub decimal_whole : (n : ℕ) → n < 2 ^ 63 → whole_digits (decimal n) ≡ true
decimal_whole n lt = grind (arith, decimal_digit, decimal_parts, whole_if, first_decimal)

digits_whole : (ds : List ℕ) → list_all is_digit ds ≡ true → whole_digits ds ≡ true → is_whole ds ≡ true
digits_whole ds d e = grind arith

pub decimal_is_whole : (n : ℕ) → n < 2 ^ 63 → is_whole (decimal n) ≡ true
decimal_is_whole n lt = digits_whole (decimal n) (decimal_parts n lt).digits (decimal_whole n lt)

pub column_spelled : (n : ℕ) (name : List ℕ) → n < 2 ^ 63 → is_name name ≡ true → spells_column (decimal n ++ 46 ∷ name) ≡ true
column_spelled n name lt e = grind (arith, before_is, behind_is, decimal_whole)
