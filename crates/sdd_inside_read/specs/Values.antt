-- What JSON strings and numbers stand for, and the members of objects by their names.
use Rattle.std.specs.Prelude.{ℕ, zero, suc, ◌≡◌, ◌==◌, ◌+◌, ◌-◌, ◌*◌, nat_lt, if◌then◌else◌, List, [], ◌∷◌, codes, Option, None, refl}
use Rattle.std.specs.Option.{option_map_or}
use Rattle.std.specs.Str.Parse.{digits_value}
use Rattle.sdd_inside.specs.Json.{member}
use Rattle.sdd_inside_read.specs.Pieces.{behind, between_ends, in_front, items_of}
use Rattle.sdd_script.specs.All.{D, Site, T, dm_no, or_else, tm_no}
use Rattle.sdd_script.specs.base.declared.number.DmNo.{DmNo}
use Rattle.sdd_script.specs.base.declared.site.Site.TheVariants.{U}

-- numbers

abbrev pub number_of : List ℕ → ℕ
number_of text = digits_value 10 text

-- strings

-- where a reader of a string stands: between its characters; after a backslash; within the number of a character, of which so many digits
-- are missing beside the next one
pub data Within : Type 0 where
  Plain : Within
  Slash : Within
  Digits : ℕ → ℕ → Within

-- which character a letter after a backslash stands for
abbrev pub letter : ℕ → ℕ
letter c =
    if c == 98 then 8 else (
    if c == 116 then 9 else (
    if c == 110 then 10 else (
    if c == 102 then 12 else (
    if c == 114 then 13 else c))))

-- a digit of a number to the base 16
abbrev pub hex_value : ℕ → ℕ
hex_value c = if nat_lt c 58 then c - 48 else c - 87

-- the characters of a string, from a place on
abbrev pub unescaped : Within → List ℕ → List ℕ
unescaped at [] = []
unescaped Plain (c ∷ text) = if c == 92 then unescaped Slash text else c ∷ unescaped Plain text
unescaped Slash (c ∷ text) = if c == 117 then unescaped (Digits 3 0) text else letter c ∷ unescaped Plain text
unescaped (Digits zero value) (c ∷ text) = (value * 16 + hex_value c) ∷ unescaped Plain text
unescaped (Digits (suc missing) value) (c ∷ text) = unescaped (Digits missing (value * 16 + hex_value c)) text

abbrev pub string_of : List ℕ → List ℕ
string_of text = unescaped Plain (between_ends text)

-- the words of a text, with one space between two
abbrev pub words_of : List ℕ → List (List ℕ)
words_of [] = [] ∷ []
words_of (c ∷ text) = if c == 32 then [] ∷ words_of text else in_front (c ∷ []) (words_of text)

-- sites by their names: `U`, `T1`, `D2`

abbrev pub site_named : List ℕ → Site
site_named [] = U
site_named (c ∷ text) = if c == 84 then T (tm_no (number_of text)) else (if c == 68 then D (dm_no (number_of text)) else U)

abbrev pub site_of : List ℕ → Site
site_of text = site_named (string_of text)

-- the data module whose name a string is

abbrev pub module_named : List ℕ → DmNo
module_named [] = dm_no 0
module_named (c ∷ text) = dm_no (number_of text)

abbrev pub module_of : List ℕ → DmNo
module_of text = module_named (string_of text)

-- members

-- the value of the first member with the name
abbrev pub value_of : List ℕ → List (List ℕ) → Option (List ℕ)
value_of name [] = None
value_of name (m ∷ members) = or_else (behind (member name []) m) (value_of name members)

-- of members that are left out where they have nothing to tell: a list, and a number

abbrev pub list_in : List ℕ → List (List ℕ) → List (List ℕ)
list_in name members = option_map_or items_of (value_of name members) []

abbrev pub number_in : List ℕ → List (List ℕ) → ℕ
number_in name members = option_map_or number_of (value_of name members) 0

-- the value of a member that is there
abbrev pub value_in : List ℕ → List (List ℕ) → List ℕ
value_in name members = option_map_or (λ (v : List ℕ). v) (value_of name members) []

-- worked: a quote, a newline and the character with the number 31
pub unescapes : string_of (codes "\"a\\\"\\n\\u001fb\"") ≡ 97 ∷ 34 ∷ 10 ∷ 31 ∷ 98 ∷ []
unescapes = refl

pub a_site : site_of (codes "\"T12\"") ≡ T (tm_no 12)
a_site = refl

pub two_words : words_of (codes "up D1") ≡ codes "up" ∷ codes "D1" ∷ []
two_words = refl
