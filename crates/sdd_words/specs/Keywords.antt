-- Words that stand for themselves, and the places that a word can take by its looks alone.
use Rattle.std.specs.Prelude.{ℕ, List, codes, ◌==◌, ◌&&◌, ◌||◌, not, Bool, true, false, Option, Some, None, is_some, if◌then◌else◌}
use Rattle.std.specs.List.{position, before_first, after_first}
use Rattle.std.specs.Str.{bytes_eq}
use Rattle.sdd_base.specs.Name.{is_keyword, is_name}
use Rattle.sdd_base.specs.declared.restriction.Op.{Op}
use Rattle.sdd_base.specs.declared.restriction.Op.TheVariants as ops
use Rattle.sdd_words.specs.Whole.{whole_digits}
use Rattle.sdd_words.specs.Words.{Word, Plain, Quoted}

-- whether a word is this one, written plainly
abbrev pub is_key : List ℕ → Word → Bool
is_key key (Plain bytes) = bytes_eq bytes key
is_key key (Quoted text) = false

-- what an operator is written as
abbrev pub op_word : Op → List ℕ
op_word ops.Eq = codes "="
op_word ops.Ne = codes "!="
op_word ops.Lt = codes "<"
op_word ops.Le = codes "<="
op_word ops.Gt = codes ">"
op_word ops.Ge = codes ">="

abbrev pub op_in : List ℕ → Option Op
op_in bytes =
    if bytes_eq bytes (op_word ops.Eq) then Some ops.Eq else (
    if bytes_eq bytes (op_word ops.Ne) then Some ops.Ne else (
    if bytes_eq bytes (op_word ops.Lt) then Some ops.Lt else (
    if bytes_eq bytes (op_word ops.Le) then Some ops.Le else (
    if bytes_eq bytes (op_word ops.Gt) then Some ops.Gt else (
    if bytes_eq bytes (op_word ops.Ge) then Some ops.Ge else None)))))

abbrev pub op_of : Word → Option Op
op_of (Plain bytes) = op_in bytes
op_of (Quoted text) = None

-- whether `=` or `+=` stands there, and which: true for `+=`
abbrev pub adds_in : List ℕ → Option Bool
adds_in bytes = if bytes_eq bytes (codes "=") then Some false else (if bytes_eq bytes (codes "+=") then Some true else None)

abbrev pub adds_of : Word → Option Bool
adds_of (Plain bytes) = adds_in bytes
adds_of (Quoted text) = None

-- the keywords of names, the operators and `+=`
abbrev pub is_reserved : List ℕ → Bool
is_reserved bytes = is_keyword bytes || bytes_eq bytes (codes "+=") || is_some (op_in bytes)

-- a word that can stand for a name, a number, a site or a value
abbrev pub is_free : Word → Bool
is_free (Plain bytes) = not (is_reserved bytes)
is_free (Quoted text) = true

-- the bytes of a word, and of a text those between its quotes
abbrev pub content : Word → List ℕ
content (Plain bytes) = bytes
content (Quoted text) = text

abbrev pub is_point : ℕ → Bool
is_point c = c == 46

abbrev pub has_point : List ℕ → Bool
has_point bytes = is_some (position is_point bytes)

abbrev pub before_point : List ℕ → List ℕ
before_point bytes = before_first is_point bytes

abbrev pub behind_point : List ℕ → List ℕ
behind_point bytes = after_first is_point bytes

-- a word that can stand for a column of a use: it has one point
abbrev pub has_one_point : List ℕ → Bool
has_one_point bytes = has_point bytes && not (has_point (behind_point bytes))

abbrev pub looks_like_column : Word → Bool
looks_like_column w = has_one_point (content w)

-- a number without sign, a point and a name
abbrev pub spells_column : List ℕ → Bool
spells_column bytes = whole_digits (before_point bytes) && is_name (behind_point bytes)

-- after `=` such a word stands for a column, and any other for a value
abbrev pub names_column : Op → Word → Bool
names_column ops.Eq (Plain bytes) = spells_column bytes
names_column _ _ = false
