-- JSON text cut into pieces byte by byte, at the commas or newlines that stand in no string and within no bracket.
use Rattle.std.specs.Prelude.{ℕ, zero, suc, ◌≡◌, ◌==◌, ◌||◌, Bool, false, if◌then◌else◌, List, [], ◌∷◌, ◌++◌, codes, Option, Some, None, refl}

-- at what a text is cut
pub data Cut : Type 0 where
  Comma : Cut
  Newline : Cut

abbrev pub is_cut : Cut → ℕ → Bool
is_cut Comma c = c == 44
is_cut Newline c = c == 10

-- where a reader stands: within so many brackets, outside of strings; in a string; after a backslash of one
pub data Place : Type 0 where
  Within : ℕ → Place
  InString : ℕ → Place
  AfterSlash : ℕ → Place

-- how many brackets are open behind one that closes
abbrev pub closed : ℕ → ℕ
closed zero = zero
closed (suc depth) = depth

abbrev pub is_opening : ℕ → Bool
is_opening c = c == 91 || c == 123

abbrev pub is_closing : ℕ → Bool
is_closing c = c == 93 || c == 125

-- behind a byte
abbrev pub after : Place → ℕ → Place
after (Within depth) c =
    if c == 34 then InString depth else (
    if is_opening c then Within (suc depth) else (
    if is_closing c then Within (closed depth) else Within depth))
after (InString depth) c = if c == 34 then Within depth else (if c == 92 then AfterSlash depth else InString depth)
after (AfterSlash depth) c = InString depth

-- whether the text is cut at a byte, which stands in no string and within no bracket
abbrev pub cuts : Cut → Place → ℕ → Bool
cuts cut (Within zero) c = is_cut cut c
cuts cut _ c = false

-- bytes before the first piece
abbrev pub in_front : List ℕ → List (List ℕ) → List (List ℕ)
in_front bytes [] = bytes ∷ []
in_front bytes (piece ∷ pieces) = (bytes ++ piece) ∷ pieces

-- the pieces of a text, from a place on
abbrev pub pieces : Cut → Place → List ℕ → List (List ℕ)
pieces cut at [] = [] ∷ []
pieces cut at (c ∷ text) = if cuts cut at c then [] ∷ pieces cut at text else in_front (c ∷ []) (pieces cut (after at c) text)

abbrev pub first_piece : List (List ℕ) → List ℕ
first_piece [] = []
first_piece (piece ∷ pieces) = piece

-- what stands between the first byte of a text and its last one: between quotes or brackets

abbrev pub all_but_last : List ℕ → List ℕ
all_but_last [] = []
all_but_last (c ∷ []) = []
all_but_last (c ∷ d ∷ text) = c ∷ all_but_last (d ∷ text)

abbrev pub between_ends : List ℕ → List ℕ
between_ends [] = []
between_ends (c ∷ text) = all_but_last text

-- the items of a list, or the members of an object

abbrev pub items_in : List ℕ → List (List ℕ)
items_in [] = []
items_in (c ∷ text) = pieces Comma (Within 0) (c ∷ text)

abbrev pub items_of : List ℕ → List (List ℕ)
items_of text = items_in (between_ends text)

-- a text that follows another one
abbrev pub behind : List ℕ → List ℕ → Option (List ℕ)
behind [] text = Some text
behind (b ∷ start) [] = None
behind (b ∷ start) (c ∷ text) = if b == c then behind start text else None

-- worked: a list of a string with a comma, of a list and of a number
pub three_items : items_of (codes "[\"a,\\\"b\",[1,2],30]") ≡ codes "\"a,\\\"b\"" ∷ codes "[1,2]" ∷ codes "30" ∷ []
three_items = refl

pub no_item : items_of (codes "[]") ≡ []
no_item = refl

pub two_lines : pieces Newline (Within 0) (codes "{\"a\":1}\n{\"b\":[2]}\n") ≡ codes "{\"a\":1}" ∷ codes "{\"b\":[2]}" ∷ [] ∷ []
two_lines = refl

pub behind_name : behind (codes "\"put\":") (codes "\"put\":[1]") ≡ Some (codes "[1]")
behind_name = refl
