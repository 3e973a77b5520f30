-- What the program puts in one piece, and what stands in such a piece.
use Rattle.std.specs.Prelude.{ℕ, ◌≡◌, ◌+◌, ◌-◌, ◌/◌, ◌%◌, List, [], ◌∷◌, codes, drop, length, refl, take}

-- the last four digits of a number, with noughts in front
abbrev pub last_four : ℕ → List ℕ
last_four n = (48 + n / 1000 % 10) ∷ (48 + n / 100 % 10) ∷ (48 + n / 10 % 10) ∷ (48 + n % 10) ∷ []

-- a text without so many bytes at its front and so many at its end
abbrev pub inner : ℕ → ℕ → List ℕ → List ℕ
inner front back text = take (length text - (front + back)) (drop front text)

-- the name in `,"NAME":`, which stands before a further member, or in `{"NAME":` before a first one
abbrev pub name_in : List ℕ → List ℕ
name_in key = inner 2 2 key

-- that in `,"NAME":[`, before a list
abbrev pub list_name_in : List ℕ → List ℕ
list_name_in key = inner 2 3 key

-- that in `,"NAME":true`
abbrev pub flag_name_in : List ℕ → List ℕ
flag_name_in text = inner 2 6 text

-- the word in `,"phase":"WORD"`
abbrev pub phase_in : List ℕ → List ℕ
phase_in text = inner 10 1 text

-- the kind of a message in `,"kind":"KIND"`
abbrev pub kind_in : List ℕ → List ℕ
kind_in text = inner 9 1 text

-- and in `,"kind":"KIND","class":"`
abbrev pub kind_before : List ℕ → List ℕ
kind_before text = inner 9 11 text

-- worked

pub name_of_time : name_in (codes ",\"time\":") ≡ codes "time"
name_of_time = refl

pub name_of_rows : list_name_in (codes ",\"rows\":[") ≡ codes "rows"
name_of_rows = refl

pub name_of_down : flag_name_in (codes ",\"down\":true") ≡ codes "down"
name_of_down = refl

pub word_of_idle : phase_in (codes ",\"phase\":\"idle\"") ≡ codes "idle"
word_of_idle = refl

pub kind_of_hold : kind_in (codes ",\"kind\":\"HOLD\"") ≡ codes "HOLD"
kind_of_hold = refl

pub kind_of_null : kind_before (codes ",\"kind\":\"NULL\",\"class\":\"") ≡ codes "NULL"
kind_of_null = refl

pub digits_of_2026 : last_four 12026 ≡ codes "2026"
digits_of_2026 = refl
