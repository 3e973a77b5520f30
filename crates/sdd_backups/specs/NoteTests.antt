-- What a note tells of a site, of two sites, or of a number that is written.
use Rattle.std.specs.Prelude.{ℕ, ◌==◌, ◌&&◌, nat_lt, Bool, false}
use Rattle.sdd_backups.specs.declared.note.Note.{Note}
use Rattle.sdd_backups.specs.declared.note.Note.TheVariants.{Tell, Write, Finish, Gone, Ok, Value, Stop}

abbrev pub is_stop : ℕ → Note → Bool
is_stop i (Stop a) = a == i
is_stop i _ = false

-- j learns that i has stopped
abbrev pub is_gone : ℕ → ℕ → Note → Bool
is_gone j i (Gone a b) = (a == j) && (b == i)
is_gone j i _ = false

-- i hears that j took its value
abbrev pub is_ok : ℕ → ℕ → Note → Bool
is_ok i j (Ok a b) = (a == i) && (b == j)
is_ok i j _ = false

-- i sends its value to j
abbrev pub is_tell : ℕ → ℕ → Note → Bool
is_tell i j (Tell a b v) = (a == i) && (b == j)
is_tell i j _ = false

-- i makes the write of this number
abbrev pub is_write : ℕ → ℕ → Note → Bool
is_write i number (Write a b) = (a == i) && (b == number)
is_write i number _ = false

-- some site makes the write of this number
abbrev pub is_number : ℕ → Note → Bool
is_number number (Write a b) = b == number
is_number number _ = false

abbrev pub is_finish : ℕ → Note → Bool
is_finish i (Finish a v) = a == i
is_finish i _ = false

-- j takes the value of i
abbrev pub is_value : ℕ → ℕ → Note → Bool
is_value j i (Value a b v) = (a == j) && (b == i)
is_value j i _ = false

-- j takes the value of a site above i
abbrev pub is_above : ℕ → ℕ → Note → Bool
is_above j i (Value a b v) = (a == j) && nat_lt i b
is_above j i _ = false
