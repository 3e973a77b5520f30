-- Readings of bytes from the front.
use Rattle.std.specs.Prelude.{ℕ, zero, suc, ◌-◌, nat_lt, Bool, true, false, if◌then◌else◌, List, [], ◌∷◌, length, take, drop, slice_get, Option, Some}
use Rattle.std.specs.Prelude.{None, Result, Ok, Err}
use Rattle.std.specs.Int.{Width, w64, byte_len, from_be_bytes}

-- the bytes that are left, of so many
pub record Source : Type 0 where
  pub whole : ℕ
  pub left : List ℕ

abbrev pub source_of : List ℕ → Source
source_of bytes = record { whole = length bytes; left = bytes }

-- the place of the first byte that is left, counted from 0
abbrev pub place : Source → ℕ
place s = s.whole - length s.left

-- what is read, and what is left after it; or the place of the first field that is cut off or that
-- can't have its value
abbrev pub Reading : Type 0 → Type 0
Reading A = Source → Result (A × Source) ℕ

abbrev pub after : {A B : Type 0} → Result (A × Source) ℕ → (A → Reading B) → Result (B × Source) ℕ
after (Ok x) next = next x.0 x.1
after (Err broken) next = Err broken

-- one reading and then the next, which is given what the first one read
infixl 10 ◌>>=◌
abbrev pub ◌>>=◌ : {A B : Type 0} → Reading A → (A → Reading B) → Reading B
first >>= next = λ s. after (first s) next

-- the end of a reading: this is what was read
abbrev pub read_as : {A : Type 0} → A → Reading A
read_as x s = Ok (x, s)

abbrev pub known_at : {A : Type 0} → ℕ → Option A → Reading A
known_at broken None s = Err broken
known_at broken (Some x) s = Ok (x, s)

-- what a field stands for; a field that stands for nothing breaks at its place
abbrev pub meant : {A B : Type 0} → (A → Option B) → Reading A → Reading B
meant meaning field s = after (field s) (λ x. known_at (place s) (meaning x))

-- exactly n bytes
abbrev pub piece_at : ℕ → Reading (List ℕ)
piece_at n s =
    if nat_lt (length s.left) n then Err (place s)
    else Ok (take n s.left, record s { left = drop n s.left })

abbrev pub first_byte : Source → List ℕ → Result (ℕ × Source) ℕ
first_byte s [] = Err (place s)
first_byte s (byte ∷ rest) = Ok (byte, record s { left = rest })

abbrev pub byte_at : Reading ℕ
byte_at s = first_byte s s.left

-- a number, its most significant byte first
unfoldable pub number_at : Width → Reading ℕ
number_at w = do
  bytes ← piece_at (byte_len w)
  read_as (from_be_bytes w bytes)

-- a member of a list by its number, counted from 1
abbrev pub numbered : {A : Type 0} → List A → ℕ → Option A
numbered xs zero = None
numbered xs (suc n) = slice_get xs n

abbrev pub flag : ℕ → Option Bool
flag zero = Some false
flag (suc zero) = Some true
flag (suc (suc n)) = None

-- a byte 0 or 1
abbrev pub flag_at : Reading Bool
flag_at = meant flag byte_at

-- so many items
abbrev pub items_at : {A : Type 0} → Reading A → ℕ → Reading (List A)
items_at item zero = read_as []
items_at item (suc n) = item >>= (λ x. items_at item n >>= (λ xs. read_as (x ∷ xs)))

-- a list: the count of its items, and each of them
abbrev pub list_at : {A : Type 0} → Reading A → Reading (List A)
list_at item = number_at w64 >>= items_at item

-- two values, one after the other
abbrev pub pair_at : {A B : Type 0} → Reading A → Reading B → Reading (A × B)
pair_at first second = do
  a ← first
  b ← second
  read_as (a, b)

abbrev pub if_there : {A : Type 0} → Reading A → Bool → Reading (Option A)
if_there item is_there = if is_there then (item >>= (λ x. read_as (Some x))) else read_as None

-- a byte 0, or a byte 1 and a value
abbrev pub option_at : {A : Type 0} → Reading A → Reading (Option A)
option_at item = flag_at >>= if_there item
