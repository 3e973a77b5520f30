-- Worked messages.
use Rattle.std.specs.Prelude.{ℕ, ◌≡◌, List, [], ◌∷◌, ◌++◌, take, replicate, Ok, Err, refl}
use Rattle.sdd_base.specs.Numbers.{class_no, time_at}
use Rattle.sdd_wire.specs.declared.msg.Msg.TheVariants.{Null, Hold}
use Rattle.sdd_wire.specs.Source.{number_at}
use Rattle.sdd_wire.specs.Spelling.{spelled_u32, spelled_u64, spelled}
use Rattle.sdd_wire.specs.Reading.{class_at, ts_at, text_at, value_at, values_at, null_at, message_at, message_in}

-- the NULL of class 2 at 191
abbrev null_bytes : List ℕ
null_bytes = 11 ∷ 0 ∷ 0 ∷ 0 ∷ 2 ∷ 0 ∷ 0 ∷ 0 ∷ 0 ∷ 0 ∷ 0 ∷ 0 ∷ 191 ∷ []

pub null_spelled : spelled (Null (class_no 2) (time_at 191)) ≡ null_bytes
unfolding spelled_u32 spelled_u64
null_spelled = refl

pub null_read : message_in null_bytes ≡ Ok (Null (class_no 2) (time_at 191))
unfolding message_in message_at null_at class_at ts_at number_at
null_read = refl

-- cut off in its time, which begins at place 5
pub null_cut_off : message_in (take 12 null_bytes) ≡ Err 5
unfolding message_in message_at null_at class_at ts_at number_at
null_cut_off = refl

-- with one byte after it
pub null_and_more : message_in (null_bytes ++ 0 ∷ []) ≡ Err 13
unfolding message_in message_at null_at class_at ts_at number_at
null_and_more = refl

-- no message has the tag 17, and none the tag 0; HOLD has no fields
pub tag_17 : message_in (17 ∷ []) ≡ Err 0
unfolding message_in message_at
tag_17 = refl

pub tag_0 : message_in (0 ∷ []) ≡ Err 0
unfolding message_in message_at
tag_0 = refl

pub hold_read : message_in (13 ∷ []) ≡ Ok Hold
unfolding message_in message_at
hold_read = refl

-- the VALUES of use 1 of the attempt at 65 of class 2, which are the bytes after the count
abbrev values_bytes : List ℕ → List ℕ → List ℕ
values_bytes count values =
    5 ∷ ((replicate 7 0 ++ 65 ∷ []) ++ (0 ∷ 0 ∷ 0 ∷ 2 ∷ []) ++ (0 ∷ 0 ∷ 0 ∷ 1 ∷ []) ++ count ++ values)

-- a count is read before its items: the first of 2^64 - 1 items isn't there, at place 25
pub no_items : message_in (values_bytes (replicate 8 255) []) ≡ Err 25
unfolding message_in message_at values_at value_at class_at ts_at number_at
no_items = refl

-- there is no kind 2 of value
pub kind_2 : message_in (values_bytes (replicate 7 0 ++ 1 ∷ []) (2 ∷ 1 ∷ 97 ∷ [])) ≡ Err 25
unfolding message_in message_at values_at value_at class_at ts_at number_at
kind_2 = refl

-- a text with a newline breaks at the place of its bytes
pub newline : message_in (values_bytes (replicate 7 0 ++ 1 ∷ []) (1 ∷ 2 ∷ 97 ∷ 10 ∷ [])) ≡ Err 27
unfolding message_in message_at values_at value_at text_at class_at ts_at number_at
newline = refl
