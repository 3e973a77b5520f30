-- Worked messages, one of each kind, and the bytes that spell them, as a program that is written apart makes them.
use Rattle.std.specs.Prelude.{ℕ, ◌≡◌, pos, negsuc, List, [], ◌∷◌, ◌++◌, replicate, Some, None, refl}
use Rattle.sdd_base.specs.Numbers.{class_no, frag_no, rel_no, time_at, txn_no}
use Rattle.sdd_base.specs.declared.change.Change.{Change}
use Rattle.sdd_base.specs.declared.condition.Cond.{Cond}
use Rattle.sdd_base.specs.declared.restriction.Op.TheVariants.{Eq, Ne, Lt, Le, Gt, Ge}
use Rattle.sdd_base.specs.declared.usage.Use.{Use}
use Rattle.sdd_base.specs.declared.value.Value.TheVariants.{Int, Text}
use Rattle.sdd_wire.specs.declared.msg.Msg.TheVariants.{Read, Ready, Reject, Fetch, Values, Reduce, Reduced, Ship, Rows, Write, Null, Ask, Hold, Held}
use Rattle.sdd_wire.specs.declared.msg.Msg.TheVariants.{Done, Release}
use Rattle.sdd_wire.specs.Spelling.{spelled, spelled_i64, spelled_u32, spelled_u64}

-- four and eight bytes of a number below 256

abbrev four : ℕ → List ℕ
four n = 0 ∷ 0 ∷ 0 ∷ n ∷ []

abbrev eight : ℕ → List ℕ
eight n = replicate 7 0 ++ n ∷ []

-- the timestamp 66 of class 2
abbrev at_66 : List ℕ
at_66 = eight 66 ++ four 2

-- a READ

abbrev two_conds : List Cond
two_conds =
    record { class = class_no 2; time = time_at 191; frags = frag_no 1 ∷ frag_no 4 ∷ [] }
    ∷ record { class = class_no 3; time = time_at 127; frags = [] } ∷ []

abbrev bytes_of_conds : List ℕ
bytes_of_conds = eight 2 ++ (four 2 ++ eight 191 ++ eight 2 ++ four 1 ++ four 4) ++ (four 3 ++ eight 127 ++ eight 0)

abbrev first_use : Use
first_use = record {
  number = 1;
  rel = rel_no 2;
  frags = frag_no 1 ∷ frag_no 4 ∷ [];
  restrictions =
      record { column = 1; op = Eq; value = Int (pos 5) }
      ∷ record { column = 2; op = Ne; value = Text (98 ∷ 105 ∷ 107 ∷ 101 ∷ []) }
      ∷ record { column = 1; op = Lt; value = Int (negsuc 0) } ∷ [];
}

abbrev bytes_of_first : List ℕ
bytes_of_first =
    (four 1 ++ four 2) ++ (eight 2 ++ four 1 ++ four 4) ++ eight 3
    ++ (four 1 ++ 1 ∷ 0 ∷ eight 5) ++ (four 2 ++ 2 ∷ 1 ∷ 4 ∷ 98 ∷ 105 ∷ 107 ∷ 101 ∷ []) ++ (four 1 ++ 3 ∷ 0 ∷ replicate 8 255)

abbrev second_use : Use
second_use = record {
  number = 2;
  rel = rel_no 3;
  frags = [];
  restrictions =
      record { column = 1; op = Le; value = Int (pos 0) }
      ∷ record { column = 1; op = Gt; value = Text [] }
      ∷ record { column = 1; op = Ge; value = Int (pos 9) } ∷ [];
}

abbrev bytes_of_second : List ℕ
bytes_of_second =
    (four 2 ++ four 3) ++ eight 0 ++ eight 3
    ++ (four 1 ++ 4 ∷ 0 ∷ eight 0) ++ (four 1 ++ 5 ∷ 1 ∷ 0 ∷ []) ++ (four 1 ++ 6 ∷ 0 ∷ eight 9)

pub read : spelled (Read (time_at 65) (class_no 1) (txn_no 3) 2 two_conds (first_use ∷ second_use ∷ []))
    ≡ 1 ∷ (eight 65 ++ four 1 ++ four 3 ++ eight 2 ++ bytes_of_conds ++ eight 2 ++ bytes_of_first ++ bytes_of_second)
unfolding spelled_u32 spelled_u64 spelled_i64
read = refl

-- its answers

pub ready : spelled (Ready (time_at 66) (class_no 2) ((1, 0) ∷ (2, 4294967296) ∷ []))
    ≡ 2 ∷ (at_66 ++ eight 2 ++ (four 1 ++ eight 0) ++ (four 2 ++ 0 ∷ 0 ∷ 0 ∷ 1 ∷ four 0))
unfolding spelled_u32 spelled_u64
ready = refl

pub reject : spelled (Reject (time_at 66) (class_no 2) (class_no 1) (time_at 64)) ≡ 3 ∷ (at_66 ++ four 1 ++ eight 64)
unfolding spelled_u32 spelled_u64
reject = refl

-- questions and answers of an exchange

pub fetch : spelled (Fetch (time_at 66) (class_no 2) 1 3) ≡ 4 ∷ (at_66 ++ four 1 ++ four 3)
unfolding spelled_u32 spelled_u64
fetch = refl

pub values : spelled
    (Values (time_at 66) (class_no 2) 1
    (Int (negsuc 9223372036854775807) ∷ Int (pos 9223372036854775807) ∷ Text (97 ∷ []) ∷ Text (195 ∷ 169 ∷ 230 ∷ 188 ∷ 162 ∷ []) ∷ []))
    ≡ 5
    ∷ (at_66 ++ four 1 ++ eight 4 ++ (0 ∷ 128 ∷ replicate 7 0) ++ (0 ∷ 127 ∷ replicate 7 255) ++ (1 ∷ 1 ∷ 97 ∷ [])
    ++ (1 ∷ 5 ∷ 195 ∷ 169 ∷ 230 ∷ 188 ∷ 162 ∷ []))
unfolding spelled_u32 spelled_u64 spelled_i64
values = refl

pub reduce : spelled (Reduce (time_at 66) (class_no 2) 1 3 (Int (negsuc 0) ∷ Text (97 ∷ 110 ∷ 110 ∷ []) ∷ []))
    ≡ 6 ∷ (at_66 ++ four 1 ++ four 3 ++ eight 2 ++ (0 ∷ replicate 8 255) ++ (1 ∷ 3 ∷ 97 ∷ 110 ∷ 110 ∷ []))
unfolding spelled_u32 spelled_u64 spelled_i64
reduce = refl

pub reduced : spelled (Reduced (time_at 66) (class_no 2) 1 256) ≡ 7 ∷ (at_66 ++ four 1 ++ replicate 6 0 ++ 1 ∷ 0 ∷ [])
unfolding spelled_u32 spelled_u64
reduced = refl

pub ship : spelled (Ship (time_at 66) (class_no 2)) ≡ 8 ∷ at_66
unfolding spelled_u32 spelled_u64
ship = refl

pub rows : spelled (Rows (time_at 66) (class_no 2) ((1, Int (pos 1) ∷ Int (pos 7) ∷ []) ∷ (2, []) ∷ []))
    ≡ 9 ∷ (at_66 ++ eight 2 ++ (four 1 ++ eight 2 ++ (0 ∷ eight 1) ++ (0 ∷ eight 7)) ++ (four 2 ++ eight 0))
unfolding spelled_u32 spelled_u64 spelled_i64
rows = refl

-- what a Commit sends

abbrev two_changes : List Change
two_changes =
    record { frag = frag_no 1; key = pos 5; row = Some (Int (pos 5) ∷ Text (98 ∷ 98 ∷ []) ∷ []) }
    ∷ record { frag = frag_no 2; key = negsuc 4; row = None } ∷ []

pub write : spelled (Write (time_at 128) (class_no 0) (txn_no 9) two_changes)
    ≡ 10
    ∷ (eight 128 ++ four 0 ++ four 9 ++ eight 2 ++ (four 1 ++ eight 5 ++ 1 ∷ eight 2 ++ (0 ∷ eight 5) ++ (1 ∷ 2 ∷ 98 ∷ 98 ∷ []))
    ++ (four 2 ++ replicate 7 255 ++ 251 ∷ 0 ∷ []))
unfolding spelled_u32 spelled_u64 spelled_i64
write = refl

-- times

pub null : spelled (Null (class_no 4294967295) (time_at 18446744073709551615)) ≡ 11 ∷ replicate 12 255
unfolding spelled_u32 spelled_u64
null = refl

pub ask : spelled (Ask (class_no 2) (time_at 9223372036854775808)) ≡ 12 ∷ (four 2 ++ 128 ∷ replicate 7 0)
unfolding spelled_u32 spelled_u64
ask = refl

-- the barrier of an undeclared transaction

pub hold : spelled Hold ≡ 13 ∷ []
hold = refl

pub held : spelled (Held (time_at 255)) ≡ 14 ∷ eight 255
unfolding spelled_u64
held = refl

pub done_is : spelled (Done (time_at 16777216)) ≡ 15 ∷ (four 0 ++ 1 ∷ 0 ∷ 0 ∷ 0 ∷ [])
unfolding spelled_u64
done_is = refl

pub release : spelled (Release (time_at 72623859790382856)) ≡ 16 ∷ 1 ∷ 2 ∷ 3 ∷ 4 ∷ 5 ∷ 6 ∷ 7 ∷ 8 ∷ []
unfolding spelled_u64
release = refl
