-- The pipe of a class at a data module: its READ, WRITE and NULL messages, in the order in which they came.
-- They are processed in that order.
use Rattle.std.specs.Prelude.{ℕ, pos, nat_le, max, ◌==◌, Bool, false, cond, List, [], ◌∷◌, ◌++◌, filter_map, fold, Option, Some, None, ◌≡◌, true, refl}
use Rattle.std.specs.List.{list_any}
use Rattle.sdd_base.specs.Words.{head_of, tail_of}
use Rattle.sdd_base.specs.Numbers.{class_no, time_at, txn_no}
use Rattle.sdd_base.specs.declared.number.FragNo.{FragNo}
use Rattle.sdd_base.specs.declared.change.Change.{Change}
use Rattle.sdd_wire.specs.declared.msg.Msg.{Msg}
use Rattle.sdd_wire.specs.declared.msg.Msg.TheVariants.{Write, Null}
use Rattle.sdd_wire.specs.Piped.{time_of}

-- the messages that are processed, and then those that aren't, each in the order in which they came
pub record Pipe : Type 0 where
  pub processed : List Msg
  pub unprocessed : List Msg

abbrev pub empty_pipe : Pipe
empty_pipe = record { processed = []; unprocessed = [] }

-- the pipe once the message came
abbrev pub put : Msg → Pipe → Pipe
put m p = record p { unprocessed = p.unprocessed ++ m ∷ [] }

-- the first message that isn't processed
abbrev pub head : Pipe → Option Msg
head p = head_of p.unprocessed

abbrev pub one_or_none : Option Msg → List Msg
one_or_none None = []
one_or_none (Some m) = m ∷ []

-- the pipe once its head is processed
abbrev pub head_processed : Pipe → Pipe
head_processed p = record { processed = p.processed ++ one_or_none (head p); unprocessed = tail_of p.unprocessed }

abbrev pub passed_by : Option Msg → List Msg → ℕ → Bool
passed_by (Some m) processed t = nat_le t (time_of m)
passed_by None processed t = list_any (λ m. nat_le t (time_of m)) processed

-- whether the class has passed a time: its head has that time or a later one, or it has no head and some
-- processed message had
abbrev pub passed : Pipe → ℕ → Bool
passed p t = passed_by (head p) p.processed t

-- whether some change is of one of the fragments
abbrev pub touches : List FragNo → List Change → Bool
touches frags changes = list_any (λ x. list_any (λ f. f.0 == x.frag.0) frags) changes

-- the timestamp of a WRITE that changes one of the fragments
abbrev pub write_time : List FragNo → Msg → Option ℕ
write_time frags (Write ts class txn changes) = cond (touches frags changes) (Some ts.0) None
write_time frags _ = None

abbrev pub raised : Option ℕ → ℕ → Option ℕ
raised None t = Some t
raised (Some u) t = Some (max u t)

-- the greatest of numbers, where there is one
abbrev pub greatest : List ℕ → Option ℕ
greatest numbers = fold raised None numbers

-- the greatest timestamp of a processed WRITE that changes one of the fragments
abbrev pub last_write : List FragNo → Pipe → Option ℕ
last_write frags p = greatest (filter_map (write_time frags) p.processed)

-- worked: a WRITE of fragment 2 at 65 is processed, and a NULL at 130 stands after it
abbrev change_of_2 : Change
change_of_2 = record { frag = record { 0 = 2 }; key = pos 4; row = None }

abbrev write_then_null : Pipe
write_then_null = head_processed (put (Null (class_no 1) (time_at 130)) (put (Write (time_at 65) (class_no 1) (txn_no 1) (change_of_2 ∷ [])) empty_pipe))

-- the class has passed 130 and not 131, and once the NULL is processed too, still so
pub passed_130 : passed write_then_null 130 ≡ true
passed_130 = refl

pub not_passed_131 : passed (head_processed write_then_null) 131 ≡ false
not_passed_131 = refl

-- its last write of fragments 1 and 2 is 65; of fragment 1 it has none
pub write_of_2 : last_write (record { 0 = 1 } ∷ record { 0 = 2 } ∷ []) write_then_null ≡ Some 65
write_of_2 = refl

pub no_write_of_1 : last_write (record { 0 = 1 } ∷ []) write_then_null ≡ None
no_write_of_1 = refl
