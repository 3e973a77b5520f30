-- The message that bytes spell, or the place of the first field that breaks its spelling.
use Rattle.std.specs.Prelude.{ℕ, ℤ, nat_le, ◌&&◌, not, Bool, true, false, if◌then◌else◌, List, [], ◌∷◌, length, Option, Some, None, Result, Ok, Err}
use Rattle.std.specs.Int.{w32, w64, cast_signed}
use Rattle.sdd_base.specs.Words.{is_empty, contains}
use Rattle.std.specs.Str.{is_utf8}
use Rattle.sdd_base.specs.Numbers.{class_no, rel_no, frag_no, txn_no, time_at}
use Rattle.sdd_base.specs.declared.limits.TheConstants.{MAX_TEXT_BYTES}
use Rattle.sdd_base.specs.declared.change.Change.{Change}
use Rattle.sdd_base.specs.declared.condition.Cond.{Cond}
use Rattle.sdd_base.specs.declared.number.ClassNo.{ClassNo}
use Rattle.sdd_base.specs.declared.number.FragNo.{FragNo}
use Rattle.sdd_base.specs.declared.number.RelNo.{RelNo}
use Rattle.sdd_base.specs.declared.number.Ts.{Ts}
use Rattle.sdd_base.specs.declared.number.TxnNo.{TxnNo}
use Rattle.sdd_base.specs.declared.restriction.Op.{Op}
use Rattle.sdd_base.specs.declared.restriction.Op.TheVariants.{Eq, Ne, Lt, Le, Gt, Ge}
use Rattle.sdd_base.specs.declared.restriction.Restriction.{Restriction}
use Rattle.sdd_base.specs.declared.usage.Use.{Use}
use Rattle.sdd_base.specs.declared.value.Value.{Value}
use Rattle.sdd_base.specs.declared.value.Value.TheVariants.{Int, Text}
use Rattle.sdd_wire.specs.declared.fault.WireFault.{WireFault}
use Rattle.sdd_wire.specs.declared.fault.WireFault.TheVariants.{Bad, NoMemory}
use Rattle.sdd_wire.specs.declared.msg.Msg.{Msg}
use Rattle.sdd_wire.specs.declared.msg.Msg.TheVariants.{Read, Ready, Reject, Fetch, Values, Reduce, Reduced, Ship, Rows, Write, Null, Ask, Hold, Held}
use Rattle.sdd_wire.specs.declared.msg.Msg.TheVariants.{Done, Release}
use Rattle.sdd_wire.specs.Source.{Source, source_of, place, Reading, ◌>>=◌, read_as, meant, piece_at, byte_at, number_at, numbered, flag_at}
use Rattle.sdd_wire.specs.Source.{list_at, pair_at, option_at}

-- the place in a fault, which is none where memory ran out
abbrev pub fault_in : WireFault → Option ℕ
fault_in (Bad broken) = Some broken
fault_in NoMemory = None

unfoldable pub i64_at : Reading ℤ
i64_at = do
  n ← number_at w64
  read_as (cast_signed w64 n)

unfoldable pub class_at : Reading ClassNo
class_at = do
  n ← number_at w32
  read_as (class_no n)

unfoldable pub rel_at : Reading RelNo
rel_at = do
  n ← number_at w32
  read_as (rel_no n)

unfoldable pub frag_at : Reading FragNo
frag_at = do
  n ← number_at w32
  read_as (frag_no n)

unfoldable pub txn_at : Reading TxnNo
txn_at = do
  n ← number_at w32
  read_as (txn_no n)

unfoldable pub ts_at : Reading Ts
ts_at = do
  n ← number_at w64
  read_as (time_at n)

abbrev pub is_text : List ℕ → Bool
is_text bytes = nat_le (length bytes) MAX_TEXT_BYTES && not (contains bytes 10) && is_utf8 bytes

-- the text of a column that bytes are, if they are one
abbrev pub text_in : List ℕ → Option (List ℕ)
text_in bytes = if is_text bytes then Some bytes else None

unfoldable pub text_at : Reading (List ℕ)
text_at = do
  size ← byte_at
  meant text_in (piece_at size)

abbrev pub value_by : Bool → Reading Value
value_by false = do
  z ← i64_at
  read_as (Int z)
value_by true = do
  text ← text_at
  read_as (Text text)

unfoldable pub value_at : Reading Value
value_at = flag_at >>= value_by

abbrev pub row_at : Reading (List Value)
row_at = list_at value_at

-- the operators, by their bytes
abbrev pub ops_by_byte : List Op
ops_by_byte = Eq ∷ Ne ∷ Lt ∷ Le ∷ Gt ∷ Ge ∷ []

unfoldable pub op_at : Reading Op
op_at = meant (numbered ops_by_byte) byte_at

unfoldable pub restriction_at : Reading Restriction
restriction_at = do
  column ← number_at w32
  op ← op_at
  value ← value_at
  read_as (record { column = column; op = op; value = value })

unfoldable pub use_at : Reading Use
use_at = do
  number ← number_at w32
  rel ← rel_at
  frags ← list_at frag_at
  restrictions ← list_at restriction_at
  read_as (record { number = number; rel = rel; frags = frags; restrictions = restrictions })

unfoldable pub cond_at : Reading Cond
cond_at = do
  class ← class_at
  time ← ts_at
  frags ← list_at frag_at
  read_as (record { class = class; time = time; frags = frags })

unfoldable pub change_at : Reading Change
change_at = do
  frag ← frag_at
  key ← i64_at
  row ← option_at row_at
  read_as (record { frag = frag; key = key; row = row })

-- the fields of each message

unfoldable pub read_at : Reading Msg
read_at = do
  ts ← ts_at
  class ← class_at
  txn ← txn_at
  attempt ← number_at w64
  conds ← list_at cond_at
  uses ← list_at use_at
  read_as (Read ts class txn attempt conds uses)

unfoldable pub ready_at : Reading Msg
ready_at = do
  ts ← ts_at
  class ← class_at
  counts ← list_at (pair_at (number_at w32) (number_at w64))
  read_as (Ready ts class counts)

unfoldable pub reject_at : Reading Msg
reject_at = do
  ts ← ts_at
  class ← class_at
  by ← class_at
  write ← ts_at
  read_as (Reject ts class by write)

unfoldable pub fetch_at : Reading Msg
fetch_at = do
  ts ← ts_at
  class ← class_at
  use_no ← number_at w32
  column ← number_at w32
  read_as (Fetch ts class use_no column)

unfoldable pub values_at : Reading Msg
values_at = do
  ts ← ts_at
  class ← class_at
  use_no ← number_at w32
  values ← list_at value_at
  read_as (Values ts class use_no values)

unfoldable pub reduce_at : Reading Msg
reduce_at = do
  ts ← ts_at
  class ← class_at
  use_no ← number_at w32
  column ← number_at w32
  values ← list_at value_at
  read_as (Reduce ts class use_no column values)

unfoldable pub reduced_at : Reading Msg
reduced_at = do
  ts ← ts_at
  class ← class_at
  use_no ← number_at w32
  count ← number_at w64
  read_as (Reduced ts class use_no count)

unfoldable pub ship_at : Reading Msg
ship_at = do
  ts ← ts_at
  class ← class_at
  read_as (Ship ts class)

unfoldable pub rows_at : Reading Msg
rows_at = do
  ts ← ts_at
  class ← class_at
  rows ← list_at (pair_at (number_at w32) row_at)
  read_as (Rows ts class rows)

unfoldable pub write_at : Reading Msg
write_at = do
  ts ← ts_at
  class ← class_at
  txn ← txn_at
  changes ← list_at change_at
  read_as (Write ts class txn changes)

unfoldable pub null_at : Reading Msg
null_at = do
  class ← class_at
  time ← ts_at
  read_as (Null class time)

unfoldable pub ask_at : Reading Msg
ask_at = do
  class ← class_at
  time ← ts_at
  read_as (Ask class time)

unfoldable pub held_at : Reading Msg
held_at = do
  time ← ts_at
  read_as (Held time)

unfoldable pub done_at : Reading Msg
done_at = do
  ts ← ts_at
  read_as (Done ts)

unfoldable pub release_at : Reading Msg
release_at = do
  ts ← ts_at
  read_as (Release ts)

-- the readings of the fields, by the messages' tags
abbrev pub fields_by_tag : List (Reading Msg)
fields_by_tag =
    read_at ∷ ready_at ∷ reject_at ∷ fetch_at ∷ values_at ∷ reduce_at ∷ reduced_at ∷ ship_at
    ∷ rows_at ∷ write_at ∷ null_at ∷ ask_at ∷ read_as Hold ∷ held_at ∷ done_at ∷ release_at ∷ []

-- a tag, and the fields of its message
unfoldable pub message_at : Reading Msg
message_at = meant (numbered fields_by_tag) byte_at >>= (λ fields. fields)

-- nothing may follow
abbrev pub whole : Result (Msg × Source) ℕ → Result Msg ℕ
whole (Ok read) = if is_empty read.1.left then Ok read.0 else Err (place read.1)
whole (Err broken) = Err broken

-- the message of which the bytes are the whole spelling, and else the place where they break it
unfoldable pub message_in : List ℕ → Result Msg ℕ
message_in bytes = whole (message_at (source_of bytes))
