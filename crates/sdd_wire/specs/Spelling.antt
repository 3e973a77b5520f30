-- The bytes that spell a message: its tag, and its fields in order.
-- Numbers have their most significant byte first.
use Rattle.std.specs.Prelude.{ℕ, ℤ, List, [], ◌∷◌, ◌++◌, length, flat_map, Option, Some, None}
use Rattle.std.specs.Int.{w32, w64, to_be_bytes, cast_unsigned}
use Rattle.sdd_base.specs.declared.change.Change.{Change}
use Rattle.sdd_base.specs.declared.condition.Cond.{Cond}
use Rattle.sdd_base.specs.declared.number.ClassNo.{ClassNo}
use Rattle.sdd_base.specs.declared.number.FragNo.{FragNo}
use Rattle.sdd_base.specs.declared.number.RelNo.{RelNo}
use Rattle.sdd_base.specs.declared.number.Ts.{Ts}
use Rattle.sdd_base.specs.declared.number.TxnNo.{TxnNo}
use Rattle.sdd_base.specs.declared.restriction.Op.{Op}
use Rattle.sdd_base.specs.declared.restriction.Op.TheVariants.{Eq, Ne, Lt, Le, Gt, Ge}
use Rattle.sdd_base.specs.declared.restriction.Restriction.{Restriction}
use Rattle.sdd_base.specs.declared.usage.Use.{Use}
use Rattle.sdd_base.specs.declared.value.Value.{Value}
use Rattle.sdd_base.specs.declared.value.Value.TheVariants.{Int, Text}
use Rattle.sdd_wire.specs.declared.msg.Msg.{Msg}
use Rattle.sdd_wire.specs.declared.msg.Msg.TheVariants.{Read, Ready, Reject, Fetch, Values, Reduce, Reduced, Ship, Rows, Write, Null, Ask, Hold, Held}
use Rattle.sdd_wire.specs.declared.msg.Msg.TheVariants.{Done, Release}

unfoldable pub spelled_u32 : ℕ → List ℕ
spelled_u32 n = to_be_bytes w32 n

unfoldable pub spelled_u64 : ℕ → List ℕ
spelled_u64 n = to_be_bytes w64 n

-- in two's complement
unfoldable pub spelled_i64 : ℤ → List ℕ
spelled_i64 z = to_be_bytes w64 (cast_unsigned w64 z)

abbrev pub spelled_class : ClassNo → List ℕ
spelled_class class = spelled_u32 class.0

abbrev pub spelled_rel : RelNo → List ℕ
spelled_rel rel = spelled_u32 rel.0

abbrev pub spelled_frag : FragNo → List ℕ
spelled_frag frag = spelled_u32 frag.0

abbrev pub spelled_txn : TxnNo → List ℕ
spelled_txn txn = spelled_u32 txn.0

abbrev pub spelled_ts : Ts → List ℕ
spelled_ts ts = spelled_u64 ts.0

-- the count of the items, and each of them
abbrev pub spelled_list : {A : Type 0} → (A → List ℕ) → List A → List ℕ
spelled_list item xs = spelled_u64 (length xs) ++ flat_map item xs

abbrev pub spelled_pair : {A B : Type 0} → (A → List ℕ) → (B → List ℕ) → A × B → List ℕ
spelled_pair first second p = first p.0 ++ second p.1

-- a byte 0, or a byte 1 and the value
abbrev pub spelled_option : {A : Type 0} → (A → List ℕ) → Option A → List ℕ
spelled_option item None = 0 ∷ []
spelled_option item (Some x) = 1 ∷ item x

-- a byte for the length, and the bytes of the text
abbrev pub spelled_text : List ℕ → List ℕ
spelled_text text = length text ∷ text

-- a byte for the kind, and the number or the text
abbrev pub spelled_value : Value → List ℕ
spelled_value (Int z) = 0 ∷ spelled_i64 z
spelled_value (Text text) = 1 ∷ spelled_text text

abbrev pub spelled_row : List Value → List ℕ
spelled_row row = spelled_list spelled_value row

abbrev pub spelled_op : Op → List ℕ
spelled_op Eq = 1 ∷ []
spelled_op Ne = 2 ∷ []
spelled_op Lt = 3 ∷ []
spelled_op Le = 4 ∷ []
spelled_op Gt = 5 ∷ []
spelled_op Ge = 6 ∷ []

abbrev pub spelled_restriction : Restriction → List ℕ
spelled_restriction r = spelled_u32 r.column ++ spelled_op r.op ++ spelled_value r.value

abbrev pub spelled_use : Use → List ℕ
spelled_use u =
    spelled_u32 u.number ++ spelled_rel u.rel ++ spelled_list spelled_frag u.frags
    ++ spelled_list spelled_restriction u.restrictions

abbrev pub spelled_cond : Cond → List ℕ
spelled_cond c = spelled_class c.class ++ spelled_ts c.time ++ spelled_list spelled_frag c.frags

abbrev pub spelled_change : Change → List ℕ
spelled_change c = spelled_frag c.frag ++ spelled_i64 c.key ++ spelled_option spelled_row c.row

abbrev pub spelled : Msg → List ℕ
spelled (Read ts class txn attempt conds uses) =
    1 ∷ (spelled_ts ts ++ spelled_class class ++ spelled_txn txn ++ spelled_u64 attempt
    ++ spelled_list spelled_cond conds ++ spelled_list spelled_use uses)
spelled (Ready ts class counts) =
    2 ∷ (spelled_ts ts ++ spelled_class class ++ spelled_list (spelled_pair spelled_u32 spelled_u64) counts)
spelled (Reject ts class by write) =
    3 ∷ (spelled_ts ts ++ spelled_class class ++ spelled_class by ++ spelled_ts write)
spelled (Fetch ts class use_no column) =
    4 ∷ (spelled_ts ts ++ spelled_class class ++ spelled_u32 use_no ++ spelled_u32 column)
spelled (Values ts class use_no values) =
    5 ∷ (spelled_ts ts ++ spelled_class class ++ spelled_u32 use_no ++ spelled_list spelled_value values)
spelled (Reduce ts class use_no column values) =
    6 ∷ (spelled_ts ts ++ spelled_class class ++ spelled_u32 use_no ++ spelled_u32 column
    ++ spelled_list spelled_value values)
spelled (Reduced ts class use_no count) =
    7 ∷ (spelled_ts ts ++ spelled_class class ++ spelled_u32 use_no ++ spelled_u64 count)
spelled (Ship ts class) = 8 ∷ (spelled_ts ts ++ spelled_class class)
spelled (Rows ts class rows) =
    9 ∷ (spelled_ts ts ++ spelled_class class ++ spelled_list (spelled_pair spelled_u32 spelled_row) rows)
spelled (Write ts class txn changes) =
    10 ∷ (spelled_ts ts ++ spelled_class class ++ spelled_txn txn ++ spelled_list spelled_change changes)
spelled (Null class time) = 11 ∷ (spelled_class class ++ spelled_ts time)
spelled (Ask class time) = 12 ∷ (spelled_class class ++ spelled_ts time)
spelled Hold = 13 ∷ []
spelled (Held time) = 14 ∷ spelled_ts time
spelled (Done ts) = 15 ∷ spelled_ts ts
spelled (Release ts) = 16 ∷ spelled_ts ts
