-- Conditions, changes and messages are passed whole.
use Rattle.std.specs.Prelude.{ℕ, List, [], ◌++◌, codes, length, Option, Some, None, refl}
use Rattle.std.specs.Fmt.{decimal}
use Rattle.sdd_inside.specs.Json.{also, array, member}
use Rattle.sdd_inside.specs.Messages.{ack_json, at_time, message_json, of_class, of_kind, packet_json, rows_json, rows_of, values_json}
use Rattle.sdd_inside.specs.Words.{attempt_json, change_json, class_json, cond_json, fragment_json, key_json, row_or_null_json, time_json, txn_json}
use Rattle.sdd_inside.specs.declared.delta.InFlight.{InFlight}
use Rattle.sdd_inside.specs.declared.delta.InFlight.TheVariants.{Ack, Again, First}
use Rattle.sdd_inside_read.proofs.DigitsPass.{whole_number}
use Rattle.sdd_inside_read.proofs.JsonPass.{inner_also, inner_number, whole_array, whole_member, whole_object, whole_pair, whole_triple}
use Rattle.sdd_inside_read.proofs.NamesPass.{whole_attempt, whole_class, whole_fragment, whole_key, whole_row, whole_txn}
use Rattle.sdd_inside_read.proofs.Passing.{IsInner, IsWhole, inner_join, inner_none, whole_of_plain}
use Rattle.sdd_inside_read.proofs.StringsPass.{whole_string}
use Rattle.sdd_script.specs.All.{Catalogue, Txn, Value}
use Rattle.sdd_script.specs.base.declared.change.Change.{Change}
use Rattle.sdd_script.specs.base.declared.condition.Cond.{Cond}
use Rattle.sdd_script.specs.base.declared.number.ClassNo.{ClassNo}
use Rattle.sdd_script.specs.base.declared.number.Ts.{Ts}
use Rattle.sdd_wire.specs.declared.msg.Msg.{Msg}
use Rattle.sdd_wire.specs.declared.msg.Msg.TheVariants as messages

-- rows, conditions and changes

pub whole_row_or_null : (cat : Catalogue) (txns : List Txn) (row : Option (List Value)) → IsWhole (row_or_null_json cat txns row)
whole_row_or_null cat txns None = whole_of_plain (codes "null") refl
whole_row_or_null cat txns (Some values) = whole_row cat txns values

pub whole_cond : (cat : Catalogue) (txns : List Txn) (c : Cond) → IsWhole (cond_json cat txns c)
whole_cond cat txns c = whole_pair (class_json cat txns c.class) (time_json cat txns c.time) (whole_class cat txns c.class) (whole_number c.time.0)

pub whole_change : (cat : Catalogue) (txns : List Txn) (c : Change) → IsWhole (change_json cat txns c)
whole_change cat txns c =
    whole_triple (fragment_json cat txns c.frag) (key_json cat txns c.key) (row_or_null_json cat txns c.row) (whole_fragment cat txns c.frag) (whole_key cat txns c.key)
    (whole_row_or_null cat txns c.row)

-- members of messages

inner_kind : (kind : List ℕ) → IsInner (of_kind kind)
inner_kind kind = inner_also (codes "kind") _ refl (whole_string kind)

inner_time : (kind : List ℕ) (time : Ts) → IsInner (at_time kind time)
inner_time kind time = inner_join (of_kind kind) (also (codes "time") (decimal time.0)) (inner_kind kind) (inner_number (codes "time") time.0 refl)

inner_class : (kind : List ℕ) (cat : Catalogue) (txns : List Txn) (class : ClassNo) (time : Ts) → IsInner (of_class kind cat txns class time)
inner_class kind cat txns class time =
    inner_join (of_kind kind) (also (codes "class") (class_json cat txns class) ++ also (codes "time") (decimal time.0)) (inner_kind kind)
    (inner_join (also (codes "class") (class_json cat txns class)) (also (codes "time") (decimal time.0))
    (inner_also (codes "class") (class_json cat txns class) refl (whole_class cat txns class)) (inner_number (codes "time") time.0 refl))

-- after the class two members more
inner_two : (kind : List ℕ) (cat : Catalogue) (txns : List Txn) (class : ClassNo) (time : Ts) (v w : List ℕ) → IsInner v → IsInner w
    → IsInner (of_class kind cat txns class time ++ (v ++ w))
inner_two kind cat txns class time v w h k =
    inner_join (of_class kind cat txns class time) (v ++ w) (inner_class kind cat txns class time) (inner_join v w h k)

pub inner_message : (cat : Catalogue) (txns : List Txn) (m : Msg) → IsInner (message_json cat txns m)
inner_message cat txns (messages.Read ts class txn attempt conds uses) =
    inner_two (codes "READ") cat txns class ts (also (codes "txn") (attempt_json txns txn attempt)) (also (codes "conds") (array (cond_json cat txns) conds))
    (inner_also (codes "txn") (attempt_json txns txn attempt) refl (whole_attempt txns txn attempt))
    (inner_also (codes "conds") (array (cond_json cat txns) conds) refl (whole_array (cond_json cat txns) conds (whole_cond cat txns)))
inner_message cat txns (messages.Ready ts class counts) =
    inner_join (of_class (codes "READY") cat txns class ts) (rows_json (rows_of counts)) (inner_class (codes "READY") cat txns class ts)
    (inner_number (codes "rows") (rows_of counts) refl)
inner_message cat txns (messages.Reject ts class by write) =
    inner_two (codes "REJECT") cat txns class ts (also (codes "by") (class_json cat txns by)) (also (codes "write") (time_json cat txns write))
    (inner_also (codes "by") (class_json cat txns by) refl (whole_class cat txns by)) (inner_number (codes "write") write.0 refl)
inner_message cat txns (messages.Fetch ts class use_no column) = inner_class (codes "FETCH") cat txns class ts
inner_message cat txns (messages.Values ts class use_no values) =
    inner_join (of_class (codes "VALUES") cat txns class ts) (values_json (length values)) (inner_class (codes "VALUES") cat txns class ts)
    (inner_number (codes "values") (length values) refl)
inner_message cat txns (messages.Reduce ts class use_no column values) =
    inner_join (of_class (codes "REDUCE") cat txns class ts) (values_json (length values)) (inner_class (codes "REDUCE") cat txns class ts)
    (inner_number (codes "values") (length values) refl)
inner_message cat txns (messages.Reduced ts class use_no count) =
    inner_join (of_class (codes "REDUCED") cat txns class ts) (rows_json count) (inner_class (codes "REDUCED") cat txns class ts)
    (inner_number (codes "rows") count refl)
inner_message cat txns (messages.Ship ts class) = inner_class (codes "SHIP") cat txns class ts
inner_message cat txns (messages.Rows ts class rows) =
    inner_join (of_class (codes "ROWS") cat txns class ts) (rows_json (length rows)) (inner_class (codes "ROWS") cat txns class ts)
    (inner_number (codes "rows") (length rows) refl)
inner_message cat txns (messages.Write ts class txn changes) =
    inner_two (codes "WRITE") cat txns class ts (also (codes "txn") (txn_json cat txns txn)) (also (codes "changes") (array (change_json cat txns) changes))
    (inner_also (codes "txn") (txn_json cat txns txn) refl (whole_txn cat txns txn))
    (inner_also (codes "changes") (array (change_json cat txns) changes) refl (whole_array (change_json cat txns) changes (whole_change cat txns)))
inner_message cat txns (messages.Null class time) = inner_class (codes "NULL") cat txns class time
inner_message cat txns (messages.Ask class time) = inner_class (codes "ASK") cat txns class time
inner_message cat txns messages.Hold = inner_kind (codes "HOLD")
inner_message cat txns (messages.Held time) = inner_time (codes "HELD") time
inner_message cat txns (messages.Done ts) = inner_time (codes "DONE") ts
inner_message cat txns (messages.Release ts) = inner_time (codes "RELEASE") ts

-- packets

pub whole_ack : (upto : ℕ) → IsWhole (ack_json upto)
whole_ack upto = whole_object (member (codes "ack") (decimal upto)) [] (whole_member (codes "ack") (decimal upto) refl (whole_number upto)) inner_none

pub whole_packet : (cat : Catalogue) (txns : List Txn) (p : InFlight) → IsWhole (packet_json cat txns p)
whole_packet cat txns (Ack upto) = whole_ack upto
whole_packet cat txns (Again n) = whole_number n
whole_packet cat txns (First n message) =
    whole_object (member (codes "n") (decimal n)) (message_json cat txns message) (whole_member (codes "n") (decimal n) refl (whole_number n)) (inner_message cat txns message)
