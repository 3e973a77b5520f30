-- Packets as JSON. A message is reported in full with its first packet, and then by its number.
use Rattle.std.specs.Prelude.{ℕ, List, [], ◌++◌, codes, length, map, sum}
use Rattle.std.specs.Fmt.{decimal}
use Rattle.sdd_script.specs.base.declared.number.ClassNo.{ClassNo}
use Rattle.sdd_script.specs.base.declared.number.Ts.{Ts}
use Rattle.sdd_script.specs.All.{Catalogue, Txn}
use Rattle.sdd_wire.specs.declared.msg.Msg.{Msg}
use Rattle.sdd_wire.specs.declared.msg.Msg.TheVariants as messages
use Rattle.sdd_inside.specs.Json.{quoted, array, member, also, object}
use Rattle.sdd_inside.specs.Words.{time_json, class_json, txn_json, attempt_json, cond_json, change_json}
use Rattle.sdd_inside.specs.declared.delta.InFlight.{InFlight}
use Rattle.sdd_inside.specs.declared.delta.InFlight.TheVariants.{Ack, Again, First}

-- what each message tells: its kind, and where it has them a class and a time

abbrev pub of_kind : List ℕ → List ℕ
of_kind kind = also (codes "kind") (quoted kind)

abbrev pub at_time : List ℕ → Ts → List ℕ
at_time kind time = of_kind kind ++ also (codes "time") (decimal time.0)

abbrev pub of_class : List ℕ → Catalogue → List Txn → ClassNo → Ts → List ℕ
of_class kind cat txns class time =
    of_kind kind ++ (also (codes "class") (class_json cat txns class) ++ also (codes "time") (decimal time.0))

-- how many rows a READ has for all its uses
abbrev pub rows_of : List (ℕ × ℕ) → ℕ
rows_of counts = sum (map (λ (c : ℕ × ℕ). c.1) counts)

abbrev pub rows_json : ℕ → List ℕ
rows_json n = also (codes "rows") (decimal n)

abbrev pub values_json : ℕ → List ℕ
values_json n = also (codes "values") (decimal n)

-- the members of a message after its number
abbrev pub message_json : Catalogue → List Txn → Msg → List ℕ
message_json cat txns (messages.Read ts class txn attempt conds uses) =
    of_class (codes "READ") cat txns class ts
    ++ (also (codes "txn") (attempt_json txns txn attempt) ++ also (codes "conds") (array (cond_json cat txns) conds))
message_json cat txns (messages.Ready ts class counts) = of_class (codes "READY") cat txns class ts ++ rows_json (rows_of counts)
message_json cat txns (messages.Reject ts class by write) =
    of_class (codes "REJECT") cat txns class ts
    ++ (also (codes "by") (class_json cat txns by) ++ also (codes "write") (time_json cat txns write))
message_json cat txns (messages.Fetch ts class use_no column) = of_class (codes "FETCH") cat txns class ts
message_json cat txns (messages.Values ts class use_no values) =
    of_class (codes "VALUES") cat txns class ts ++ values_json (length values)
message_json cat txns (messages.Reduce ts class use_no column values) =
    of_class (codes "REDUCE") cat txns class ts ++ values_json (length values)
message_json cat txns (messages.Reduced ts class use_no count) = of_class (codes "REDUCED") cat txns class ts ++ rows_json count
message_json cat txns (messages.Ship ts class) = of_class (codes "SHIP") cat txns class ts
message_json cat txns (messages.Rows ts class rows) = of_class (codes "ROWS") cat txns class ts ++ rows_json (length rows)
message_json cat txns (messages.Write ts class txn changes) =
    of_class (codes "WRITE") cat txns class ts
    ++ (also (codes "txn") (txn_json cat txns txn) ++ also (codes "changes") (array (change_json cat txns) changes))
message_json cat txns (messages.Null class time) = of_class (codes "NULL") cat txns class time
message_json cat txns (messages.Ask class time) = of_class (codes "ASK") cat txns class time
message_json cat txns messages.Hold = of_kind (codes "HOLD")
message_json cat txns (messages.Held time) = at_time (codes "HELD") time
message_json cat txns (messages.Done ts) = at_time (codes "DONE") ts
message_json cat txns (messages.Release ts) = at_time (codes "RELEASE") ts

-- an acknowledgement of the messages from 1 to this one
abbrev pub ack_json : ℕ → List ℕ
ack_json upto = object (member (codes "ack") (decimal upto)) []

abbrev pub packet_json : Catalogue → List Txn → InFlight → List ℕ
packet_json cat txns (Ack upto) = ack_json upto
packet_json cat txns (Again n) = decimal n
packet_json cat txns (First n message) = object (member (codes "n") (decimal n)) (message_json cat txns message)
