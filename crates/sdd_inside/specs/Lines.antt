-- The lines of the text: the first one, and one for each event.
use Rattle.std.specs.Prelude.{ℕ, List, [], ◌∷◌, ◌++◌, codes, Option, Some, None}
use Rattle.std.specs.Fmt.{decimal}
use Rattle.sdd_script.specs.All.{Catalogue, Txn}
use Rattle.sdd_report.specs.declared.copies.CopyTable.{CopyTable}
use Rattle.sdd_inside.specs.Json.{array, triple, member, also, object, unless_empty, unless_zero}
use Rattle.sdd_inside.specs.Messages.{ack_json, packet_json}
use Rattle.sdd_inside.specs.Standings.{site_state_json}
use Rattle.sdd_inside.specs.Words.{number_json, class_json, txn_json, fragment_json, site_json, dm_json, event_json, key_json, row_json, row_or_null_json}
use Rattle.sdd_inside.specs.declared.delta.Delta.{Delta}
use Rattle.sdd_inside.specs.declared.delta.Found.{Found}
use Rattle.sdd_inside.specs.declared.delta.Found.TheVariants as founds
use Rattle.sdd_inside.specs.declared.delta.Handed.{Handed}
use Rattle.sdd_inside.specs.declared.delta.PipeDelta.{PipeDelta}
use Rattle.sdd_inside.specs.declared.delta.Put.{Put}
use Rattle.sdd_inside.specs.declared.delta.QueueDelta.{QueueDelta}
use Rattle.sdd_inside.specs.declared.delta.RowDelta.{RowDelta}
use Rattle.sdd_inside.specs.declared.delta.Taken.{Taken}
use Rattle.sdd_inside.specs.declared.delta.Taken.TheVariants as takens

-- a packet that was taken off its flight
abbrev pub taken_json : Taken → List ℕ
taken_json (takens.Message n) = decimal n
taken_json (takens.Ack upto) = ack_json upto

-- what was found: the packet, and what is known of its link when it has arrived
abbrev pub found_members : Found → List ℕ
found_members founds.Nothing = also (codes "nothing") (codes "true")
found_members founds.Something = []
found_members (founds.Lost packet) = also (codes "took") (taken_json packet)
found_members (founds.Arrived n delivered) = also (codes "took") (decimal n) ++ also (codes "delivered") (decimal delivered)
found_members (founds.Acknowledged upto acked) = also (codes "took") (ack_json upto) ++ also (codes "acked") (decimal acked)

abbrev pub round_member : Option ℕ → List ℕ
round_member None = []
round_member (Some n) = also (codes "round") (decimal n)

abbrev pub handed_json : Catalogue → List Txn → Handed → List ℕ
handed_json cat txns h = triple (site_json cat txns h.from) (site_json cat txns h.to) (decimal h.upto)

abbrev pub put_json : Catalogue → List Txn → Put → List ℕ
put_json cat txns p = triple (site_json cat txns p.from) (site_json cat txns p.to) (array (packet_json cat txns) p.packets)

abbrev pub queue_json : Catalogue → List Txn → QueueDelta → List ℕ
queue_json cat txns q =
    object
    (member (codes "class") (class_json cat txns q.class))
    (unless_empty (codes "in") (txn_json cat txns) q.came ++ unless_zero (codes "out") q.gone)

-- what came to a pipe and what was processed, after the class
abbrev pub pipe_moves : Catalogue → List Txn → PipeDelta → List ℕ
pipe_moves cat txns p =
    unless_empty (codes "in") (number_json cat txns) p.came
    ++ (unless_zero (codes "out") p.processed ++ also (codes "passed") (decimal p.passed.0))

abbrev pub pipe_json : Catalogue → List Txn → PipeDelta → List ℕ
pipe_json cat txns p =
    object (member (codes "at") (dm_json cat txns p.dm)) (also (codes "class") (class_json cat txns p.class) ++ pipe_moves cat txns p)

-- the place of an item at a data module, and the row
abbrev pub row_delta_json : Catalogue → List Txn → RowDelta → List ℕ
row_delta_json cat txns r =
    91 ∷ (dm_json cat txns r.dm
    ++ 44 ∷ (fragment_json cat txns r.item.frag
    ++ 44 ∷ (key_json cat txns r.item.key ++ 44 ∷ (row_or_null_json cat txns r.item.row ++ 93 ∷ []))))

-- what happened, and where it belongs in the schedule

abbrev pub place_members : Delta → List ℕ
place_members d = also (codes "of") (decimal d.scheduled) ++ round_member d.round

abbrev pub event_members : List Txn → Delta → List ℕ
event_members txns d = also (codes "do") (event_json txns d.event) ++ found_members d.found

-- what changed on links, in modules, and how the sites stand that took part

abbrev pub link_members : Catalogue → List Txn → Delta → List ℕ
link_members cat txns d = unless_empty (codes "handed") (handed_json cat txns) d.handed ++ unless_empty (codes "put") (put_json cat txns) d.put

abbrev pub module_members : Catalogue → List Txn → Delta → List ℕ
module_members cat txns d = unless_empty (codes "queues") (queue_json cat txns) d.queues ++ unless_empty (codes "pipes") (pipe_json cat txns) d.pipes

abbrev pub site_members : Catalogue → List Txn → Delta → List ℕ
site_members cat txns d = unless_empty (codes "rows") (row_delta_json cat txns) d.rows ++ unless_empty (codes "sites") (site_state_json cat txns) d.sites

abbrev pub changes_of : Catalogue → List Txn → Delta → List ℕ
changes_of cat txns d = link_members cat txns d ++ (module_members cat txns d ++ site_members cat txns d)

-- the line of an event
abbrev pub line : Catalogue → List Txn → Delta → List ℕ
line cat txns d =
    object (member (codes "event") (decimal d.number)) (place_members d ++ (event_members txns d ++ changes_of cat txns d)) ++ 10 ∷ []

-- what a copy begins with
abbrev pub copy_json : Catalogue → List Txn → CopyTable → List ℕ
copy_json cat txns c =
    object
    (member (codes "at") (dm_json cat txns c.dm))
    (also (codes "fragment") (fragment_json cat txns c.frag) ++ also (codes "rows") (array (row_json cat txns) c.rows))

-- how many modules there are
abbrev pub module_counts : Catalogue → List ℕ
module_counts cat = also (codes "tms") (decimal cat.tms) ++ also (codes "dms") (decimal cat.dms)

-- the first line: the number of this form, how many modules there are, and what the copies begin with
abbrev pub beginning : Catalogue → List Txn → List CopyTable → List ℕ
beginning cat txns copies =
    object
    (member (codes "inside") (decimal 1))
    (module_counts cat ++ also (codes "copies") (array (copy_json cat txns) copies)) ++ 10 ∷ []
