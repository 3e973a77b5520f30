-- Whether snapshot isolation is enough for the classes of a catalogue: it is where no read has P3.
use Rattle.std.specs.Prelude.{ℕ, ◌≡◌, Bool, List, [], ◌++◌, codes, find, Option, None, Some}
use Rattle.sdd_catalog.specs.Catalogue.{Catalogue}
use Rattle.sdd_graph.specs.declared.edge.Edge.{Edge}
use Rattle.sdd_graph.specs.declared.edge.Edge.TheVariants.{Vertical, Horizontal, Diagonal}
use Rattle.sdd_protocol.specs.Protocols.{IsTable, same_protocol}
use Rattle.sdd_protocol.specs.declared.entry.Entry.{Entry}
use Rattle.sdd_protocol.specs.declared.protocol.Protocol.TheVariants.{P3}
use Rattle.sdd_ask.specs.Naming.{class_name, fragment_name}

-- the reader of the entry has P3, which asks for its own time
abbrev pub asks_for_own_time : Entry → Bool
asks_for_own_time entry = same_protocol entry.protocol P3

-- the first entry of a table that has P3, where there is one
abbrev pub first_p3 : List Entry → Option Entry
first_p3 entries = find asks_for_own_time entries

-- a read, and who writes what it reads; an edge that is no diagonal is no read
abbrev pub reason_line : Catalogue → Edge → List ℕ
reason_line cat (Vertical i) = []
reason_line cat (Horizontal i j) = []
reason_line cat (Diagonal i j f) =
    class_name cat i ++ codes " reads " ++ fragment_name cat f ++ codes ", which " ++ class_name cat j ++ codes " writes\n"

abbrev pub not_shown : Catalogue → Edge → List ℕ
not_shown cat edge = codes "snapshot isolation: not shown\n" ++ reason_line cat edge

-- the answer, where this is the first entry with P3, or there is none
abbrev pub isolation_text : Catalogue → Option Entry → List ℕ
isolation_text cat None = codes "snapshot isolation: enough\n"
isolation_text cat (Some entry) = not_shown cat entry.edge

-- the text is the answer for the catalogue, by its protocol table
pub record IsRobustText (cat : Catalogue) (text : List ℕ) : Type 0 where
  pub entries : List Entry
  pub table : IsTable cat entries
  pub spelled : text ≡ isolation_text cat (first_p3 entries)
