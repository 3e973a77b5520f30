-- What is printed of a conflict graph and of a protocol table.
use Rattle.std.specs.Prelude.{ℕ, ◌==◌, if◌then◌else◌, List, [], ◌++◌, codes, flat_map, unwrap_or}
use Rattle.std.specs.Fmt.{decimal}
use Rattle.sdd_lang.specs.All.{Catalogue, ClassNo, FragNo, class_at, fragment_at, reads_at}
use Rattle.sdd_graph.specs.declared.edge.Edge.{Edge}
use Rattle.sdd_graph.specs.declared.edge.Edge.TheVariants.{Vertical, Horizontal, Diagonal}
use Rattle.sdd_protocol.specs.declared.entry.Entry.{Entry}
use Rattle.sdd_protocol.specs.declared.protocol.Protocol.{Protocol}
use Rattle.sdd_protocol.specs.declared.protocol.Protocol.TheVariants.{P1, P2, P3}

abbrev pub class_name : Catalogue → ClassNo → List ℕ
class_name cat c = (class_at cat c.0).name

abbrev pub fragment_name : Catalogue → FragNo → List ℕ
fragment_name cat f = (fragment_at cat f.0).name

-- two words, with a space between them
abbrev pub two_words : List ℕ → List ℕ → List ℕ
two_words a b = a ++ (codes " " ++ b)

-- the number of a block; an edge on no simple cycle has none
abbrev pub block_word : ℕ → List ℕ
block_word block = if block == 0 then codes "-" else decimal block

-- the end of a line, with the number of the edge's block
abbrev pub block_end : ℕ → List ℕ
block_end block = codes " block " ++ (block_word block ++ codes "\n")

abbrev pub edge_words : Catalogue → Edge → List ℕ
edge_words cat (Vertical i) = codes "vertical " ++ class_name cat i
edge_words cat (Horizontal i j) = codes "horizontal " ++ two_words (class_name cat i) (class_name cat j)
edge_words cat (Diagonal i j f) = codes "diagonal " ++ two_words (two_words (class_name cat i) (class_name cat j)) (fragment_name cat f)

abbrev pub edge_line : Catalogue → Entry → List ℕ
edge_line cat e = edge_words cat e.edge ++ block_end e.block

-- one line for each edge, in their order
abbrev pub graph_text : Catalogue → List Entry → List ℕ
graph_text cat entries = flat_map (edge_line cat) entries

abbrev pub protocol_word : Protocol → List ℕ
protocol_word P1 = codes "P1"
protocol_word P2 = codes "P2"
protocol_word P3 = codes "P3"

-- the number of the module at which the class reads the fragment
abbrev pub module_number : Catalogue → ClassNo → FragNo → List ℕ
module_number cat i f = decimal (unwrap_or (reads_at cat i.0 f.0) 0)

-- which fragment a class reads, and where
abbrev pub read_words : Catalogue → ClassNo → FragNo → List ℕ
read_words cat i f = (class_name cat i ++ codes " reads ") ++ ((fragment_name cat f ++ codes " at D") ++ module_number cat i f)

-- who writes it, and the protocol
abbrev pub writer_words : Catalogue → ClassNo → Protocol → List ℕ
writer_words cat j protocol = codes " writer " ++ two_words (class_name cat j) (protocol_word protocol)

-- the line of an edge with its protocol and block; only a diagonal has one
abbrev pub diagonal_line : Catalogue → Protocol → ℕ → Edge → List ℕ
diagonal_line cat protocol block (Vertical i) = []
diagonal_line cat protocol block (Horizontal i j) = []
diagonal_line cat protocol block (Diagonal i j f) = read_words cat i f ++ (writer_words cat j protocol ++ block_end block)

-- one line for each diagonal, in their order
abbrev pub table_text : Catalogue → List Entry → List ℕ
table_text cat entries = flat_map (λ e. diagonal_line cat e.protocol e.block e.edge) entries
