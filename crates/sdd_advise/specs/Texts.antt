-- The text of advices.
use Rattle.std.specs.Prelude.{ℕ, ◌+◌, ◌/◌, ◌%◌, ◌==◌, ◌≡◌, if◌then◌else◌, List, [], ◌++◌, codes, unwrap_or}
use Rattle.std.specs.List.{flat_map}
use Rattle.std.specs.Fmt.{decimal}
use Rattle.sdd_base.specs.declared.number.ClassNo.{ClassNo}
use Rattle.sdd_base.specs.declared.number.FragNo.{FragNo}
use Rattle.sdd_base.specs.Numbers.{class_no}
use Rattle.sdd_catalog.specs.Catalogue.{Catalogue, class_at, fragment_at, reads_at}
use Rattle.sdd_graph.specs.declared.edge.Edge.{Edge}
use Rattle.sdd_graph.specs.declared.edge.Edge.TheVariants.{Vertical, Horizontal, Diagonal}
use Rattle.sdd_protocol.specs.declared.protocol.Protocol.{Protocol}
use Rattle.sdd_protocol.specs.declared.protocol.Protocol.TheVariants.{P1, P2, P3}
use Rattle.sdd_advise.specs.declared.advice.Advice.{Advice}
use Rattle.sdd_advise.specs.Advices.{AreAdvices}

abbrev pub class_name : Catalogue → ClassNo → List ℕ
class_name cat class = (class_at cat class.0).name

abbrev pub fragment_name : Catalogue → FragNo → List ℕ
fragment_name cat frag = (fragment_at cat frag.0).name

-- two words, with a space between them
abbrev pub two_words : List ℕ → List ℕ → List ℕ
two_words one other = one ++ (codes " " ++ other)

-- what an edge is, and what it joins
abbrev pub edge_words : Catalogue → Edge → List ℕ
edge_words cat (Vertical i) = codes "vertical " ++ class_name cat i
edge_words cat (Horizontal i j) = codes "horizontal " ++ two_words (class_name cat i) (class_name cat j)
edge_words cat (Diagonal i j f) =
    codes "diagonal " ++ two_words (two_words (class_name cat i) (class_name cat j)) (fragment_name cat f)

abbrev pub protocol_word : Protocol → List ℕ
protocol_word P1 = codes "P1"
protocol_word P2 = codes "P2"
protocol_word P3 = codes "P3"

-- the number of the module at which the class reads the fragment
abbrev pub module_number : Catalogue → ClassNo → FragNo → List ℕ
module_number cat i f = decimal (unwrap_or (reads_at cat i.0 f.0) 0)

-- which fragment a class reads, and where
abbrev pub read_words : Catalogue → ClassNo → FragNo → List ℕ
read_words cat i f =
    (class_name cat i ++ codes " reads ") ++ ((fragment_name cat f ++ codes " at D") ++ module_number cat i f)

-- who writes it, and the protocol
abbrev pub writer_words : Catalogue → ClassNo → Protocol → List ℕ
writer_words cat j protocol = codes " writer " ++ two_words (class_name cat j) (protocol_word protocol)

-- the first line of a diagonal's advice; another edge has none
abbrev pub first_line : Catalogue → Protocol → Edge → List ℕ
first_line cat protocol (Vertical i) = []
first_line cat protocol (Horizontal i j) = []
first_line cat protocol (Diagonal i j f) = read_words cat i f ++ (writer_words cat j protocol ++ codes "\n")

-- the line of an edge of the cycle
abbrev pub cycle_line : Catalogue → Edge → List ℕ
cycle_line cat edge = codes "by " ++ (edge_words cat edge ++ codes "\n")

-- a node, with a space before it: whether it is a read or a write node, and of which class
abbrev pub spaced_node : Catalogue → ℕ → List ℕ
spaced_node cat node =
    (if node % 2 == 0 then codes " r:" else codes " w:") ++ class_name cat (class_no (node / 2 + 1))

abbrev pub nodes_line : Catalogue → List ℕ → List ℕ
nodes_line cat nodes = codes "apart" ++ (flat_map (spaced_node cat) nodes ++ codes "\n")

-- the line of the nodes apart, which P3 hasn't
abbrev pub apart_line : Catalogue → Protocol → List ℕ → List ℕ
apart_line cat P1 nodes = nodes_line cat nodes
apart_line cat P2 nodes = nodes_line cat nodes
apart_line cat P3 nodes = []

-- the lines of an advice
abbrev pub advice_lines : Catalogue → Advice → List ℕ
advice_lines cat advice =
    first_line cat advice.protocol advice.edge
    ++ (flat_map (cycle_line cat) advice.cycle ++ apart_line cat advice.protocol advice.apart)

-- the lines of all
abbrev pub advices_text : Catalogue → List Advice → List ℕ
advices_text cat advices = flat_map (advice_lines cat) advices

-- the text is that of one good advice for each diagonal, in their order
pub record IsAdviceText (cat : Catalogue) (text : List ℕ) : Type 0 where
  pub advices : List Advice
  pub are : AreAdvices cat advices
  pub spelled : text ≡ advices_text cat advices
