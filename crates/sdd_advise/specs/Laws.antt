-- What good advices show.
use Rattle.std.specs.Prelude.{◌≡◌, List, map, filter, Contains}
use Rattle.sdd_catalog.specs.Catalogue.{Catalogue}
use Rattle.sdd_graph.specs.declared.edge.Edge.{Edge}
use Rattle.sdd_protocol.specs.Protocols.{IsTable}
use Rattle.sdd_protocol.specs.declared.entry.Entry.{Entry}
use Rattle.sdd_protocol.specs.declared.protocol.Protocol.{Protocol}
use Rattle.sdd_advise.specs.declared.advice.Advice.{Advice}
use Rattle.sdd_advise.specs.Advices.{AreAdvices, IsGood, is_diagonal}

-- a good advice for a diagonal says the protocol that the table of the catalogue says of it
abbrev pub GoodAdviceIsRight : Catalogue → Type 0
GoodAdviceIsRight cat =
    (entries : List Entry) → IsTable cat entries
    → (advice : Advice) → IsGood cat advice
    → (entry : Entry) → Contains entries entry → entry.edge ≡ advice.edge
    → entry.protocol ≡ advice.protocol

abbrev pub advised : Advice → Edge × Protocol
advised advice = (advice.edge, advice.protocol)

abbrev pub listed : Entry → Edge × Protocol
listed entry = (entry.edge, entry.protocol)

-- so one good advice for each diagonal, in their order, say what the table says of its diagonals
abbrev pub AdvicesSayTheTable : Catalogue → Type 0
AdvicesSayTheTable cat =
    (entries : List Entry) → IsTable cat entries
    → (advices : List Advice) → AreAdvices cat advices
    → map advised advices ≡ map listed (filter (λ entry. is_diagonal entry.edge) entries)
