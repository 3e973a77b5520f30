-- Worked examples.
use Rattle.std.specs.Prelude.{ℕ, pos, ◌≡◌, List, [], ◌∷◌, map, None, Some, refl}
use Rattle.sdd_catalog.specs.Catalogue.{Catalogue, catalogue_of}
use Rattle.sdd_catalog.specs.Examples.{split}
use Rattle.sdd_base.specs.Numbers.{class_no, frag_no}
use Rattle.sdd_graph.specs.Graph.{conflict_graph}
use Rattle.sdd_graph.specs.declared.edge.Edge.TheVariants.{Vertical, Diagonal}
use Rattle.sdd_graph.specs.Examples.{with_classes, class}
use Rattle.sdd_protocol.specs.Conditions.{cond_of, conditions, protocol_between, undeclared_conditions}
use Rattle.sdd_protocol.specs.Protocols.{entry_of, protocol_in}
use Rattle.sdd_protocol.specs.declared.protocol.Protocol.{Protocol}
use Rattle.sdd_protocol.specs.declared.protocol.Protocol.TheVariants.{P1, P2, P3}
use Rattle.sdd_protocol.specs.declared.entry.Entry.{Entry}

-- class 1 writes both fragments, class 2 reads them, each at its module
abbrev two : Catalogue
two = catalogue_of (split (pos 10) 1)

abbrev vertical : ℕ → ℕ → Entry
vertical i block = entry_of (Vertical (class_no i)) block P1

abbrev diagonal : ℕ → ℕ → ℕ → ℕ → Protocol → Entry
diagonal i j f block protocol =
    entry_of (Diagonal (class_no i) (class_no j) (frag_no f)) block protocol

-- its two diagonals form a block
abbrev lines : List Entry
lines = vertical 1 0 ∷ vertical 2 0 ∷ diagonal 2 1 1 1 P2 ∷ diagonal 2 1 2 1 P2 ∷ []

pub edges_row : map (λ e. e.edge) lines ≡ conflict_graph two
edges_row = refl

-- the reader's vertical edge has no block
pub other_block : protocol_in lines (Diagonal (class_no 2) (class_no 1) (frag_no 1)) 1 ≡ P2
other_block = refl

pub no_block : protocol_in lines (Diagonal (class_no 2) (class_no 1) (frag_no 1)) 0 ≡ P1
no_block = refl

pub reader_block :
    protocol_in (vertical 1 0 ∷ vertical 2 1 ∷ []) (Diagonal (class_no 2) (class_no 1) (frag_no 1)) 1 ≡ P3
reader_block = refl

-- so class 2 follows P2 toward class 1, and class 1 follows nothing toward class 2
pub protocol_row : protocol_between lines 2 1 ≡ Some P2
protocol_row = refl

pub no_protocol : protocol_between lines 1 2 ≡ None
no_protocol = refl

-- at module 1 the reader of both fragments asks its one writer, up to the time of P2
pub asks_once : conditions two lines 2 1 (frag_no 1 ∷ frag_no 2 ∷ []) 258 255
    ≡ cond_of 1 255 (frag_no 1 ∷ []) ∷ []
asks_once = refl

-- fragment 2 is read at module 2
pub asks_elsewhere : conditions two lines 2 1 (frag_no 2 ∷ []) 258 255 ≡ []
asks_elsewhere = refl

-- where both fragments are read at one module it asks for both, ascending in whatever order they are given
abbrev at_one_module : Catalogue
at_one_module =
    with_classes (class [] (1 ∷ 2 ∷ []) ∷ class ((1, 1) ∷ (2, 1) ∷ []) [] ∷ [])

pub asks_for_both : conditions at_one_module lines 2 1 (frag_no 2 ∷ frag_no 1 ∷ []) 258 255
    ≡ cond_of 1 255 (frag_no 1 ∷ frag_no 2 ∷ []) ∷ []
asks_for_both = refl

-- the writer asks nothing of the reader, nor an attempt that reads nothing
pub writer_asks_nothing : conditions two lines 1 1 (frag_no 1 ∷ []) 258 255 ≡ []
writer_asks_nothing = refl

pub reads_nothing : conditions two lines 2 1 [] 258 255 ≡ []
reads_nothing = refl

-- by P3 it would ask up to its own time
pub asks_own : conditions two (diagonal 2 1 1 1 P3 ∷ []) 2 1 (frag_no 1 ∷ []) 258 255
    ≡ cond_of 1 258 (frag_no 1 ∷ []) ∷ []
asks_own = refl

pub asks_nothing : conditions two (diagonal 2 1 1 0 P1 ∷ []) 2 1 (frag_no 1 ∷ []) 258 255 ≡ []
asks_nothing = refl

-- an attempt of no declared class asks every class for all fragments
pub undeclared_row : undeclared_conditions two 258
    ≡ cond_of 1 258 (frag_no 1 ∷ frag_no 2 ∷ []) ∷ cond_of 2 258 (frag_no 1 ∷ frag_no 2 ∷ []) ∷ []
undeclared_row = refl
