-- Worked examples of conflict graphs.
use Rattle.std.specs.Prelude.{ℕ, pos, negsuc, ◌-◌, ◌^◌, ◌≡◌, List, [], ◌∷◌, map, refl}
use Rattle.sdd_catalog.specs.declared.parts.Kind.TheVariants as kinds
use Rattle.sdd_catalog.specs.declared.resolved.Relation.{Relation}
use Rattle.sdd_catalog.specs.declared.resolved.Fragment.{Fragment}
use Rattle.sdd_catalog.specs.declared.resolved.Read.{Read}
use Rattle.sdd_catalog.specs.declared.resolved.Class.{Class}
use Rattle.sdd_catalog.specs.Catalogue.{Catalogue}
use Rattle.sdd_graph.specs.declared.edge.Edge.{Edge}
use Rattle.sdd_graph.specs.declared.edge.Edge.TheVariants.{Vertical, Horizontal, Diagonal}
use Rattle.sdd_base.specs.Numbers.{class_no, frag_no, dm_no, tm_no, rel_no}
use Rattle.sdd_graph.specs.Graph.{conflict_graph, ends}

abbrev pub vertical : ℕ → Edge
vertical i = Vertical (class_no i)

abbrev pub horizontal : ℕ → ℕ → Edge
horizontal i j = Horizontal (class_no i) (class_no j)

abbrev pub diagonal : ℕ → ℕ → ℕ → Edge
diagonal i j f = Diagonal (class_no i) (class_no j) (frag_no f)

-- a relation of two columns, in two fragments at two modules: keys to 9, and from 10
abbrev pub item : Relation
item =
    record {
      name = [];
      columns = record { name = []; kind = kinds.Int } ∷ record { name = []; kind = kinds.Int } ∷ [];
      key = 1;
    }

abbrev pub halves : List Fragment
halves =
    record { name = []; rel = rel_no 1; least = negsuc (2 ^ 63 - 1); greatest = pos 9; copies = dm_no 1 ∷ [] }
    ∷ record { name = []; rel = rel_no 1; least = pos 10; greatest = pos (2 ^ 63 - 1); copies = dm_no 2 ∷ [] }
    ∷ []

abbrev pub with_classes : List Class → Catalogue
with_classes classes =
    record { tms = 2; dms = 2; relations = item ∷ []; fragments = halves; classes = classes }

abbrev read_from : ℕ × ℕ → Read
read_from r = record { fragment = frag_no r.0; at = dm_no r.1 }

-- a class that reads these fragments where they are, and writes those
abbrev pub class : List (ℕ × ℕ) → List ℕ → Class
class reads writes =
    record { name = []; tm = tm_no 1; reads = map read_from reads; writes = map frag_no writes }

-- one class writes both fragments, another reads both, in the other order
pub writer_and_reader :
    conflict_graph (with_classes (class [] (1 ∷ 2 ∷ []) ∷ class ((2, 2) ∷ (1, 1) ∷ []) [] ∷ []))
    ≡ vertical 1 ∷ vertical 2 ∷ diagonal 2 1 1 ∷ diagonal 2 1 2 ∷ []
writer_and_reader = refl

-- both classes read and write the first fragment
pub two_of_a_kind :
    conflict_graph (with_classes (class ((1, 1) ∷ []) (1 ∷ []) ∷ class ((1, 1) ∷ []) (1 ∷ []) ∷ []))
    ≡ vertical 1 ∷ vertical 2 ∷ horizontal 1 2 ∷ diagonal 1 2 1 ∷ diagonal 2 1 1 ∷ []
two_of_a_kind = refl

-- a class has no edge for what it alone touches, nor do two classes for what they only read
pub each_by_itself :
    conflict_graph (with_classes (class ((1, 1) ∷ (2, 2) ∷ []) (1 ∷ []) ∷ class ((2, 2) ∷ []) [] ∷ []))
    ≡ vertical 1 ∷ vertical 2 ∷ []
each_by_itself = refl

pub ends_of_a_vertical : ends (vertical 2) ≡ (2, 3)
ends_of_a_vertical = refl

pub ends_of_a_horizontal : ends (horizontal 1 64) ≡ (1, 127)
ends_of_a_horizontal = refl

-- from the reader to the writer
pub ends_of_a_diagonal : ends (diagonal 2 1 1) ≡ (2, 1)
ends_of_a_diagonal = refl
