-- The edges at a node of a conflict graph.
use Rattle.std.specs.Prelude.{ℕ, ◌*◌, ◌<◌, ◌==◌, ◌≡◌, if◌then◌else◌, List, map, length, slice_get, All, Contains, Option, None, Some, option_map}
use Rattle.std.specs.List.{filter_map, range_with_len}
use Rattle.sdd_base.specs.declared.number.ClassNo.{ClassNo}
use Rattle.sdd_catalog.specs.Catalogue.{Catalogue}
use Rattle.sdd_graph.specs.declared.edge.Edge.{Edge}
use Rattle.sdd_graph.specs.declared.edge.Edge.TheVariants.{Vertical}
use Rattle.sdd_graph.specs.Edges.{NamesClasses}
use Rattle.sdd_graph.specs.Graph.{conflict_graph, ends}
use Rattle.sdd_advise.specs.Readers.{IsReadOf}
use Rattle.sdd_advise.specs.declared.neighbour.Neighbour.{Neighbour}

-- the end of an edge other than the node, where the edge is at the node
abbrev pub other_end : Edge → ℕ → Option ℕ
other_end edge node =
    if (ends edge).0 == node then Some (ends edge).1
    else (if (ends edge).1 == node then Some (ends edge).0 else None)

-- the edge as one that leads from the node to a neighbour
abbrev pub neighbour_by : ℕ → Edge → Option Neighbour
neighbour_by node edge = option_map (λ other. record { edge = edge; node = other }) (other_end edge node)

-- all edges that lead from the node, each with the node to which it leads
abbrev pub neighbours : List Edge → ℕ → List Neighbour
neighbours edges node = filter_map (neighbour_by node) edges

-- edges between nodes, which are the numbers below a count
pub record Network : Type 0 where
  pub edges : List Edge
  pub nodes : ℕ

-- the conflict graph of a catalogue, with the two nodes of each class
abbrev pub network_of : Catalogue → Network
network_of cat = record { edges = conflict_graph cat; nodes = 2 * length cat.classes }

-- no edge is there twice
abbrev pub HasEachOnce : List Edge → Type 0
HasEachOnce edges =
    (j k : ℕ) (edge : Edge) → slice_get edges j ≡ Some edge → slice_get edges k ≡ Some edge → j ≡ k

-- the reader of each diagonal has its vertical edge
abbrev pub HasVerticals : List Edge → Type 0
HasVerticals edges =
    (edge : Edge) (reader : ClassNo) → Contains edges edge → IsReadOf reader edge
    → Contains edges (Vertical reader)

-- there are two nodes for each class
abbrev pub ArePaired : ℕ → Type 0
ArePaired nodes = (classes : ℕ) × (nodes ≡ 2 * classes)

-- what is known of the edges, and what is kept for each node, ascending
pub record IsLaidOut (edges : List Edge) (nodes : ℕ) (lists : List (List Neighbour)) : Type 0 where
  pub once : HasEachOnce edges
  pub verticals : HasVerticals edges
  pub paired : ArePaired nodes
  pub named : All NamesClasses edges
  pub within : All (λ edge. ((ends edge).0 < nodes) × ((ends edge).1 < nodes)) edges
  pub laid : lists ≡ map (neighbours edges) (range_with_len 0 nodes)
