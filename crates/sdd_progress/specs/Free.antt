-- Free classes: no edge at either of their nodes lies on a simple cycle of the conflict graph.
use Rattle.std.specs.Prelude.{ℕ, ◌==◌, ◌||◌, ◌≡◌, Bool, List, Some, map, slice_get, true}
use Rattle.sdd_blocks.specs.Blocks.{OnACycle}
use Rattle.sdd_obligations.specs.invariants.All.{Catalogue, Edge, Era, Input, IsEra}
use Rattle.sdd_obligations.specs.graph.Edges.{IsClassOf}
use Rattle.sdd_obligations.specs.graph.Graph.{conflict_graph, ends, read_node, write_node}
use Rattle.sdd_obligations.specs.protocol.declared.entry.Entry as line

-- whether a node is one of the two of class i, and whether an edge ends at one of them
abbrev pub is_node_of : ℕ → ℕ → Bool
is_node_of i n = (n == read_node i) || (n == write_node i)

abbrev pub ends_at : ℕ → ℕ × ℕ → Bool
ends_at i e = is_node_of i e.0 || is_node_of i e.1

-- by simple cycles
pub record IsFree (cat : Catalogue) (i : ℕ) : Type 0 where
  pub on_none : (k : ℕ) (e : Edge) → slice_get (conflict_graph cat) k ≡ Some e → ends_at i (ends e) ≡ true
      → ¬ OnACycle (map ends (conflict_graph cat)) k

-- by the blocks of a protocol table
pub record IsInNoBlock (table : List line.Entry) (i : ℕ) : Type 0 where
  pub in_none : (k : ℕ) (x : line.Entry) → slice_get table k ≡ Some x → ends_at i (ends x.edge) ≡ true → x.block ≡ 0

-- a class of the catalogue is free in each class list that is given, each with its protocol table
pub record IsFreeClass (g : Input) (i : ℕ) : Type 0 where
  pub class : IsClassOf g.catalogue i
  pub tabled : (k : ℕ) (f : Era) → slice_get g.eras k ≡ Some f → IsEra f
  pub free : (k : ℕ) (f : Era) → slice_get g.eras k ≡ Some f → IsFree f.catalogue i
