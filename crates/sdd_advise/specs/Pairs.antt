-- What links a reader's vertical edge with its diagonals from one writer.
use Rattle.std.specs.Prelude.{ℕ, ◌≡◌, List, [], ◌++◌, ◌∷◌, Contains, Option, MatchOption}
use Rattle.sdd_base.specs.declared.number.ClassNo.{ClassNo}
use Rattle.sdd_graph.specs.declared.edge.Edge.{Edge}
use Rattle.sdd_graph.specs.declared.edge.Edge.TheVariants.{Vertical}
use Rattle.sdd_graph.specs.Graph.{ends, read_node, write_node}
use Rattle.sdd_advise.specs.Reach.{AreReached, IsAway}
use Rattle.sdd_advise.specs.Ways.{IsWay}
use Rattle.sdd_advise.specs.declared.pair.Link.{Link}
use Rattle.sdd_advise.specs.declared.pair.Link.TheVariants.{Linked, Apart}
use Rattle.sdd_advise.specs.declared.pair.Pair.{Pair}

-- a way from the writer's write node to the reader's, away from the reader's read node, and after it
-- the reader's vertical edge
pub record IsClosed (edges : List Edge) (reader : ClassNo) (write : ℕ) (closed : List Edge) : Type 0 where
  pub way : List Edge
  pub leads : IsWay edges (IsAway (read_node reader.0)) write (write_node reader.0) way
  pub ends : closed ≡ way ++ Vertical reader ∷ []

-- the nodes that can be reached from the writer's write node away from the reader's read node, where the
-- reader's write node isn't one of them
pub record LieApart (edges : List Edge) (reader : ClassNo) (write : ℕ) (nodes : List ℕ) : Type 0 where
  pub reached : AreReached edges (IsAway (read_node reader.0)) write nodes
  pub own_apart : ¬ Contains nodes (write_node reader.0)

-- what was found of a reader and the write node of a writer
abbrev pub IsLink : List Edge → ClassNo → ℕ → Link → Type 0
IsLink edges reader write (Linked closed) = IsClosed edges reader write closed.items
IsLink edges reader write (Apart nodes) = LieApart edges reader write nodes.items

-- what a pair says of its link is so
abbrev pub IsSoundPair : List Edge → Pair → Type 0
IsSoundPair edges pair = IsLink edges pair.reader pair.write pair.link

-- and so is what the last pair says, where there was one
abbrev pub IsSoundLast : List Edge → Option Pair → Type 0
IsSoundLast edges last = MatchOption last (Unit {0}) (IsSoundPair edges)

-- it is the pair of a reader's diagonal
pub record IsPairOf (edges : List Edge) (reader : ClassNo) (edge : Edge) (pair : Pair) : Type 0 where
  pub reader_is : pair.reader ≡ reader
  pub write_is : pair.write ≡ (ends edge).1
  pub sound : IsSoundPair edges pair
