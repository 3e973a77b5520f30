-- Why a read has its protocol: what an advice has to say of a diagonal, so that a person can check it.
use Rattle.std.specs.Prelude.{ℕ, ◌-◌, ◌≡◌, Bool, true, false, List, [], map, filter, length, Some, slice_get, All, Contains}
use Rattle.sdd_base.specs.declared.number.ClassNo.{ClassNo}
use Rattle.sdd_catalog.specs.Catalogue.{Catalogue}
use Rattle.sdd_graph.specs.declared.edge.Edge.{Edge}
use Rattle.sdd_graph.specs.declared.edge.Edge.TheVariants.{Vertical, Horizontal, Diagonal}
use Rattle.sdd_graph.specs.Graph.{conflict_graph, read_node, write_node}
use Rattle.sdd_protocol.specs.declared.protocol.Protocol.{Protocol}
use Rattle.sdd_protocol.specs.declared.protocol.Protocol.TheVariants.{P1, P2, P3}
use Rattle.sdd_advise.specs.Cycles.{IsCycleFrom}
use Rattle.sdd_advise.specs.Reach.{AreReached, IsOther, IsAway}
use Rattle.sdd_advise.specs.declared.advice.Advice.{Advice}

abbrev pub advice_of : Edge → Protocol → List Edge → List ℕ → Advice
advice_of edge protocol cycle apart =
    record { edge = edge; protocol = protocol; cycle = cycle; apart = apart }

abbrev pub is_diagonal : Edge → Bool
is_diagonal (Vertical i) = false
is_diagonal (Horizontal i j) = false
is_diagonal (Diagonal i j f) = true

-- the diagonal edges of the conflict graph, in their order
abbrev pub diagonals : Catalogue → List Edge
diagonals cat = filter is_diagonal (conflict_graph cat)

-- the cycle begins with the edge
abbrev pub BeginsWith : Edge → List Edge → Type 0
BeginsWith edge cycle = slice_get cycle 0 ≡ Some edge

-- the cycle ends with the edge
abbrev pub EndsWith : Edge → List Edge → Type 0
EndsWith edge cycle = slice_get cycle (length cycle - 1) ≡ Some edge

-- P1: the diagonal is on no cycle. Without it the reader's read node can't be reached from the writer's
-- write node; these are the nodes that can be.
pub record ShowsP1 (edges : List Edge) (diagonal : Edge) (read write : ℕ) (advice : Advice) : Type 0 where
  pub no_cycle : advice.cycle ≡ []
  pub reached : AreReached edges (IsOther diagonal) write advice.apart
  pub reader_apart : ¬ Contains advice.apart read

-- P2: the diagonal is on a cycle, but no chain of cycles links it with the reader's vertical edge. Without
-- passing the reader's read node its own write node can't be reached from the writer's write node; these
-- are the nodes that can be.
pub record ShowsP2 (edges : List Edge) (diagonal : Edge) (read write own : ℕ) (advice : Advice) : Type 0 where
  pub begins : BeginsWith diagonal advice.cycle
  pub cycle : IsCycleFrom edges read advice.cycle
  pub reached : AreReached edges (IsAway read) write advice.apart
  pub own_apart : ¬ Contains advice.apart own

-- P3: the diagonal is on a cycle with the reader's vertical edge, which ends it
pub record ShowsP3 (edges : List Edge) (diagonal vertical : Edge) (read : ℕ) (advice : Advice) : Type 0 where
  pub begins : BeginsWith diagonal advice.cycle
  pub ends : EndsWith vertical advice.cycle
  pub cycle : IsCycleFrom edges read advice.cycle
  pub none_apart : advice.apart ≡ []

-- what the advice says shows that a diagonal from class i to class j has the protocol
abbrev pub ShowsProtocol : List Edge → Edge → ClassNo → ClassNo → Advice → Protocol → Type 0
ShowsProtocol edges diagonal i j advice P1 = ShowsP1 edges diagonal (read_node i.0) (write_node j.0) advice
ShowsProtocol edges diagonal i j advice P2 =
    ShowsP2 edges diagonal (read_node i.0) (write_node j.0) (write_node i.0) advice
ShowsProtocol edges diagonal i j advice P3 = ShowsP3 edges diagonal (Vertical i) (read_node i.0) advice

-- the edge is a diagonal of the graph, and the advice shows that it has the advice's protocol
abbrev pub ShowsFor : List Edge → Advice → Edge → Type 0
ShowsFor edges advice (Vertical i) = ⊥
ShowsFor edges advice (Horizontal i j) = ⊥
ShowsFor edges advice (Diagonal i j f) =
    Contains edges (Diagonal i j f) × ShowsProtocol edges (Diagonal i j f) i j advice advice.protocol

-- a good advice
abbrev pub IsGood : Catalogue → Advice → Type 0
IsGood cat advice = ShowsFor (conflict_graph cat) advice advice.edge

-- one advice for each diagonal, in their order, and each of them good
pub record AreAdvices (cat : Catalogue) (advices : List Advice) : Type 0 where
  pub edges : map (λ advice. advice.edge) advices ≡ diagonals cat
  pub good : All (IsGood cat) advices
