-- The theorems, at transactions that are numbers and relations that are tests.
use Rattle.std.specs.Prelude.{ℕ, ◌==◌, ◌≡◌, if◌then◌else◌, Bool, true, List, map}
use Rattle.sdd_blocks.specs.Graph.{Step, IsSimpleCycle}
use Rattle.sdd_blocks.specs.Blocks.{AreBlocks}
use Rattle.sdd_graph.specs.Graph.{ends}
use Rattle.sdd_graph.specs.declared.edge.Edge.{Edge}
use Rattle.sdd_links.specs.Paths.{IsOrderly}
use Rattle.sdd_acyclic.specs.Graphs.{Covers, Waits}
use Rattle.sdd_acyclic.specs.System.{System, Precedes, Facts}
use Rattle.sdd_acyclic.specs.Undeclared.{HasBarriers, declared}

-- a system by tests
pub record Tests : Type 0 where
  pub is : ℕ → Bool
  pub class : ℕ → ℕ
  pub ts : ℕ → ℕ
  pub p2 : ℕ → ℕ
  pub reads : ℕ → ℕ → Bool
  pub changes : ℕ → ℕ → Bool
  pub dm : ℕ → ℕ → ℕ
  pub seen : ℕ → ℕ → ℕ → Bool

-- a number that is one of a transaction
pub record Numbered (t : Tests) : Type 0 where
  pub no : ℕ
  pub is : t.is no ≡ true

abbrev pub system : (t : Tests) → System (Numbered t)
system t =
    record {
      name = λ x. x.no;
      class = λ x. t.class x.no;
      ts = λ x. t.ts x.no;
      p2 = λ x. t.p2 x.no;
      Reads = λ x f. t.reads x.no f ≡ true;
      Changes = λ x f. t.changes x.no f ≡ true;
      dm = t.dm;
      Seen = λ x d y. t.seen x.no d y.no ≡ true;
    }

-- transactions that keep the protocols of the conflict graph's blocks, and run undeclared ones alone, have no cycle
abbrev pub ProtocolsLeaveNoCycle : Type 0
ProtocolsLeaveNoCycle =
    (t : Tests) (graph : List Edge) (blocks : List ℕ) → AreBlocks (map ends graph) blocks
    → Facts (declared (system t)) → Covers (declared (system t)) graph → Waits (declared (system t)) graph blocks
    → HasBarriers (system t)
    → IsOrderly (Precedes (system t))

-- where the conflict graph has no simple cycle they need no protocol
abbrev pub ForestsLeaveNoCycle : Type 0
ForestsLeaveNoCycle =
    (t : Tests) (graph : List Edge) → ((start : ℕ) (steps : List Step) → ¬ IsSimpleCycle (map ends graph) start steps)
    → Facts (system t) → Covers (system t) graph
    → IsOrderly (Precedes (system t))
