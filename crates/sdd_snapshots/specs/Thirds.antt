-- Which reads have P3.
use Rattle.std.specs.Prelude.{ℕ, ◌-◌, ◌==◌, ◌≡◌, ◌≢◌, false, List, Some, slice_get, slice_index}
use Rattle.sdd_graph.specs.declared.edge.Edge.{Edge}
use Rattle.sdd_protocol.specs.Protocols.{same_protocol}
use Rattle.sdd_protocol.specs.declared.entry.Entry.{Entry}
use Rattle.sdd_protocol.specs.declared.protocol.Protocol.TheVariants.{P3}
use Rattle.sdd_acyclic.specs.Graphs.{IsDiagonal}

-- no entry of a protocol table has P3
abbrev pub HasNoP3 : List Entry → Type 0
HasNoP3 entries = (k : ℕ) (x : Entry) → slice_get entries k ≡ Some x → same_protocol x.protocol P3 ≡ false

-- the same of a graph and its blocks: no diagonal lies in the block of its reader's vertical edge
abbrev pub AsksForNoP3 : List Edge → List ℕ → Type 0
AsksForNoP3 graph blocks =
    (k i j f : ℕ) → IsDiagonal graph k i j f → slice_index blocks k ≢ 0
    → (slice_index blocks (i - 1) == slice_index blocks k) ≡ false
