-- The reader of a diagonal.
use Rattle.std.specs.Prelude.{◌≡◌}
use Rattle.sdd_base.specs.declared.number.ClassNo.{ClassNo}
use Rattle.sdd_graph.specs.declared.edge.Edge.{Edge}
use Rattle.sdd_graph.specs.declared.edge.Edge.TheVariants.{Vertical, Horizontal, Diagonal}

-- the edge is a diagonal of the class
abbrev pub IsReadOf : ClassNo → Edge → Type 0
IsReadOf reader (Vertical i) = ⊥
IsReadOf reader (Horizontal i j) = ⊥
IsReadOf reader (Diagonal i j f) = i ≡ reader
