-- What a class reads and writes, in lists.
use Rattle.std.specs.Prelude.{ℕ, Bool, List, filter, map, is_some}
use Rattle.sdd_catalog.specs.Catalogue.{Catalogue, reads_at, writes}
use Rattle.sdd_graph.specs.declared.class_uses.ClassUses.{ClassUses}
use Rattle.sdd_graph.specs.Graph.{classes_of, fragments_of}

-- the fragments that a class reads, ascending
abbrev pub reads_of : Catalogue → ℕ → List ℕ
reads_of cat i = filter (λ f. is_some (reads_at cat i f)) (fragments_of cat)

-- for each fragment, ascending, whether a class writes it
abbrev pub written_by : Catalogue → ℕ → List Bool
written_by cat i = map (writes cat i) (fragments_of cat)

abbrev pub class_uses : Catalogue → ℕ → ClassUses
class_uses cat i = record { reads = reads_of cat i; written = written_by cat i }

-- for all classes, ascending
abbrev pub all_uses : Catalogue → List ClassUses
all_uses cat = map (class_uses cat) (classes_of cat)
