-- Three classes over three fragments at one module: the first two read what the other one writes, the third what it writes
-- itself. And a workload with a further list, of two classes of which each reads what the other writes.
use Rattle.std.specs.Prelude.{ℕ, pos, negsuc, [], ◌∷◌, ◌≡◌, map, refl}
use Rattle.sdd_run.specs.progress.obligations.All.{Catalogue, Class, conflict_graph, dm_no, frag_no, rel_no, tm_no}
use Rattle.sdd_run.specs.progress.obligations.catalog.declared.parts.ClassPart.{ClassPart}
use Rattle.sdd_run.specs.progress.obligations.catalog.declared.parts.Kind.TheVariants as kinds
use Rattle.sdd_run.specs.progress.obligations.graph.Graph.{ends}
use Rattle.sdd_run.specs.class_lists.InForce.{eras_in}
use Rattle.sdd_run.specs.script.declared.workload.Workload.{Workload}

-- fragments are named a, b, c and classes p, q, r

abbrev crossing_class : ℕ → ℕ → ℕ → ℕ → Class
crossing_class name tm reads writes =
    record { name = name ∷ []; tm = tm_no tm; reads = record { fragment = frag_no reads; at = dm_no 1 } ∷ []; writes = frag_no writes ∷ [] }

abbrev pub three_classes : Catalogue
three_classes =
    record {
      tms = 2;
      dms = 1;
      relations =
          record { name = 105 ∷ []; columns = record { name = 107 ∷ []; kind = kinds.Int } ∷ record { name = 118 ∷ []; kind = kinds.Int } ∷ []; key = 1 }
          ∷ [];
      fragments =
          record { name = 97 ∷ []; rel = rel_no 1; least = negsuc 9223372036854775807; greatest = pos 9; copies = dm_no 1 ∷ [] }
          ∷ record { name = 98 ∷ []; rel = rel_no 1; least = pos 10; greatest = pos 19; copies = dm_no 1 ∷ [] }
          ∷ record { name = 99 ∷ []; rel = rel_no 1; least = pos 20; greatest = pos 9223372036854775807; copies = dm_no 1 ∷ [] }
          ∷ [];
      classes = crossing_class 112 1 1 2 ∷ crossing_class 113 2 2 1 ∷ crossing_class 114 1 3 3 ∷ [];
    }

-- the ends of the edges: of each class one, and the two that cross
pub edges_of_three : map ends (conflict_graph three_classes) ≡ (0, 1) ∷ (2, 3) ∷ (4, 5) ∷ (0, 3) ∷ (2, 1) ∷ []
edges_of_three = refl

-- the classes s and t of a further list

abbrev crossing_part : ℕ → ℕ → ℕ → ℕ → ClassPart
crossing_part name tm reads writes =
    record { name = name ∷ []; tm = tm; reads = record { fragment = reads ∷ []; at = 1 } ∷ []; writes = (writes ∷ []) ∷ [] }

abbrev pub crosses_later : Workload
crosses_later =
    record { rows = []; txns = []; lists = (crossing_part 115 1 97 98 ∷ crossing_part 116 2 98 97 ∷ []) ∷ []; events = [] }

-- the catalogue of that list, in which the first three are retired
abbrev retired : ℕ → ℕ → Class
retired name tm = record { name = name ∷ []; tm = tm_no tm; reads = []; writes = [] }

abbrev pub later_classes : Catalogue
later_classes =
    record three_classes { classes = retired 112 1 ∷ retired 113 2 ∷ retired 114 1 ∷ crossing_class 115 1 1 2 ∷ crossing_class 116 2 2 1 ∷ [] }

pub lists_are : eras_in three_classes crosses_later ≡ three_classes ∷ later_classes ∷ []
lists_are = refl

pub edges_later : map ends (conflict_graph later_classes) ≡ (0, 1) ∷ (2, 3) ∷ (4, 5) ∷ (6, 7) ∷ (8, 9) ∷ (6, 9) ∷ (8, 7) ∷ []
edges_later = refl
