-- The text of what classes need.
use Rattle.std.specs.Prelude.{ℕ, Bool, if◌then◌else◌, List, [], ◌++◌, codes}
use Rattle.std.specs.List.{flat_map}
use Rattle.std.specs.Fmt.{decimal}
use Rattle.sdd_base.specs.Numbers.{class_no, dm_no, tm_no}
use Rattle.sdd_base.specs.declared.site.Site.{Site}
use Rattle.sdd_base.specs.declared.site.Site.TheVariants.{T, D}
use Rattle.sdd_catalog.specs.Catalogue.{Catalogue, numbers_to}
use Rattle.sdd_graph.specs.Graph.{classes_of}
use Rattle.sdd_ask.specs.Naming.{class_name}
use Rattle.sdd_outage.specs.Tasks.{Task, attempt, passing}

-- a module, with a space before it, where it passes the test
abbrev pub tm_word : (Site → Bool) → ℕ → List ℕ
tm_word needed n = if needed (T (tm_no n)) then codes " T" ++ decimal n else []

abbrev pub dm_word : (Site → Bool) → ℕ → List ℕ
dm_word needed n = if needed (D (dm_no n)) then codes " D" ++ decimal n else []

-- the modules that pass the test: transaction modules, and then data modules
abbrev pub module_words : Catalogue → (Site → Bool) → List ℕ
module_words cat needed =
    flat_map (tm_word needed) (numbers_to cat.tms) ++ (flat_map (dm_word needed) (numbers_to cat.dms) ++ codes "\n")

-- the line of a task of a class
abbrev pub task_line : Catalogue → ℕ → List ℕ → (Site → Bool) → List ℕ
task_line cat c word needed = class_name cat (class_no c) ++ (word ++ module_words cat needed)

-- the two lines of a class: what an attempt needs, and what its passing needs
abbrev pub class_lines : Catalogue → (Task → Site → Bool) → ℕ → List ℕ
class_lines cat needed c =
    task_line cat c (codes " attempt") (needed (attempt c)) ++ task_line cat c (codes " passing") (needed (passing c))

-- the lines of all classes
abbrev pub needs_text : Catalogue → (Task → Site → Bool) → List ℕ
needs_text cat needed = flat_map (class_lines cat needed) (classes_of cat)
