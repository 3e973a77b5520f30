-- The catalogues of a workload, of which each list of its classes puts the next one in force.
use Rattle.std.specs.Prelude.{List, map}
use Rattle.sdd_script.specs.All.{Catalogue, Class, ClassPart, Fragment, class_of, eras, whole}
use Rattle.sdd_script.specs.declared.workload.Workload.{Workload}

-- class lists, with the numbers of a catalogue's fragments in place of their names
abbrev pub numbered : Catalogue → List (List ClassPart) → List (List Class)
numbered cat lists = map (map (class_of (map (λ (f : Fragment). f.name) cat.fragments))) lists

-- the classes of a workload's lists
abbrev pub classes_in : Catalogue → Workload → List (List Class)
classes_in cat work = numbered cat work.lists

-- the catalogues in force, one after the other: the given one, and one for each list
abbrev pub eras_in : Catalogue → Workload → List Catalogue
eras_in cat work = eras cat (classes_in cat work)

-- the catalogue with the classes of all lists
abbrev pub whole_in : Catalogue → Workload → Catalogue
whole_in cat work = whole cat (classes_in cat work)

-- the catalogues in force, and the whole one
pub record Catalogues : Type 0 where
  pub eras : List Catalogue
  pub whole : Catalogue
