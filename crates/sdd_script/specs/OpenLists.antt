-- A class list that isn't ended yet, of which the last class may get further reads and writes.
use Rattle.std.specs.Prelude.{ℕ, ◌==◌, List, [], ◌∷◌, ◌++◌, length, Bool, false, Option, Some, None, is_some}
use Rattle.std.specs.Option.{option_map, option_map_or}
use Rattle.sdd_lang.specs.All.{ClassPart, ReadPart, TmNo}
use Rattle.sdd_script.specs.declared.open_list.OpenClass.{OpenClass}
use Rattle.sdd_script.specs.declared.open_list.OpenList.{OpenList}

-- the class as it stands
abbrev pub class_so_far : OpenClass → ClassPart
class_so_far c = record { name = c.name; tm = c.tm.0; reads = c.reads; writes = c.writes }

abbrev pub last_class : Option OpenClass → List ClassPart
last_class None = []
last_class (Some c) = class_so_far c ∷ []

-- the classes so far, the last one too
abbrev pub classes_in : OpenList → List ClassPart
classes_in l = l.classes ++ last_class l.last

-- a list that begins
abbrev pub no_classes : OpenList
no_classes = record { classes = []; last = None }

-- a further class, of which nothing is said yet
abbrev pub with_class : OpenList → List ℕ → TmNo → OpenList
with_class l name tm = record { classes = classes_in l; last = Some (record { name = name; tm = tm; reads = []; writes = [] }) }

-- the last class reads and writes further fragments

abbrev pub with_read : OpenList → ReadPart → OpenList
with_read l read = record l { last = option_map (λ (c : OpenClass). record c { reads = c.reads ++ read ∷ [] }) l.last }

abbrev pub with_write : OpenList → List ℕ → OpenList
with_write l fragment = record l { last = option_map (λ (c : OpenClass). record c { writes = c.writes ++ fragment ∷ [] }) l.last }

abbrev pub reads_in : OpenList → List ReadPart
reads_in l = option_map_or (λ (c : OpenClass). c.reads) l.last []

abbrev pub writes_in : OpenList → List (List ℕ)
writes_in l = option_map_or (λ (c : OpenClass). c.writes) l.last []

-- the reads of a class stand before its writes

abbrev pub takes_reads : OpenList → Bool
takes_reads l = option_map_or (λ (c : OpenClass). length c.writes == 0) l.last false

abbrev pub takes_writes : OpenList → Bool
takes_writes l = is_some l.last
