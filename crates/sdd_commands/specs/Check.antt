-- What a check of a catalogue prints.
use Rattle.std.specs.Prelude.{ℕ, List, ◌++◌, codes, length}
use Rattle.std.specs.Fmt.{decimal}
use Rattle.sdd_lang.specs.All.{Catalogue}

-- how many modules there are of each sort
abbrev pub module_counts : ℕ → ℕ → List ℕ
module_counts tms dms = codes "ok tms " ++ (decimal tms ++ (codes " dms " ++ decimal dms))

-- how many relations, fragments and classes there are
abbrev pub part_counts : ℕ → ℕ → List ℕ
part_counts relations fragments = codes " relations " ++ (decimal relations ++ (codes " fragments " ++ decimal fragments))

abbrev pub class_count : ℕ → List ℕ
class_count classes = codes " classes " ++ (decimal classes ++ codes "\n")

-- all of it in one line
abbrev pub check_line : Catalogue → List ℕ
check_line cat = module_counts cat.tms cat.dms ++ (part_counts (length cat.relations) (length cat.fragments) ++ class_count (length cat.classes))
