-- Classes that retire, as parts.
use Rattle.std.specs.Prelude.{ℕ, List, [], ◌++◌, map, take, drop}
use Rattle.sdd_lang.specs.All.{ClassPart}

-- the class with its name and module, which reads and writes nothing
abbrev pub emptied_part : ClassPart → ClassPart
emptied_part c = record c { reads = []; writes = [] }

-- the first n classes lose what they read and write
abbrev pub retired_parts : ℕ → List ClassPart → List ClassPart
retired_parts n classes = map emptied_part (take n classes) ++ drop n classes
