-- Names, by their bytes.
use Rattle.std.specs.Prelude.{ℕ, List, Option, Some, None, if◌then◌else◌}
use Rattle.sdd_base.specs.Name.{is_name}

-- the name, if the bytes are one
abbrev pub name_in : List ℕ → Option (List ℕ)
name_in bytes = if is_name bytes then Some bytes else None
