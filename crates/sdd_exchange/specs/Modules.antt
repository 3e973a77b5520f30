-- The modules of an attempt, as a module that makes attempts keeps them.
use Rattle.std.specs.Prelude.{ℕ, cond, List, map, filter_map, Option, Some, None}
use Rattle.sdd_module.specs.All.{D, DmNo, Msg, Read, Site, contains}

-- a module by its number
abbrev pub numbered : DmNo × List ℕ → ℕ × List ℕ
numbered m = (m.0.0, m.1)

-- a READ's module, and the numbers of its uses
abbrev pub module_of : Site × Msg → Option (DmNo × List ℕ)
module_of (D d, Read ts c txn attempt conds uses) = Some (d, map (λ u. u.number) uses)
module_of _ = None

-- the module, where use u is read there
abbrev pub dm_with_use : ℕ → DmNo × List ℕ → Option DmNo
dm_with_use u m = cond (contains m.1 u) (Some m.0) None

-- the modules that read use u
abbrev pub with_use : List (ℕ × List ℕ) → ℕ → List ℕ
with_use modules u = filter_map (λ m. cond (contains m.1 u) (Some m.0) None) modules
