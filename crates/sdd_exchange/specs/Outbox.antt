-- The messages of an exchange, as a module keeps them.
use Rattle.std.specs.Prelude.{ℕ, List, map}
use Rattle.sdd_module.specs.All.{DmNo, Msg}

-- a message with the number of its module
abbrev pub numbered : DmNo × Msg → ℕ × Msg
numbered m = (m.0.0, m.1)

-- one message to each module
abbrev pub addressed : Msg → List DmNo → List (DmNo × Msg)
addressed m dms = map (λ d. (d, m)) dms
