-- How much the classes of a module have left to do before the next message comes.
use Rattle.std.specs.Prelude.{ℕ, ◌+◌, List, [], ◌∷◌, length}
use Rattle.sdd_asks.specs.rules.All.{work_of}
use Rattle.sdd_asks.specs.rules.tm.State.{ClassState}

-- of a class: what its line has left to do, and its NULLs
abbrev pub work_in : ClassState → ℕ
work_in k = work_of k.line.active k.line.queue + length k.asks

abbrev pub work : List ClassState → ℕ
work [] = 0
work (k ∷ classes) = work_in k + work classes
