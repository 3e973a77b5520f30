-- How much the module has left to do before the next message comes.
use Rattle.std.specs.Prelude.{ℕ, suc, ◌+◌, ◌-◌, List, [], ◌∷◌, length}
use Rattle.sdd_counts.specs.rules.All.{work_of}
use Rattle.sdd_counts.specs.rules.umod.Views.{TmCounts}
use Rattle.sdd_counts.specs.rules.umod.State.{State}

-- of one T: the RELEASEs and HOLDs that it may still get, where there are so many transactions, served or to be served
abbrev pub signs_left : ℕ → TmCounts → ℕ
signs_left txns k = (txns - k.releases) + (suc txns - k.holds)

abbrev pub all_signs : ℕ → List TmCounts → ℕ
all_signs txns [] = 0
all_signs txns (k ∷ counts) = signs_left txns k + all_signs txns counts

-- and what its line has left to do
abbrev pub work : State → ℕ
work state = work_of state.line.active state.line.queue + all_signs (state.served.commits + length state.line.queue) state.counts
