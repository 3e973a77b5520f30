-- Clocks and times of messages stay as low as modules ask.
use Rattle.sdd_obligations.proofs.All.{AllLe, AllLt, Input, IsLawful, IsSmall, IsUnder, IsWithin, List, Log, Msg, Site, Some, [], arith, clock, height, lawful_permitted, local_of, puts_to, slice_get, times_of, top, ℕ, ◌<◌, ◌^◌, ◌∷◌, ◌≡◌}
use Rattle.sdd_obligations.proofs.Bounded.{greatest_below, height_few}
use Rattle.sdd_obligations.proofs.LowLists.{low_at}
use Rattle.sdd_obligations.proofs.Under.{under}

all_below : (h : ℕ) (ts : List ℕ) → h < 2 ^ 53 → AllLe (top h) ts → AllLt (2 ^ 60) ts
all_below h [] l i = tt
all_below h (t ∷ ts) l i = ((omega (arith, l, i.0)), all_below h ts l i.1)

pub is_under : (g : Input) (log : Log) → IsSmall g → IsLawful g log → IsUnder g (height log) log
is_under g log s l = under g log (let t = s.few_tms in omega (arith, t)) s.few_ticks l (lawful_permitted g log s.once l)

pub height_below : (g : Input) (log : Log) → IsSmall g → IsLawful g log → IsWithin log → height log < 2 ^ 53
height_below g log s l w = (omega (arith, (height_few g log s l w), greatest_below))

pub clock_below : (g : Input) (log : Log) (at : Site) → IsSmall g → IsLawful g log → IsWithin log → (clock at (local_of g at log)).ticks < 2 ^ 53
clock_below g log at s l w = (omega (arith, ((is_under g log s l).clocks at), (height_below g log s l w)))

pub times_below : (g : Input) (log : Log) (a b : Site) (k : ℕ) (m : Msg) → IsSmall g → IsLawful g log → IsWithin log
    → slice_get (puts_to b (local_of g a log)) k ≡ Some m → AllLt (2 ^ 60) (times_of m)
times_below g log a b k m s l w e = grind (arith, all_below, height_below, low_at, is_under)
