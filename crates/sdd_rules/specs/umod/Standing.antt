-- How the module for undeclared transactions has a transaction.
use Rattle.std.specs.Prelude.{ℕ, ◌-◌, ◌≡◌, ◌==◌, ◌&&◌, Bool, not, if◌then◌else◌, find, is_none, option_map, Option, Some, None, refl}
use Rattle.std.specs.List.{list_any}
use Rattle.sdd_module.specs.All.{Site, T, U, class_no}
use Rattle.sdd_module.specs.base.declared.number.TmNo.{TmNo}
use Rattle.sdd_rules.specs.attempt.Standings.{standing_of}
use Rattle.sdd_module.specs.base.Numbers.{tm_no}
use Rattle.sdd_rules.specs.declared.standing.Standing.{Standing}
use Rattle.sdd_rules.specs.declared.standing.Standing.TheVariants.{Queued, Underway}
use Rattle.sdd_rules.specs.umod.Views.{TmCounts, tm_of, turn}
use Rattle.sdd_rules.specs.umod.State.{State}

-- a T was asked to hold for the transaction of this number
abbrev pub is_asked_to_hold : ℕ → TmCounts → Bool
is_asked_to_hold n k = k.holds == n

-- the next transaction is being served, from its first HOLD on, and hasn't started yet
abbrev pub is_awaiting_helds : State → Bool
is_awaiting_helds state = is_none state.line.active && list_any (is_asked_to_hold (turn state.served)) state.counts

-- a T whose HELD for it is missing
abbrev pub lacks_held : ℕ → TmCounts → Bool
lacks_held n k = not (k.helds == n)

abbrev pub unheld_by : ℕ → TmCounts → Option TmNo
unheld_by n k = if lacks_held n k then Some (tm_of k) else None

-- The first such T. Where no HELD is missing, the transaction starts within the call in which the last one came.
abbrev pub site_of : Option TmNo → Site
site_of None = U
site_of (Some tm) = T tm

abbrev pub missing_site : State → Site
missing_site state = site_of (option_map tm_of (find (lacks_held (turn state.served)) state.counts))

-- the first in the queue is underway, and isn't counted in the places of the others
abbrev pub first_underway : Site → Standing → Standing
first_underway site (Queued class place) = if place == 1 then Underway class None site else Queued class (place - 1)
first_underway site standing = standing

abbrev pub standing_in : State → ℕ → Standing
standing_in state n =
    if is_awaiting_helds state
    then first_underway (missing_site state) (standing_of state.line n)
    else standing_of state.line n

-- worked: while the HELD of T1 is missing, the first in the queue is underway, and the second is the first that waits

pub first_row : first_underway (T (tm_no 1)) (Queued (class_no 0) 1) ≡ Underway (class_no 0) None (T (tm_no 1))
first_row = refl

pub second_row : first_underway (T (tm_no 1)) (Queued (class_no 0) 2) ≡ Queued (class_no 0) 1
second_row = refl
