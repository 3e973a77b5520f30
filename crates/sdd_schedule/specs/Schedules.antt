-- What is given with the events of a schedule, and which schedules can be carried out.
use Rattle.std.specs.Prelude.{Bool, true, false, ◌≡◌, List, [], ◌∷◌}
use Rattle.sdd_world.specs.needs.All.{Event, Input, IsGood, IsPossible, Redeclare, Settle, with_event}
use Rattle.sdd_schedule.specs.declared.schedule.ClassList.{ClassList}
use Rattle.sdd_world.specs.Represents.{IsNextList}

-- an event that is reached by rounds
abbrev pub takes_rounds : Event → Bool
takes_rounds Settle = true
takes_rounds Redeclare = true
takes_rounds _ = false

-- what is given, with these events after its own
abbrev pub with_events : Input → List Event → Input
with_events g [] = g
with_events g (e ∷ events) = with_events (with_event g e) events

-- the first of these class lists is the next that is given
abbrev pub IsListed : Input → List ClassList → Type 0
IsListed g [] = ⊥
IsListed g (list ∷ lists) = IsNextList g list.catalogue.now list.table.now

-- an event takes the first of the lists, if it puts one in force
abbrev pub lists_after : Event → List ClassList → List ClassList
lists_after Redeclare (list ∷ lists) = lists
lists_after _ lists = lists

-- An event may come next: it is a settle, or a redeclare for which the next class list is there, or what it names
-- exists; and with it what is given is good.
pub record IsAllowed (g : Input) (e : Event) (lists : List ClassList) : Type 0 where
  pub possible : takes_rounds e ≡ false → IsPossible g e
  pub listed : e ≡ Redeclare → IsListed g lists
  pub good : IsGood (with_event g e)

-- each event of a schedule may come after those before it
abbrev pub AreAllowed : Input → List Event → List ClassList → Type 0
AreAllowed g [] lists = Unit {0}
AreAllowed g (e ∷ events) lists = IsAllowed g e lists × AreAllowed (with_event g e) events (lists_after e lists)
