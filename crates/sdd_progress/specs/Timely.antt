-- Where a `redeclare` may stand among the events that are given: it puts the next class list in force, at all
-- transaction modules at once, and needs every module for that.
use Rattle.std.specs.Prelude.{suc, ◌≡◌, ◌<◌, List, ◌∷◌, ◌++◌, false, length}
use Rattle.sdd_obligations.specs.All.{Event, Input, IsModuleOf, Redeclare, Site, is_down_after, redeclares_in}

-- after these events: a list is left, and no module is down
pub record MayRedeclare (g : Input) (events : List Event) : Type 0 where
  pub left : suc (redeclares_in events) < length g.eras
  pub up : (at : Site) → IsModuleOf g at → is_down_after at events ≡ false

-- each `redeclare` stands where it may
abbrev pub AreTimely : Input → Type 0
AreTimely g = (front rest : List Event) → g.events ≡ front ++ Redeclare ∷ rest → MayRedeclare g front
