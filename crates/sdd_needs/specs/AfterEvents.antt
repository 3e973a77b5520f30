-- What is so after events of a schedule: how many class lists they put in force, and which modules are down.
use Rattle.std.specs.Prelude.{ℕ, suc, Bool, List, [], ◌∷◌, false}
use Rattle.sdd_log.specs.base.declared.event.Event.{Event}
use Rattle.sdd_log.specs.base.declared.event.Event.TheVariants.{Redeclare}
use Rattle.sdd_log.specs.Traffic.{turned_by}
use Rattle.sdd_log.specs.base.declared.site.Site.{Site}

-- how many further class lists the events put in force
abbrev pub redeclares_in : List Event → ℕ
redeclares_in [] = 0
redeclares_in (Redeclare ∷ events) = suc (redeclares_in events)
redeclares_in (_ ∷ events) = redeclares_in events

-- whether a module is down after these events, before which it was so or not
abbrev pub down_from : Site → Bool → List Event → Bool
down_from at down [] = down
down_from at down (e ∷ events) = down_from at (turned_by at e down) events

abbrev pub is_down_after : Site → List Event → Bool
is_down_after at events = down_from at false events
