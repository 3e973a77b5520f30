-- Which links an event may change: those on which it delivers, loses, repeats or resends, those to a module that comes up,
-- and those from the site that acts, as a module that comes up may.
-- For the contracts of the code: not needed to read `IsTextOf`.
use Rattle.std.specs.Prelude.{Bool, false, true, ◌&&◌, ◌||◌, if◌then◌else◌, Option, None, Some}
use Rattle.sdd_progress.specs.obligations.All.{Deliver, Event, Input, Log, Lose, Repeat, Resend, Site, Submit, U, Up, nth_era, redeclares, same_site, txn_at}
use Rattle.sdd_progress.specs.obligations.logs.Due.{home_of}
use Rattle.sdd_inside.specs.declared.delta.Found.{Found}
use Rattle.sdd_inside.specs.declared.delta.Found.TheVariants as founds
use Rattle.sdd_moments.specs.AtEvent.{found_by, last_event}
use Rattle.sdd_moments.specs.declared.reach.Reach.{Reach}
use Rattle.sdd_moments.specs.declared.reach.Reach.TheVariants.{Across, Along, Around, From, Nowhere}

-- an acknowledgement makes no site act
abbrev pub reach_of_delivery : Site → Site → Found → Reach
reach_of_delivery a b (founds.Acknowledged upto acked) = Along a b
reach_of_delivery a b _ = Across a b

-- by the log after the event, and what it found
abbrev pub reach_of : Input → Log → Event → Found → Reach
reach_of g log (Submit n) found = From (home_of (nth_era g (redeclares log)).catalogue (txn_at g n.0))
reach_of g log (Deliver a b k) found = reach_of_delivery a b found
reach_of g log (Lose a b k) found = Along a b
reach_of g log (Repeat a b k) found = Along a b
reach_of g log (Resend a b) found = Along a b
reach_of g log (Up at) found = Around at
reach_of g log _ found = Nowhere

-- the event that lies between two logs
abbrev pub reach_between : Input → Log → Log → Reach
reach_between g old new = reach_of g new (last_event new) (found_by (last_event new) old new)

-- the site to which an event gives a transaction, and U where it gives none
abbrev pub given_to : Input → Log → Event → Site
given_to g log (Submit n) = home_of (nth_era g (redeclares log)).catalogue (txn_at g n.0)
given_to g log _ = U

-- the same by what is reached
abbrev pub home_in : Reach → Site
home_in (From a) = a
home_in _ = U

-- whether a site may act
abbrev pub may_act : Reach → Site → Bool
may_act (Across a b) x = same_site x b
may_act (From a) x = same_site x a
may_act (Around a) x = same_site x a
may_act _ x = false

-- it is one at most
abbrev pub actor : Reach → Option Site
actor (Across a b) = Some b
actor (From a) = Some a
actor (Around a) = Some a
actor _ = None

-- whether the link from x to y goes one way or the other between two sites
abbrev pub is_between : Site → Site → Site → Site → Bool
is_between a b x y = (same_site x a && same_site y b) || (same_site x b && same_site y a)

-- whether the link from x to y may change though x puts no message on it
abbrev pub is_touched : Reach → Site → Site → Bool
is_touched (Along a b) x y = is_between a b x y
is_touched (Across a b) x y = is_between a b x y
is_touched (Around a) x y = same_site y a
is_touched _ x y = false

-- of the links from x at most one is: the site to which that goes, which is the other one of two sites, or the module that
-- comes up

abbrev pub other_end : Site → Site → Site → Option Site
other_end a b x = if same_site x a then Some b else if same_site x b then Some a else None

abbrev pub touched_from : Reach → Site → Option Site
touched_from (Along a b) x = other_end a b x
touched_from (Across a b) x = other_end a b x
touched_from (Around a) x = Some a
touched_from _ x = None

abbrev pub is_to : Option Site → Site → Bool
is_to None y = false
is_to (Some a) y = same_site y a

-- whether one of the links from x may change
abbrev pub may_change_from : Reach → Site → Bool
may_change_from Nowhere x = false
may_change_from (Along a b) x = same_site x a || same_site x b
may_change_from (Across a b) x = same_site x a || same_site x b
may_change_from (From a) x = same_site x a
may_change_from (Around a) x = true
