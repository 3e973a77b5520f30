-- Where a `redeclare` may stand: it puts the next class list in force, at all modules at once.
use Rattle.std.specs.Prelude.{ℕ, ◌==◌, ◌&&◌, ◌||◌, nat_lt, not, Bool, true, false, List, length, count_by, if◌then◌else◌}
use Rattle.std.specs.List.{fold, list_any}
use Rattle.sdd_lang.specs.All.{Catalogue, D, Down, Event, Redeclare, Site, T, Up, dm_no, numbers_to, tm_no}
use Rattle.sdd_lang.specs.base.Sites.{same_site}
use Rattle.sdd_script.specs.declared.workload.Workload.{Workload}

abbrev pub is_redeclare : Event → Bool
is_redeclare Redeclare = true
is_redeclare event = false

-- a module is down where the last `down` or `up` of it was a `down`

abbrev pub turned_by : Site → Event → Bool → Bool
turned_by at (Down m) down = if same_site m at then true else down
turned_by at (Up m) down = if same_site m at then false else down
turned_by at event down = down

abbrev pub is_down : Site → List Event → Bool
is_down at events = fold (λ down e. turned_by at e down) false events

-- whether a transaction module or a data module of the catalogue is down
abbrev pub some_down : Catalogue → List Event → Bool
some_down cat events =
    list_any (λ n. is_down (T (tm_no n)) events) (numbers_to cat.tms) || list_any (λ n. is_down (D (dm_no n)) events) (numbers_to cat.dms)

-- after these events, with so many lists: a list is left, and no module is down
abbrev pub may_redeclare : Catalogue → ℕ → List Event → Bool
may_redeclare cat lists events = nat_lt (count_by is_redeclare events) lists && not (some_down cat events)

-- whether an event may follow these
abbrev pub may_follow : Catalogue → ℕ → List Event → Event → Bool
may_follow cat lists events Redeclare = may_redeclare cat lists events
may_follow cat lists events event = true

-- whether a workload has class lists
abbrev pub has_lists : Workload → Bool
has_lists w = not (length w.lists == 0)
