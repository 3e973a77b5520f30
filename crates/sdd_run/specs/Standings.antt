-- How a site may have a transaction, where nothing is due.
use Rattle.std.specs.Prelude.{◌≡◌, ◌≤◌, ◌∷◌, [], Some, refl}
use Rattle.sdd_progress.specs.obligations.All.{Catalogue, D, IsClass, IsFrom1To, IsModule, Log, Site, Standing, Submit, T, U, class_no, dm_no, extended, local_of, setting_of, time_at, tm_no, txn_no}
use Rattle.sdd_progress.specs.obligations.site_rules.declared.standing.Standing.TheVariants as standings
use Rattle.sdd_progress.specs.Examples.{crossing_with}
use Rattle.sdd_schedule.specs.world.sites.Standings.{standing_of}

-- a transaction or data module of the catalogue: a site other than U
abbrev pub IsNumberedSite : Catalogue → Site → Type 0
IsNumberedSite cat U = ⊥
IsNumberedSite cat (T t) = IsFrom1To cat.tms t.0
IsNumberedSite cat (D d) = IsModule cat d.0

-- its turn in a class, at a place from 1; or a message of a site, never of U
abbrev pub IsStanding : Catalogue → Standing → Type 0
IsStanding cat standings.Absent = Unit {0}
IsStanding cat (standings.Queued class place) = IsClass cat class.0 × (1 ≤ place)
IsStanding cat (standings.Underway class ts at) = IsNumberedSite cat at

-- worked: a query has begun, and lacks the answer of the data module

abbrev begun : Log
begun = extended 3 (crossing_with (Submit (txn_no 1) ∷ [])) []

pub lacks_answer
    : standing_of (T (tm_no 1)) (setting_of (crossing_with (Submit (txn_no 1) ∷ [])) (T (tm_no 1)))
    (local_of (crossing_with (Submit (txn_no 1) ∷ [])) (T (tm_no 1)) begun) 1
    ≡ standings.Underway (class_no 1) (Some (time_at 65)) (D (dm_no 1))
lacks_answer = refl
