-- Permitted logs: each entry is due, in whatever order. What holds of all of them is easier to prove than what holds of
-- lawful logs, which are among them.
use Rattle.std.specs.Prelude.{ℕ, suc, ◌+◌, ◌≤◌, ◌≡◌, ◌==◌, Bool, true, false, not, ◌||◌, List, [], ◌∷◌, Some}
use Rattle.sdd_rules.specs.All.{Act, D, Event, Msg, Site, Submit, T, U}
use Rattle.sdd_net.specs.Links.{delivered}
use Rattle.sdd_rules.specs.dm.Views as dm_views
use Rattle.sdd_rules.specs.dm.Due as dm
use Rattle.sdd_rules.specs.tm.Views as tm_views
use Rattle.sdd_rules.specs.tm.Due as tm
use Rattle.sdd_rules.specs.umod.Views as um_views
use Rattle.sdd_rules.specs.umod.Due as um
use Rattle.sdd_log.specs.Entries.{Input, Log, Entry, Mark, Round, Redeclares, Hand, Does}
use Rattle.sdd_log.specs.Traffic.{link_of, handed, message_at, takes_part}
use Rattle.sdd_log.specs.Locals.{local_of, setting_of}
use Rattle.sdd_log.specs.Snapshots.{base_of}
use Rattle.sdd_log.specs.Due.{mark_due}

-- whether a `submit` of transaction n is marked
abbrev pub was_marked : ℕ → Log → Bool
was_marked n [] = false
was_marked n (Mark (Submit k) ∷ log) = (k.0 == n) || was_marked n log
was_marked n (_ ∷ log) = was_marked n log

-- a mark submits a number that was not submitted before
abbrev pub is_new_mark : Event → Log → Bool
is_new_mark (Submit n) log = not (was_marked n.0 log)
is_new_mark _ log = true

-- an act is due at its site, of whatever rank and class
abbrev pub IsDueAt : Input → Log → Site → Act → Type 0
IsDueAt g log U act = um.IsDue g.catalogue (base_of g log) (um_views.view_of (setting_of g U) (local_of g U log)) act
IsDueAt g log (T t) act = tm.IsDue g.catalogue (base_of g log) (tm_views.view_of (setting_of g (T t)) (local_of g (T t) log)) act
IsDueAt g log (D d) act = dm.IsDue (dm_views.home_of (setting_of g (D d))) (dm_views.view_of (setting_of g (D d)) (local_of g (D d) log)) act

-- an entry may come after the log; the messages of a link are handed over in order
pub data IsAllowed (g : Input) (log : Log) : Entry → Type 0 where
  by_mark : (e : Event) → is_new_mark e log ≡ true → IsAllowed g log (Mark e)
  by_round : (es : List Event) → IsAllowed g log (Round es)
  by_redeclare : (t : ℕ) → IsAllowed g log (Redeclares t)
  by_event : {e : Entry} → mark_due g log ≡ Some e → IsAllowed g log e
  by_site : (at : Site) (act : Act) → IsDueAt g log at act → IsAllowed g log (Does at act)
  by_link : (a b : Site) (n : ℕ) (m : Msg)
      → n ≡ suc (handed a b log) → n ≤ delivered (link_of a b log).there → takes_part b log ≡ true → message_at a b n log ≡ Some m
      → IsAllowed g log (Hand a b n m)

abbrev pub IsPermitted : Input → Log → Type 0
IsPermitted g [] = Unit {0}
IsPermitted g (e ∷ log) = IsAllowed g log e × IsPermitted g log

-- how often events submit transaction n

abbrev pub one_if : Bool → ℕ
one_if true = 1
one_if false = 0

abbrev pub submits_by : ℕ → Event → ℕ
submits_by n (Submit k) = one_if (k.0 == n)
submits_by n _ = 0

abbrev pub submits_in : ℕ → List Event → ℕ
submits_in n [] = 0
submits_in n (e ∷ es) = submits_by n e + submits_in n es

-- each transaction is submitted at most once
abbrev pub AreSubmittedOnce : List Event → Type 0
AreSubmittedOnce events = (n : ℕ) → submits_in n events ≤ 1
