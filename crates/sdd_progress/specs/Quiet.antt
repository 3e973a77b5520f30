-- Logs at which nothing goes on: nothing is under way on a link, and nothing is due at a site.
use Rattle.std.specs.Prelude.{ℕ, ◌≡◌, false, true, None}
use Rattle.sdd_obligations.specs.All.{D, Input, IsModuleOf, IsPermitted, Log, Site, all_links, calls_of, dm_no, hand_due, home, is_down, local_of, quiet, site_due}
use Rattle.sdd_obligations.specs.site_module.SiteLog as site

-- Nothing is in flight and nothing unacknowledged, and neither an act nor a hand is due. Modules may be down: what waits at
-- one isn't due.
pub record IsStill (g : Input) (log : Log) : Type 0 where
  pub permitted : IsPermitted g log
  pub links : quiet (all_links g) (calls_of log) ≡ true
  pub no_act : site_due g log ≡ None
  pub no_hand : hand_due g log ≡ None

-- and no module is down; what the classes still have to do is no part of it (`IsIdle`, `IsFinished`)
pub record IsQuiet (g : Input) (log : Log) : Type 0 where
  pub permitted : IsPermitted g log
  pub links : quiet (all_links g) (calls_of log) ≡ true
  pub up : (at : Site) → IsModuleOf g at → is_down at log ≡ false
  pub no_act : site_due g log ≡ None
  pub no_hand : hand_due g log ≡ None

-- the log of data module d, and that of the site that runs class c
abbrev pub at_module : Input → ℕ → Log → site.Log
at_module g d log = local_of g (D (dm_no d)) log

abbrev pub at_home : Input → ℕ → Log → site.Log
at_home g c log = local_of g (home g.catalogue c) log
