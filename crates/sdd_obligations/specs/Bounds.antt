-- How high a log can be.
use Rattle.std.specs.Prelude.{ℕ, ◌*◌, ◌+◌, ◌∷◌, ◌==◌, ◌≤◌, if◌then◌else◌, length, [], suc}
use Rattle.sdd_invariants.specs.All.{Act, AreSubmittedOnce, D, Did, Input, MAX_CLASSES, MAX_DMS, MAX_LINK_MESSAGES, MAX_RUN_EVENTS, MAX_TICKS, MAX_TMS, Records, Site, Start, T, U}
use Rattle.sdd_invariants.specs.site_module.SiteLog.{Log}
use Rattle.sdd_needs.specs.Inputs.{AllFewTicks}

-- the Starts of a class at a site

abbrev pub start_of_class : ℕ → Act → ℕ
start_of_class c (Records k (Start txn attempt class ts p2 uses) sends) = if k == c then 1 else 0
start_of_class c _ = 0

abbrev pub class_starts : ℕ → Log → ℕ
class_starts c [] = 0
class_starts c (Did act ∷ log) = start_of_class c act + class_starts c log
class_starts c (_ ∷ log) = class_starts c log

-- a transaction module of a network has a number
abbrev pub IsNumbered : Site → Type 0
IsNumbered U = Unit {0}
IsNumbered (T t) = 1 ≤ t.0
IsNumbered (D d) = Unit {0}

-- What is given is small: sites, classes and ticks are within their limits, and each transaction is submitted at most
-- once.
pub record IsSmall (g : Input) : Type 0 where
  pub few_tms : g.catalogue.tms ≤ MAX_TMS
  pub few_dms : g.catalogue.dms ≤ MAX_DMS
  pub few_classes : length g.catalogue.classes ≤ MAX_CLASSES
  pub few_ticks : AllFewTicks g.events
  pub once : AreSubmittedOnce g.events

-- the most sites, and the most classes with class 0
abbrev pub most_sites : ℕ
most_sites = suc (MAX_TMS + MAX_DMS)

abbrev pub most_classes : ℕ
most_classes = suc MAX_CLASSES

-- the greatest height within the limits of a run: each event ticks as long as it may, and each class of each site starts
-- an attempt for each submission and each message that is handed to the site
abbrev pub greatest_height : ℕ
greatest_height =
    MAX_RUN_EVENTS * MAX_TICKS + most_sites * (most_classes * (MAX_RUN_EVENTS + most_sites * MAX_LINK_MESSAGES))
