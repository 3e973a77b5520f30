-- Logs at rest, and what an event needs.
use Rattle.std.specs.Prelude.{ℕ, zero, suc, ◌+◌, ◌≤◌, ◌≡◌, true, false, List, [], ◌∷◌, ◌++◌, if◌then◌else◌, length, slice_get, None, Some}
use Rattle.sdd_rules.specs.All.{D, Deliver, Down, Event, Lose, MAX_RUN_EVENTS, MAX_TICKS, Msg, Redeclare, Repeat, Resend, Settle, Site, Submit, T, Tick, Txn, U, Up, same_site, sites}
use Rattle.sdd_net.specs.Links.{delivered}
use Rattle.sdd_net.specs.Nets.{is_site, is_link}
use Rattle.sdd_log.specs.Entries.{Input, Log, Mark, marks}
use Rattle.sdd_log.specs.Traffic.{link_of, sent, handed, takes_part}
use Rattle.sdd_log.specs.Locals.{txn_at}
use Rattle.sdd_log.specs.Due.{mark_due, next, site_due}
use Rattle.sdd_log.specs.Lawful.{IsLawful, IsWithin}

-- all that has come to the end of a link is handed over, but to a module that is down
abbrev pub AllHanded : Log → Type 0
AllHanded log = (a b : Site) → takes_part b log ≡ true → handed a b log ≡ delivered (link_of a b log).there

-- At rest between two events: within the limits nothing but a mark is due. Packets may be in flight, and modules down:
-- that the links are quiet as well is `IsStill` of sdd_progress, and that no module is down either its `IsQuiet`.
pub record Rests (g : Input) (log : Log) : Type 0 where
  pub lawful : IsLawful g log
  pub within : IsWithin log
  pub no_mark : mark_due g log ≡ None
  pub no_site : site_due g log ≡ None
  pub handed_all : AllHanded log

-- an event is next, and within the limit
pub record IsMarked (g : Input) (log : Log) (e : Event) : Type 0 where
  pub rests : Rests g log
  pub next_is : next g log ≡ Some (Mark e)
  pub few : suc (marks log) ≤ MAX_RUN_EVENTS

-- the sites of the network exist
abbrev pub IsSiteOf : Input → Site → Type 0
IsSiteOf g at = is_site g.catalogue.tms g.catalogue.dms at ≡ true

abbrev pub IsLinkOf : Input → Site → Site → Type 0
IsLinkOf g a b = is_link g.catalogue.tms g.catalogue.dms a b ≡ true

-- a module that may go down: a transaction module or a data module, not U
abbrev pub IsModuleOf : Input → Site → Type 0
IsModuleOf g U = ⊥
IsModuleOf g at = IsSiteOf g at

-- what an event names exists, places count from 1, and a tick isn't too long; rounds are no single event
abbrev pub IsPossible : Input → Event → Type 0
IsPossible g (Submit n) = (txn : Txn) × (1 ≤ n.0) × (txn_at g n.0 ≡ Some txn)
IsPossible g (Deliver a b k) = IsLinkOf g a b × (1 ≤ k)
IsPossible g (Lose a b k) = IsLinkOf g a b × (1 ≤ k)
IsPossible g (Repeat a b k) = IsLinkOf g a b × (1 ≤ k)
IsPossible g (Resend a b) = IsLinkOf g a b
IsPossible g (Tick t n) = IsSiteOf g (T t) × (n ≤ MAX_TICKS)
IsPossible g (Down at) = IsModuleOf g at
IsPossible g (Up at) = IsModuleOf g at
IsPossible g Settle = ⊥
IsPossible g Redeclare = ⊥

-- what is put goes along links that exist
abbrev pub AllLinked : Input → Site → List (Site × Msg) → Type 0
AllLinked g at [] = Unit {0}
AllLinked g at (s ∷ sends) = IsLinkOf g at s.0 × AllLinked g at sends

-- an event that is reached by rounds
abbrev pub TakesRounds : Event → Type 0
TakesRounds Settle = Unit {0}
TakesRounds Redeclare = Unit {0}
TakesRounds _ = ⊥

-- so many settles, and then this event
abbrev pub settles_before : ℕ → Event → List Event
settles_before zero e = e ∷ []
settles_before (suc n) e = Settle ∷ settles_before n e

-- only this event is left, and settles before it
abbrev pub EndsIn : Event → List Event → Type 0
EndsIn e events = (settles : ℕ) × (events ≡ settles_before settles e)

-- these messages have come to the end of the link from a to b and aren't handed over yet, in order
pub record Remain (log : Log) (a b : Site) (rest : List Msg) : Type 0 where
  pub count : handed a b log + length rest ≡ delivered (link_of a b log).there
  pub messages : (i : ℕ) (m : Msg) → slice_get rest i ≡ Some m → slice_get (sent a b log) (handed a b log + i) ≡ Some m

-- within an event: of each site these messages are to be handed to site b, and nothing else is due
pub record Waits (g : Input) (log : Log) (b : Site) (kept : Site → List Msg) : Type 0 where
  pub lawful : IsLawful g log
  pub within : IsWithin log
  pub no_mark : mark_due g log ≡ None
  pub no_site : site_due g log ≡ None
  pub part : takes_part b log ≡ true
  pub remain : (a : Site) → Remain log a b (kept a)
  pub others : (x y : Site) → same_site y b ≡ false → takes_part y log ≡ true → handed x y log ≡ delivered (link_of x y log).there

-- what holds of each member of a list
abbrev pub AtEach : {A : Type 0} → (A → Type 0) → List A → Type 0
AtEach P [] = Unit {0}
AtEach P (x ∷ xs) = P x × AtEach P xs

-- the message that is handed over first: of the first site, in their order, of which one is to be handed over
pub record IsFirst (g : Input) (kept : Site → List Msg) (a b : Site) (m : Msg) (rest : List Msg) : Type 0 where
  pub linked : IsLinkOf g a b
  pub before : List Site
  pub after : List Site
  pub parts : sites g.catalogue.tms g.catalogue.dms ≡ before ++ a ∷ after
  pub earlier : AtEach (λ x. kept x ≡ []) before
  pub here : kept a ≡ m ∷ rest

-- that message is taken away
pub record TakesAway (kept less : Site → List Msg) (a : Site) (rest : List Msg) : Type 0 where
  pub here : less a ≡ rest
  pub others : (x : Site) → same_site x a ≡ false → less x ≡ kept x

-- the messages of one site, and of no other
abbrev pub from_one : Site → List Msg → Site → List Msg
from_one a messages x = if same_site x a then messages else []
