-- Which log a world represents, between events and within one.
use Rattle.std.specs.Prelude.{ℕ, suc, ◌≤◌, ◌≡◌, true, false, List, [], ◌∷◌, ◌++◌, ◌+◌, length, Some, None}
use Rattle.sdd_sites.specs.needs.All.{AtEach, Boxes, Catalogue, Deliver, EndsByLimit, EndsIn, Era, Event, Input, IsGood, IsLinkOf, IsMarked, IsModuleOf, IsPossible, Log, MAX_DMS, MAX_TMS, Mailbox, Mark, Messages, Msg, Redeclares, Remain, Rests, Site, TakesRounds, Txn, U, Up, Waits, after_mark, all_links, calls_of, delivery, from_one, greatest_bound, history, is_down, is_link, kept_from, left, link_of, mailbox_at, marks, next, nth_era, quiet, redeclares, redeclares_in, same_site, txn_at}
use Rattle.sdd_sites.specs.needs.protocol.declared.entry.Entry.{Entry}
use Rattle.sdd_sites.specs.needs.lang.Fits.{FitsTxn}
use Rattle.sdd_sites.specs.Carries.{Carries}
use Rattle.sdd_sites.specs.Modules.{AllRepresent}
use Rattle.sdd_world.specs.declared.world.World.{World}

-- What is given is sound: the network isn't too large, and the transactions fit the catalogue.
pub record IsSoundNetwork (g : Input) : Type 0 where
  pub few_tms : g.catalogue.tms ≤ MAX_TMS
  pub few_dms : g.catalogue.dms ≤ MAX_DMS
  pub txns_fit : (n : ℕ) (txn : Txn) → txn_at g n ≡ Some txn → FitsTxn g.catalogue txn

-- the mailbox of a module has a place for each site, and keeps messages of those alone that are linked with the module
pub record HasSenders (g : Input) (at : Site) (b : Mailbox Msg) : Type 0 where
  pub tms : b.tms ≡ g.catalogue.tms
  pub count : length b.queues ≡ suc (g.catalogue.tms + g.catalogue.dms)
  pub linked : (x : Site) → is_link g.catalogue.tms g.catalogue.dms x at ≡ false → kept_from b x ≡ []

-- and the spool a mailbox for each site
pub record HasBoxes (g : Input) (boxes : Boxes Msg) : Type 0 where
  pub tms : boxes.tms ≡ g.catalogue.tms
  pub count : length boxes.boxes ≡ suc (g.catalogue.tms + g.catalogue.dms)

-- the mailbox of a module: it keeps what remains for a module that is down, and else nothing
pub record KeepsFor (g : Input) (log : Log) (at : Site) (b : Mailbox Msg) : Type 0 where
  pub down_is : b.down ≡ is_down at log
  pub senders : HasSenders g at b
  pub kept : is_down at log ≡ true → (x : Site) → Remain log x at (kept_from b x)
  pub empty : is_down at log ≡ false → (x : Site) → kept_from b x ≡ []

-- the mailboxes of all modules but that of a site
pub record Spooled (g : Input) (log : Log) (boxes : Boxes Msg) (busy : Site) : Type 0 where
  pub has : HasBoxes g boxes
  pub each : (at : Site) → IsModuleOf g at → same_site at busy ≡ false → KeepsFor g log at (mailbox_at boxes at)

-- messages of one site are being put into the mailbox of a module that is down, and these are left
pub record Keeping (g : Input) (log : Log) (boxes : Boxes Msg) (from at : Site) (rest : List Msg) : Type 0 where
  pub here : IsModuleOf g at
  pub linked : IsLinkOf g from at
  pub is_down : is_down at log ≡ true
  pub box_down : (mailbox_at boxes at).down ≡ true
  pub senders : HasSenders g at (mailbox_at boxes at)
  pub kept : (x : Site) → Remain log x at (kept_from (mailbox_at boxes at) x ++ from_one from rest x)
  pub others : Spooled g log boxes at

-- the mailbox of a module that came up, while what was kept is handed over
pub record Rising (g : Input) (boxes : Boxes Msg) (at : Site) : Type 0 where
  pub here : IsModuleOf g at
  pub has : HasBoxes g boxes
  pub box_up : (mailbox_at boxes at).down ≡ false
  pub senders : HasSenders g at (mailbox_at boxes at)

-- the parts of a world represent a log
pub record Parts (w : World) (g : Input) (log : Log) : Type 0 where
  pub good : IsGood g
  pub sound : IsSoundNetwork g
  pub whole_is : w.whole.now ≡ g.catalogue
  pub catalogue_is : w.catalogue.now ≡ (nth_era g (redeclares log)).catalogue
  pub txns_are : w.txns ≡ g.txns
  pub given_is : w.given.items ≡ g.events
  pub history_is : w.history ≡ history log
  pub sites : AllRepresent w.sites g log
  pub net : Carries w.net g.catalogue.tms g.catalogue.dms (calls_of log)

-- between events: the parts of a world represent a log at which nothing but a mark is due (`Rests`)
pub record Calm (w : World) (g : Input) (log : Log) : Type 0 where
  pub parts : Parts w g log
  pub rests : Rests g log
  pub marks_are : w.marks ≡ marks log
  pub spooled : Spooled g log w.spool U

-- how many events a world carried out
abbrev pub events_of : World → ℕ
events_of w = w.marks

-- an event is next
pub record Before (w : World) (g : Input) (log : Log) (e : Event) : Type 0 where
  pub calm : Calm w g log
  pub next_is : next g log ≡ Some (Mark e)
  pub possible : IsPossible g e

-- an event is next and has its number
pub record Marked (w : World) (g : Input) (log : Log) (e : Event) : Type 0 where
  pub parts : Parts w g log
  pub marked : IsMarked g log e
  pub marks_are : w.marks ≡ suc (marks log)
  pub spooled : Spooled g log w.spool U
  pub possible : IsPossible g e

-- within an event messages are to be handed to a site: of each site these
pub record Handing (w : World) (g : Input) (log : Log) (b : Site) (kept : Site → List Msg) : Type 0 where
  pub parts : Parts w g log
  pub waits : Waits g log b kept
  pub marks_are : w.marks ≡ marks log
  pub spooled : Spooled g log w.spool b

-- where a run stands: what is left of its events and of a round, and how many events there were
pub record Position : Type 0 where
  pub rest : List Event × List Event
  pub number : ℕ

abbrev pub position_of : Input → Log → Position
position_of g log = record { rest = left g.events log; number = marks log }

abbrev pub after_event : Input → Log → Position
after_event g log = record { rest = after_mark (left g.events log); number = suc (marks log) }

abbrev pub EndsBy : Input → Type 0
EndsBy g = (more : Log) × EndsByLimit g more

-- an event was carried out from the log: no more of it is due
pub record Happened (w : World) (g : Input) (log : Log) : Type 0 where
  pub more : Log
  pub calm : Calm w g more
  pub position_is : position_of g more ≡ after_event g log

-- messages were handed over, and these are left
pub record HandedOn (w : World) (g : Input) (b : Site) (kept : Site → List Msg) (position : Position) (boxes : Boxes Msg) : Type 0 where
  pub more : Log
  pub handing : Handing w g more b kept
  pub position_is : position_of g more ≡ position
  pub spool_is : w.spool ≡ boxes

-- between events all that was given is carried out: the log is complete
pub record Represents (w : World) (g : Input) (log : Log) : Type 0 where
  pub calm : Calm w g log
  pub complete : next g log ≡ None

-- between rounds, in a settle or a redeclare
pub record Settling (w : World) (g : Input) (log : Log) (e : Event) : Type 0 where
  pub calm : Calm w g log
  pub waiting : List Event
  pub left_is : left g.events log ≡ (waiting, [])
  pub rounds : TakesRounds e
  pub ends : EndsIn e waiting

-- The rounds are over: nothing is in flight, and all is acknowledged. Said of a world within a settle or a redeclare;
-- `IsSettled` of sdd_progress is said of a log at which nothing is next.
pub record IsSettled (w : World) (g : Input) (e : Event) : Type 0 where
  pub more : Log
  pub settling : Settling w g more e
  pub is_quiet : quiet (all_links g) (calls_of more) ≡ true

-- in a round these of its events are left
pub record Rounding (w : World) (g : Input) (log : Log) (e : Event) (events : List Event) : Type 0 where
  pub calm : Calm w g log
  pub waiting : List Event
  pub left_is : left g.events log ≡ (waiting, events)
  pub rounds : TakesRounds e
  pub ends : EndsIn e waiting
  pub possible : AtEach (IsPossible g) events

-- these classes and their protocol table are the next list that is given
abbrev pub IsNextList : Input → Catalogue → List Entry → Type 0
IsNextList g cat table = nth_era g (suc (redeclares_in g.events)) ≡ record { catalogue = cat; table = table }

-- to put this class list in force is all that is left
pub record Redeclaring (w : World) (g : Input) (log : Log) (era : Era) : Type 0 where
  pub calm : Calm w g log
  pub next_is : next g log ≡ Some (Redeclares (greatest_bound g log))
  pub none_behind : after_mark (left g.events log) ≡ ([], [])
  pub era_is : nth_era g (suc (redeclares log)) ≡ era

-- messages have come to a site by a delivery in the world w
pub record Arrives (w now : World) (g : Input) (log : Log) (a b : Site) (k : ℕ) (messages : List Msg) : Type 0 where
  pub marked : Marked w g log (Deliver a b k)
  pub delivered_are : delivery k (link_of a b log) ≡ Messages messages
  pub same : now ≡ record w { net = now.net }
  pub net : Carries now.net g.catalogue.tms g.catalogue.dms (calls_of (Mark (Deliver a b k) ∷ log))

-- a module came up, and hasn't done yet what is due: what was kept for it is to be handed over after that
pub record Resuming (w : World) (g : Input) (log : Log) (at : Site) : Type 0 where
  pub marked : IsMarked g log (Up at)
  pub was_down : is_down at log ≡ true
  pub parts : Parts w g log
  pub marks_are : w.marks ≡ suc (marks log)
  pub kept : (x : Site) → Remain log x at (kept_from (mailbox_at w.spool at) x)
  pub rising : Rising g w.spool at
  pub others : Spooled g (Mark (Up at) ∷ log) w.spool at

-- it has done that
pub record Resumed (now : World) (g : Input) (log : Log) (at : Site) : Type 0 where
  pub more : Log
  pub handing : Handing now g more at (kept_from (mailbox_at now.spool at))
  pub rising : Rising g now.spool at
  pub position_is : position_of g more ≡ position_of g (Mark (Up at) ∷ log)

-- all that was kept for a module is handed over
pub record Risen (now : World) (g : Input) (log : Log) (at : Site) : Type 0 where
  pub more : Log
  pub handing : Handing now g more at (kept_from (mailbox_at now.spool at))
  pub rising : Rising g now.spool at
  pub position_is : position_of g more ≡ position_of g log
  pub none : (x : Site) → kept_from (mailbox_at now.spool at) x ≡ []
