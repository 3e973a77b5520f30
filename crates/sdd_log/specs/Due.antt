-- The next entry of the log of everything.
use Rattle.std.specs.Prelude.{ℕ, zero, suc, nat_lt, ◌==◌, Bool, not, if◌then◌else◌, ◌∷◌, is_none, Option, Some, None}
use Rattle.sdd_rules.specs.All.{Act, Bases, Catalogue, D, Deliver, Down, Event, Lose, Msg, Repeat, Resend, Site, Submit, T, Txn, U, Up, class_for, first_some, is_empty, or_else, sites}
use Rattle.sdd_rules.specs.site_module.SiteLog as site
use Rattle.sdd_net.specs.Links.{packet_at, unacked, delivered}
use Rattle.sdd_rules.specs.dm.Due as dm
use Rattle.sdd_rules.specs.tm.Due as tm
use Rattle.sdd_rules.specs.umod.Due as um
use Rattle.sdd_log.specs.Entries.{Entry, Mark, Hand, Submitted, Notes, Does, Log, Input}
use Rattle.sdd_log.specs.Traffic.{link_of, handed, message_at, is_down, takes_part, all_links}
use Rattle.sdd_log.specs.Locals.{redeclares, nth_era, txn_at, local_of, setting_of}
use Rattle.sdd_log.specs.Snapshots.{base_of}
use Rattle.sdd_log.specs.Marks.{next_mark}

-- right after a mark: a `submit` gives its transaction to a module, and an event that finds nothing to do says so

-- the site of a transaction's class, by the catalogue in force
abbrev pub home_of : Catalogue → Option Txn → Site
home_of cat None = U
home_of cat (Some txn) = if class_for cat txn == 0 then U else T txn.tm

abbrev pub note_if : Bool → Option Entry
note_if b = if b then Some Notes else None

-- what an event makes due, said of the log before its mark
abbrev pub due_by : Input → Event → Log → Option Entry
due_by g (Submit n) log = Some (Submitted (home_of (nth_era g (redeclares log)).catalogue (txn_at g n.0)) n.0)
due_by g (Deliver a b k) log = note_if (is_none (packet_at k (link_of a b log)))
due_by g (Lose a b k) log = note_if (is_none (packet_at k (link_of a b log)))
due_by g (Repeat a b k) log = note_if (is_none (packet_at k (link_of a b log)))
due_by g (Resend a b) log = note_if (is_empty (unacked (link_of a b log).there))
due_by g (Down at) log = note_if (is_down at log)
due_by g (Up at) log = note_if (not (is_down at log))
due_by g _ log = None

abbrev pub mark_due : Input → Log → Option Entry
mark_due g (Mark e ∷ log) = due_by g e log
mark_due g _ = None

-- what is due at the sites, by their own logs

abbrev pub next_in : Input → Site → Bases → site.Log → Option Act
next_in g U bases log = um.next (setting_of g U) bases log
next_in g (T t) bases log = tm.next (setting_of g (T t)) bases log
next_in g (D d) bases log = dm.next (setting_of g (D d)) bases log

-- nothing, at a site that takes no part
abbrev pub next_at : Input → Log → Site → Option Act
next_at g log at = if takes_part at log then next_in g at (base_of g log) (local_of g at log) else None

abbrev pub does_at : Site → Option Act → Option Entry
does_at at None = None
does_at at (Some act) = Some (Does at act)

-- at the first site, in the order of sites, where something is
abbrev pub site_due : Input → Log → Option Entry
site_due g log = first_some (λ at. does_at at (next_at g log at)) (sites g.catalogue.tms g.catalogue.dms)

-- what is handed over

-- the number of the message that is handed next, where so many are handed and delivered: they are handed in order
abbrev pub next_number : ℕ → ℕ → Option ℕ
next_number handed delivered = if nat_lt handed delivered then Some (suc handed) else None

abbrev pub hand_with : Site × Site → ℕ → Option Msg → Option Entry
hand_with l n None = None
hand_with l n (Some m) = Some (Hand l.0 l.1 n m)

abbrev pub hand_number : Log → Site × Site → Option ℕ → Option Entry
hand_number log l None = None
hand_number log l (Some n) = hand_with l n (message_at l.0 l.1 n log)

-- on one link: to a site that takes part
abbrev pub hand_on : Log → Site × Site → Option Entry
hand_on log l = if takes_part l.1 log then hand_number log l (next_number (handed l.0 l.1 log) (delivered (link_of l.0 l.1 log).there)) else None

-- on the first link where something is
abbrev pub hand_due : Input → Log → Option Entry
hand_due g log = first_some (hand_on log) (all_links g)

-- the order of these: nothing is marked while something is due or to be handed over
abbrev pub in_turn : {A : Type 0} → Option A → Option A → Option A → Option A → Option A
in_turn by_mark at_site on_link mark = or_else by_mark (or_else at_site (or_else on_link mark))

abbrev pub next : Input → Log → Option Entry
next g log = in_turn (mark_due g log) (site_due g log) (hand_due g log) (next_mark g log)

-- the log with at most n entries more, each the next
abbrev pub extended : ℕ → Input → Log → Log
extended zero g log = log
extended (suc n) g log = elim (next g log) [ None ↦ log | Some e ↦ extended n g (e ∷ log) ]
