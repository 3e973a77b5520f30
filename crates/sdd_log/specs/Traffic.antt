-- What is put on the links and handed over, as the log of everything gives it.
use Rattle.std.specs.Prelude.{ℕ, ◌-◌, Bool, true, false, not, ◌&&◌, ◌||◌, if◌then◌else◌, List, [], ◌∷◌, slice_get, Option}
use Rattle.sdd_rules.specs.All.{D, Deliver, Down, Event, Lose, Msg, Repeat, Resend, Site, T, U, Up, links, same_site, sends_of_act}
use Rattle.sdd_net.specs.Links.{Call, Puts, Delivers, Loses, Repeats, Resends, Link, link}
use Rattle.sdd_log.specs.Entries.{Log, Mark, Hand, Does, Input}

-- the calls on the links: an act puts its messages, and an event delivers, loses, repeats or resends

abbrev pub puts : Site → List (Site × Msg) → List (Call Msg) → List (Call Msg)
puts at [] calls = calls
puts at (s ∷ sends) calls = puts at sends (Puts at s.0 s.1 ∷ calls)

abbrev pub calls_by : Event → List (Call Msg) → List (Call Msg)
calls_by (Deliver a b k) calls = Delivers a b k ∷ calls
calls_by (Lose a b k) calls = Loses a b k ∷ calls
calls_by (Repeat a b k) calls = Repeats a b k ∷ calls
calls_by (Resend a b) calls = Resends a b ∷ calls
calls_by _ calls = calls

abbrev pub calls_of : Log → List (Call Msg)
calls_of [] = []
calls_of (Mark e ∷ log) = calls_by e (calls_of log)
calls_of (Does at act ∷ log) = puts at (sends_of_act act) (calls_of log)
calls_of (_ ∷ log) = calls_of log

-- the link from a to b with the link back
abbrev pub link_of : Site → Site → Log → Link Msg
link_of a b log = link a b (calls_of log)

-- the links of the network, in their order
abbrev pub all_links : Input → List (Site × Site)
all_links g = links g.catalogue.tms g.catalogue.dms

-- the messages that were put on the link from a to b
abbrev pub sent : Site → Site → Log → List Msg
sent a b log = (link_of a b log).there.sent

-- how many messages of the link from a to b were handed over
abbrev pub handed : Site → Site → Log → ℕ
handed a b [] = 0
handed a b (Hand from to n m ∷ log) = if same_site a from && same_site b to then n else handed a b log
handed a b (_ ∷ log) = handed a b log

-- message n of the link
abbrev pub message_at : Site → Site → ℕ → Log → Option Msg
message_at from to n log = slice_get (sent from to log) (n - 1)

-- a module is down where the last `down` or `up` of it was a `down`
abbrev pub turned_by : Site → Event → Bool → Bool
turned_by at (Down m) down = if same_site m at then true else down
turned_by at (Up m) down = if same_site m at then false else down
turned_by at _ down = down

abbrev pub is_down : Site → Log → Bool
is_down at [] = false
is_down at (Mark e ∷ log) = turned_by at e (is_down at log)
is_down at (_ ∷ log) = is_down at log

-- whether the site takes part, as U always does: to a module that is down nothing is handed, and it does nothing
abbrev pub takes_part : Site → Log → Bool
takes_part at log = same_site at U || not (is_down at log)
