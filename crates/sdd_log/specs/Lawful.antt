-- Which log is the log of what is given.
use Rattle.std.specs.Prelude.{suc, nat_lt, ◌≡◌, Bool, true, false, ◌||◌, List, [], ◌∷◌, length, Some, None}
use Rattle.sdd_rules.specs.All.{MAX_LINK_MESSAGES, MAX_RUN_EVENTS, Msg, Site, sends_of_act}
use Rattle.sdd_net.specs.Links.{Call, Puts, link}
use Rattle.sdd_log.specs.Entries.{Input, Log, Entry, Mark, Redeclares, Does, marks}
use Rattle.sdd_log.specs.Traffic.{calls_of}
use Rattle.sdd_log.specs.Due.{next}

-- each entry is the next one of those before it
abbrev pub IsLawful : Input → Log → Type 0
IsLawful g [] = Unit {0}
IsLawful g (e ∷ log) = (next g log ≡ Some e) × IsLawful g log

-- whether a put of an act is one message more than a link may have in a run; it counts the puts before it in the act
abbrev pub puts_past : List (Call Msg) → Site → List (Site × Msg) → Bool
puts_past calls at [] = false
puts_past calls at (s ∷ sends) = nat_lt MAX_LINK_MESSAGES (suc (length (link at s.0 calls).there.sent)) || puts_past (Puts at s.0 s.1 ∷ calls) at sends

-- whether an entry after the log passes a limit: it would be one event more than a run may have, or puts such a message
abbrev pub is_past : Log → Entry → Bool
is_past log (Mark e) = nat_lt MAX_RUN_EVENTS (suc (marks log))
is_past log (Redeclares t) = nat_lt MAX_RUN_EVENTS (suc (marks log))
is_past log (Does at act) = puts_past (calls_of log) at (sends_of_act act)
is_past log _ = false

abbrev pub IsWithin : Log → Type 0
IsWithin [] = Unit {0}
IsWithin (e ∷ log) = (is_past log e ≡ false) × IsWithin log

-- the log of what is given: lawful, within the limits, and complete
pub record IsTheLog (g : Input) (log : Log) : Type 0 where
  pub lawful : IsLawful g log
  pub within : IsWithin log
  pub complete : next g log ≡ None

-- the log of what is given where a limit ends it: the next entry would pass it
pub record EndsByLimit (g : Input) (log : Log) : Type 0 where
  pub lawful : IsLawful g log
  pub within : IsWithin log
  pub entry : Entry
  pub next_is : next g log ≡ Some entry
  pub past : is_past log entry ≡ true
