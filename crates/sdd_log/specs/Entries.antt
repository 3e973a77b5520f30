-- The one log of everything, newest first, and its history.
use Rattle.std.specs.Prelude.{ℕ, suc, List, [], ◌∷◌, ◌++◌, map}
use Rattle.sdd_rules.specs.All.{Act, Catalogue, Era, Event, History, Msg, Nothing, RelNo, Row, Site, Txn, records_of_act, txn_no}
use Rattle.sdd_rules.specs.history.declared.record.Rec.TheVariants.{Submit as Submission}

-- An entry. `Mark` is an event of the schedule or of a round; `Round` begins a round of these events; `Redeclares` puts
-- the next class list in force at a time. `Hand a b n m` hands message n of the link from a to b over;
-- `Submitted at n` gives transaction n to the module of a site; `Notes` says that an event found nothing to do; `Does`
-- is what a site does by itself.
pub data Entry : Type 0 where
  Mark : Event → Entry
  Round : List Event → Entry
  Redeclares : ℕ → Entry
  Hand : Site → Site → ℕ → Msg → Entry
  Submitted : Site → ℕ → Entry
  Notes : Entry
  Does : Site → Act → Entry

abbrev pub Log : Type 0
Log = List Entry

-- What is given: the catalogue with the classes of all lists; the lists in force one after the other; the rows with
-- which each data module begins; the transactions by their numbers, from 1; and the events.
pub record Input : Type 0 where
  pub catalogue : Catalogue
  pub eras : List Era
  pub rows : List (List (RelNo × Row))
  pub txns : List Txn
  pub events : List Event

abbrev pub with_event : Input → Event → Input
with_event g e = record g { events = g.events ++ e ∷ [] }

-- how many events there were: each mark, and each class list that is put in force
abbrev pub marks : Log → ℕ
marks [] = 0
marks (Mark e ∷ log) = suc (marks log)
marks (Redeclares t ∷ log) = suc (marks log)
marks (_ ∷ log) = marks log

-- the records of the log with the numbers of their events, oldest first
abbrev pub history : Log → History
history [] = []
history (Submitted at n ∷ log) = history log ++ (marks log, Submission (txn_no n)) ∷ []
history (Notes ∷ log) = history log ++ (marks log, Nothing) ∷ []
history (Does at act ∷ log) = history log ++ map (λ r. (marks log, r)) (records_of_act act)
history (_ ∷ log) = history log
