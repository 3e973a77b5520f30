-- The log of one site, newest first: what was handed to it, what was given to it, and what it did.
use Rattle.std.specs.Prelude.{ℕ, suc, ◌≡◌, ◌==◌, Bool, false, List, [], ◌∷◌, Option, Some, None}
use Rattle.std.specs.List.{flat_map}
use Rattle.sdd_lang.specs.All.{Catalogue, Database, RelNo, Row, Site}
use Rattle.sdd_protocol.specs.declared.entry.Entry as line
use Rattle.sdd_lang.specs.declared.transaction.Txn.{Txn}
use Rattle.sdd_history.specs.declared.record.Rec.{Rec}
use Rattle.sdd_wire.specs.declared.msg.Msg.{Msg}

-- the classes in force: a catalogue with its protocol table
pub record Era : Type 0 where
  pub catalogue : Catalogue
  pub table : List line.Entry

-- What a site does by itself. `Records c rec sends`: of class c it makes a record, and sends these messages with it.
-- `Sends to msg hand`: it sends a message, in answer to its hand with this number where there is one.
pub data Act : Type 0 where
  Records : ℕ → Rec → List (Site × Msg) → Act
  Sends : Site → Msg → Option ℕ → Act

-- What happens at a site: a message from another site is handed to it; its clock goes on by so many ticks; the
-- transaction with this number is given to it; classes are put in force at a time; or it acts.
pub data Entry : Type 0 where
  Handed : Site → Msg → Entry
  Ticked : ℕ → Entry
  Submits : ℕ → Txn → Entry
  Redeclared : Era → ℕ → Entry
  Did : Act → Entry

abbrev pub Log : Type 0
Log = List Entry

-- of what a module is made: the catalogue with the classes of all lists, its site, and the rows with which it begins
pub record Setting : Type 0 where
  pub catalogue : Catalogue
  pub site : Site
  pub rows : List (RelNo × Row)

-- the databases that attempts read, by the attempts' timestamps
abbrev pub Bases : Type 0
Bases = ℕ → Database

-- the classes that were put in force last; before that all, without a table
abbrev pub current_era : Setting → Log → Era
current_era s [] = record { catalogue = s.catalogue; table = [] }
current_era s (Redeclared era t ∷ log) = era
current_era s (_ ∷ log) = current_era s log

-- what acts send and record

abbrev pub sends_of_act : Act → List (Site × Msg)
sends_of_act (Records c r sends) = sends
sends_of_act (Sends to m hand) = (to, m) ∷ []

abbrev pub records_of_act : Act → List Rec
records_of_act (Records c r sends) = r ∷ []
records_of_act (Sends to m hand) = []

abbrev pub records_of : List Act → List Rec
records_of acts = flat_map records_of_act acts

abbrev pub sends_of : List Act → List (Site × Msg)
sends_of acts = flat_map sends_of_act acts

-- how many messages were handed to the site: hands are numbered from 1
abbrev pub hands : Log → ℕ
hands [] = 0
hands (Handed from m ∷ log) = suc (hands log)
hands (_ ∷ log) = hands log

-- the numbers of the transactions that were given to the site
abbrev pub submits : Log → List ℕ
submits [] = []
submits (Submits n txn ∷ log) = n ∷ submits log
submits (_ ∷ log) = submits log

-- whether a send answers hand n
abbrev pub answers_hand : Option ℕ → ℕ → Bool
answers_hand None n = false
answers_hand (Some k) n = k == n

-- what holds of each entry and the log before it
abbrev pub Each : (Log → Entry → Type 0) → Log → Type 0
Each P [] = Unit {0}
Each P (e ∷ log) = P log e × Each P log

-- the log once these acts are done
abbrev pub log_after : List Act → Log → Log
log_after [] log = log
log_after (a ∷ acts) log = log_after acts (Did a ∷ log)

-- each of these acts was due next, and then nothing is
abbrev pub AreDue : (Log → Option Act) → Log → List Act → Type 0
AreDue next log [] = next log ≡ None
AreDue next log (a ∷ acts) = (next log ≡ Some a) × AreDue next (Did a ∷ log) acts

-- A call made these records and sends: those of the acts that are due, one after the other, until none is. What holds
-- of the log after them is `After`.
pub record Does (next : Log → Option Act) (log : Log) (records : List Rec) (sends : List (Site × Msg)) (After : Log → Type 0) : Type 0 where
  pub acts : List Act
  pub due : AreDue next log acts
  pub records_are : records ≡ records_of acts
  pub sends_are : sends ≡ sends_of acts
  pub after : After (log_after acts log)
