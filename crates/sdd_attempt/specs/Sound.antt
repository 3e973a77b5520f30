-- What holds of the queue of a class and of its attempt in every log of a site whose messages and transactions fit.
use Rattle.std.specs.Prelude.{ℕ, ◌<◌, ◌≤◌, ◌^◌, ◌≡◌, ◌≢◌, Bool, true, false, ◌&&◌, List, [], ◌∷◌, map, Option, Some, None, is_some}
use Rattle.std.specs.List.{AllByRecursion, list_any, list_all}
use Rattle.sdd_module.specs.All.{Bases, Catalogue, D, FitsTxn, Log, Msg, Read, Ready, Reduced, Reject, Rows, Setting, Site, Values, contains, dm_no, head_of, read_set, reads_at, submits, timestamp}
use Rattle.sdd_rules.specs.All.{AnswersRead, Attempt, AwaitsAt, Exchange, FitsRows, Phase, Queued, Serves, active, asks_rows, at_site, clock, fetches_use, handed, is_over, queue, reduces_use, sent}
use Rattle.sdd_rules.specs.attempt.Exchange.{Reading}
use Rattle.sdd_rules.specs.attempt.Fits.{is_read, is_verdict}

-- the queue

-- no two transactions of a queue have one number
abbrev pub Differ : List Queued → Type 0
Differ [] = Unit {0}
Differ (q ∷ queue) = AllByRecursion (λ r. r.number ≢ q.number) queue × Differ queue

-- A transaction in the queue of class c: it is one of those that were given to the site, it fits the catalogue, and the
-- class reads all that it reads.
pub record IsWaiting (cat : Catalogue) (c : ℕ) (given : List ℕ) (q : Queued) : Type 0 where
  pub is_given : contains given q.number ≡ true
  pub small : q.number < 2 ^ 32
  pub fitting : FitsTxn cat q.text
  pub covered : list_all (λ f. is_some (reads_at cat c f)) (read_set cat q.text) ≡ true

pub record IsQueue (cat : Catalogue) (c : ℕ) (given : List ℕ) (queue : List Queued) : Type 0 where
  pub differ : Differ queue
  pub waiting : AllByRecursion (IsWaiting cat c given) queue

-- the attempt

-- the modules of an attempt
abbrev pub modules_in : Exchange → List ℕ
modules_in x = map (λ m. m.0) x.modules

abbrev pub is_reading : Phase → Bool
is_reading Reading = true
is_reading _ = false

-- whether the READY of module d is awaited
abbrev pub awaits_ready : Exchange → ℕ → Bool
awaits_ready x d = is_reading x.phase && contains x.lacks d

abbrev pub IsModuleOf : List ℕ → Site → Type 0
IsModuleOf modules (D d) = contains modules d.0 ≡ true
IsModuleOf modules _ = ⊥

-- the READs with this timestamp and class went to these modules alone
abbrev pub ReadsWent : ℕ → ℕ → List ℕ → List (Site × Msg) → Type 0
ReadsWent ts c modules ms = AllByRecursion (λ m. is_read ts c m.1 ≡ true → IsModuleOf modules m.0) ms

-- Of the attempt of class c, where these messages were sent by the site and handed to it: what it is still to send asks
-- for its rows; its READs went to its modules; and a module whose READY isn't awaited any more has answered.
pub record IsAsking (c : ℕ) (sent handed : List (Site × Msg)) (a : Attempt) : Type 0 where
  pub asks : AllByRecursion (λ m. asks_rows a.ts c m.1 ≡ true) a.exchange.to_send
  pub reads : ReadsWent a.ts c (modules_in a.exchange) sent
  pub answered : (d : ℕ) → contains (modules_in a.exchange) d ≡ true → awaits_ready a.exchange d ≡ false → list_any (at_site (D (dm_no d)) (is_verdict a.ts c)) handed ≡ true

abbrev pub IsAskingAt : ℕ → List (Site × Msg) → List (Site × Msg) → Option Attempt → Type 0
IsAskingAt c sent handed None = Unit {0}
IsAskingAt c sent handed (Some a) = IsAsking c sent handed a

-- an active attempt is of the first transaction of the queue
abbrev pub IsOfHead : List Queued → Option Attempt → Type 0
IsOfHead queue None = Unit {0}
IsOfHead queue (Some a) = head_of queue ≡ Some (record { number = a.txn; text = a.text; tries = a.attempt })

-- the line of a class, its queue and its attempt, in a log
pub record IsLineOf (s : Setting) (c : ℕ) (log : Log) : Type 0 where
  pub in_queue : IsQueue s.catalogue c (submits log) (queue s c log)
  pub of_head : IsOfHead (queue s c log) (active s c log)
  pub asking : IsAskingAt c (sent log) (handed log) (active s c log)

-- times

-- a READ is of an attempt with this timestamp or an earlier one
abbrev pub IsUpTo : ℕ → Msg → Type 0
IsUpTo t (Read ts class txn attempt conds uses) = ts.0 ≤ t
IsUpTo t _ = Unit {0}

abbrev pub AllUpTo : ℕ → List (Site × Msg) → Type 0
AllUpTo t ms = AllByRecursion (λ m. IsUpTo t m.1) ms

-- no READ of the site has a timestamp that its clock is still to give
abbrev pub AreStamped : Setting → Log → Type 0
AreStamped s log = AllUpTo (timestamp (clock s.site log)) (sent log)

-- the answers that a data module gives to an attempt

-- what a handed message has to meet as an answer to an attempt
abbrev pub FitsAnswer : Setting → Bases → Log → Site → Msg → Type 0
FitsAnswer s bases log from (Ready ts class counts) = AnswersRead log from ts.0 class.0
FitsAnswer s bases log from (Reject ts class by write) = AnswersRead log from ts.0 class.0
FitsAnswer s bases log from (Values ts class u values) = AwaitsAt (fetches_use u) (active s class.0 log) from ts.0
FitsAnswer s bases log from (Reduced ts class u n) = AwaitsAt (reduces_use u) (active s class.0 log) from ts.0
FitsAnswer s bases log from (Rows ts class rows) = FitsRows s bases (active s class.0 log) from ts.0 rows
FitsAnswer s bases log from _ = Unit {0}

-- an attempt that may commit has the rows that serve its database
abbrev pub IsServed : Catalogue → Bases → Option Attempt → Type 0
IsServed cat bases None = Unit {0}
IsServed cat bases (Some a) = is_over a.exchange.phase ≡ true → Serves cat a.text a.exchange.found (bases a.ts)
