-- What an answer of a data module has to meet when it is handed to a site that makes attempts: it answers a message
-- that the site sent to the one from which it comes, and is the first answer to it.
use Rattle.std.specs.Prelude.{ℕ, ◌<◌, ◌^◌, ◌≡◌, ◌==◌, ◌&&◌, Bool, true, false, not, List, [], ◌∷◌, ◌++◌, map, filter, Option, Some, None}
use Rattle.std.specs.List.{list_any, flat_map}
use Rattle.sdd_module.specs.All.{Bases, Did, Handed, IsDatabase, Log, Msg, Read, Ready, Reject, Row, Setting, Site, contains, head_of, number_of, same_site, sends_of_act}
use Rattle.sdd_shipped.specs.Serves.{Serves}
use Rattle.sdd_rules.specs.attempt.Clocks.{clock}
use Rattle.sdd_rules.specs.attempt.Exchange.{Phase, Fetching, Reducing, Shipping, without}
use Rattle.sdd_rules.specs.attempt.Attempts.{Attempt}

-- what the site sent, and what was handed to it, newest first

abbrev pub sent : Log → List (Site × Msg)
sent [] = []
sent (Did act ∷ log) = sends_of_act act ++ sent log
sent (_ ∷ log) = sent log

abbrev pub handed : Log → List (Site × Msg)
handed [] = []
handed (Handed from m ∷ log) = (from, m) ∷ handed log
handed (_ ∷ log) = handed log

-- whether a message goes to the site, or comes from it, and is of a kind
abbrev pub at_site : Site → (Msg → Bool) → Site × Msg → Bool
at_site from is_kind m = same_site m.0 from && is_kind m.1

-- the READ of the attempt of a class with this timestamp
abbrev pub is_read : ℕ → ℕ → Msg → Bool
is_read ts class (Read t k txn attempt conds uses) = (t.0 == ts) && (k.0 == class)
is_read ts class _ = false

-- its READY or REJECT
abbrev pub is_verdict : ℕ → ℕ → Msg → Bool
is_verdict ts class (Ready t k counts) = (t.0 == ts) && (k.0 == class)
is_verdict ts class (Reject t k by write) = (t.0 == ts) && (k.0 == class)
is_verdict ts class _ = false

-- the numbers of a READ's uses
abbrev pub numbers_of : Msg → List ℕ
numbers_of (Read ts class txn attempt conds uses) = map (λ u. u.number) uses
numbers_of _ = []

abbrev pub uses_read : Option (Site × Msg) → List ℕ
uses_read None = []
uses_read (Some m) = numbers_of m.1

-- a READY or REJECT answers a READ that has neither yet
pub record AnswersRead (log : Log) (from : Site) (ts class : ℕ) : Type 0 where
  pub asked : list_any (at_site from (is_read ts class)) (sent log) ≡ true
  pub first : list_any (at_site from (is_verdict ts class)) (handed log) ≡ false

-- the numbers of the uses of that READ
abbrev pub uses_asked : Log → Site → ℕ → ℕ → List ℕ
uses_asked log from ts class = uses_read (head_of (filter (at_site from (is_read ts class)) (sent log)))

-- a READY has one count for each use of its READ
pub record FitsReady (log : Log) (from : Site) (ts class : ℕ) (counts : List (ℕ × ℕ)) : Type 0 where
  pub answers : AnswersRead log from ts class
  pub counts_are : map (λ n. n.0) counts ≡ uses_asked log from ts class

-- whether a phase awaits the values of use u, the count of use u, or rows

abbrev pub fetches_use : ℕ → Phase → Bool
fetches_use u (Fetching m) = m.source.part == u
fetches_use u _ = false

abbrev pub reduces_use : ℕ → Phase → Bool
reduces_use u (Reducing m) = m.target.part == u
reduces_use u _ = false

abbrev pub is_shipping : Phase → Bool
is_shipping Shipping = true
is_shipping _ = false

-- the active attempt has this timestamp, is in such a phase, and has no answer of the site yet
pub record Awaits (is_phase : Phase → Bool) (a : Attempt) (from : Site) (ts : ℕ) : Type 0 where
  pub same : a.ts ≡ ts
  pub phase : is_phase a.exchange.phase ≡ true
  pub lacks : contains a.exchange.lacks (number_of from) ≡ true

abbrev pub AwaitsAt : (Phase → Bool) → Option Attempt → Site → ℕ → Type 0
AwaitsAt is_phase None from ts = ⊥
AwaitsAt is_phase (Some a) from ts = Awaits is_phase a from ts

-- with the last ROWS the rows serve the attempt's database: its effect can be computed from them
abbrev pub ServesIfLast : Setting → Bases → Attempt → List (ℕ × Row) → List ℕ → Type 0
ServesIfLast s bases a rows [] = Serves s.catalogue a.text (a.exchange.found ++ rows) (bases a.ts)
ServesIfLast s bases a rows (d ∷ dms) = Unit {0}

-- the uses that the attempt reads at module d
abbrev pub uses_at : List (ℕ × List ℕ) → ℕ → List ℕ
uses_at modules d = flat_map (λ m. filter (λ u. m.0 == d) m.1) modules

-- a ROWS has rows of uses that are read there alone
pub record FitsRowsOf (s : Setting) (bases : Bases) (a : Attempt) (from : Site) (ts : ℕ) (rows : List (ℕ × Row)) : Type 0 where
  pub awaited : Awaits is_shipping a from ts
  pub named : list_any (λ r. not (contains (uses_at a.exchange.modules (number_of from)) r.0)) rows ≡ false
  pub served : ServesIfLast s bases a rows (without a.exchange.lacks (number_of from))

abbrev pub FitsRows : Setting → Bases → Option Attempt → Site → ℕ → List (ℕ × Row) → Type 0
FitsRows s bases None from ts rows = ⊥
FitsRows s bases (Some a) from ts rows = FitsRowsOf s bases a from ts rows

-- At each message, submission and tick: the clock stays far below what a timestamp holds, and each database of which a
-- commit may be due is a database of the catalogue. An attempt without modules commits in any call.
pub record FitsSite (s : Setting) (bases : Bases) (log : Log) : Type 0 where
  pub time : (clock s.site log).ticks < 2 ^ 56
  pub databases : (ts : ℕ) → IsDatabase s.catalogue (bases ts)
