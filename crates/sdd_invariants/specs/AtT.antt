-- What a transaction module's hold means: how its table treats HOLDs, and what then holds of every log of it.
use Rattle.std.specs.Prelude.{ℕ, ◌++◌, ◌<◌, ◌∷◌, ◌≡◌, ◌≤◌, List, None, Option, Some, [], slice_get}
use Rattle.sdd_log.specs.All.{Act, Bases, Did, Entry, Handed, Held, Hold, Msg, Records, Redeclared, Release, Sends, Setting, Site, Start, Submits, Ticked, Ts, U, active, holds, runs}
use Rattle.sdd_log.specs.site_module.SiteLog.{Log}
use Rattle.sdd_log.specs.tm.Due.{IsDue}
use Rattle.sdd_log.specs.tm.Views.{view_of}
use Rattle.sdd_invariants.specs.Turns.{NoneHold}
use Rattle.sdd_invariants.specs.Traffic.{to_site}

-- the entries of a T's log, by its own table
abbrev pub IsFairT : Setting → Log → Entry → Type 0
IsFairT s log (Did act) = (bases : Bases) × IsDue s.catalogue bases (view_of s log) act
IsFairT s log (Handed from m) = Unit {0}
IsFairT s log (Ticked n) = Unit {0}
IsFairT s log (Submits n txn) = Unit {0}
IsFairT s log (Redeclared era t) = Unit {0}

abbrev pub AllIdle : Setting → Log → Type 0
AllIdle s log = (k c : ℕ) → slice_get (runs s) k ≡ Some c → active s c log ≡ None

-- what the table says of a Start, of a HELD, and that a T sends no HOLD and no RELEASE
abbrev pub SendRule : Setting → Log → Site → Msg → Type 0
SendRule s log to (Held t) = ((holds log).helds < (holds log).holds) × AllIdle s log × (to ≡ U)
SendRule s log to Hold = ⊥
SendRule s log to (Release ts) = ⊥
SendRule s log to _ = Unit {0}

abbrev pub QuietSends : List (Site × Msg) → Type 0
QuietSends sends = ((b : Site) → NoneHold (to_site b sends)) × (to_site U sends ≡ [])

abbrev pub HoldRule : Setting → Log → Act → Type 0
HoldRule s log (Records k (Start txn attempt c ts p2 us) sends) = ((holds log).holds ≤ (holds log).releases) × QuietSends sends
HoldRule s log (Records k _ sends) = QuietSends sends
HoldRule s log (Sends to m hand) = SendRule s log to m

-- no more HELDs are sent than HOLDs were handed, and between a HELD and its RELEASE every class is idle
pub record IsStill (s : Setting) (log : Log) : Type 0 where
  pub owed : (holds log).helds ≤ (holds log).holds
  pub idle : (holds log).releases < (holds log).helds → AllIdle s log

-- the HELD that was sent as number n + 1, and the log before it
pub record IsHeldAt (log : Log) (n : ℕ) : Type 0 where
  pub later : Log
  pub before : Log
  pub to : Site
  pub time : Ts
  pub hand : Option ℕ
  pub is : log ≡ later ++ Did (Sends to (Held time) hand) ∷ before
  pub count : (holds before).helds ≡ n
