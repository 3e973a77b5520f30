-- A height of the log: no clock stands above it, and no time that a message carries is above it. Ticks and Starts alone
-- raise it, for what pushes a clock is a time that lies below it already.
use Rattle.std.specs.Prelude.{ℕ, ◌*◌, ◌+◌, ◌∷◌, ◌≤◌, List, [], map}
use Rattle.sdd_invariants.specs.All.{Act, AllLe, Ask, Does, Handed, Held, Input, Log, Mark, Msg, Null, Read, Records, Reject, Release, Site, Start, Write, clock, local_of, puts_to}
use Rattle.sdd_invariants.specs.site_module.SiteLog as site
use Rattle.sdd_needs.specs.Inputs.{ticks_of}

-- the times that a message carries: its own, those of a READ's conditions, and that of the write which rejects one
abbrev pub times_of : Msg → List ℕ
times_of (Read ts class txn attempt conds uses) = ts.0 ∷ map (λ d. d.time.0) conds
times_of (Write ts class txn changes) = ts.0 ∷ []
times_of (Null class time) = time.0 ∷ []
times_of (Ask class time) = time.0 ∷ []
times_of (Reject ts class by write) = write.0 ∷ []
times_of (Held time) = time.0 ∷ []
times_of (Release ts) = ts.0 ∷ []
times_of _ = []

-- the last time of a clock that stands so high
abbrev pub top : ℕ → ℕ
top h = h * 64 + 63

abbrev pub starts_by : Act → ℕ
starts_by (Records c (Start txn attempt class ts p2 uses) sends) = 1
starts_by _ = 0

abbrev pub height : Log → ℕ
height [] = 0
height (Mark e ∷ log) = ticks_of e + height log
height (Does at act ∷ log) = starts_by act + height log
height (_ ∷ log) = height log

-- messages whose times lie below a height

abbrev pub IsLow : ℕ → Msg → Type 0
IsLow h m = AllLe (top h) (times_of m)

abbrev pub AllLow : ℕ → List Msg → Type 0
AllLow h [] = Unit {0}
AllLow h (m ∷ ms) = IsLow h m × AllLow h ms

-- of a site: all that was handed to it
abbrev pub HandsLow : ℕ → site.Log → Type 0
HandsLow h [] = Unit {0}
HandsLow h (Handed from m ∷ log) = IsLow h m × HandsLow h log
HandsLow h (_ ∷ log) = HandsLow h log

-- a height of all clocks, of all that is on the links and of all that was handed over
pub record IsUnder (g : Input) (h : ℕ) (log : Log) : Type 0 where
  pub clocks : (at : Site) → (clock at (local_of g at log)).ticks ≤ h
  pub puts : (a b : Site) → AllLow h (puts_to b (local_of g a log))
  pub hands : (at : Site) → HandsLow h (local_of g at log)
