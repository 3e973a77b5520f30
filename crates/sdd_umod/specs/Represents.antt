-- Which logs the module for undeclared transactions represents, and what holds between the acts of a call.
use Rattle.std.specs.Prelude.{ℕ, suc, ◌+◌, ◌<◌, ◌≤◌, ◌^◌, ◌≡◌, IsTrue, Option, Some, None}
use Rattle.sdd_attempt.specs.All.{AreStamped, IsLineOf, IsServed}
use Rattle.sdd_counts.specs.rules.All.{Attempt, Bases, IsDatabase, IsWhole, Kept, Log, Setting, active, clock, starts_left}
use Rattle.sdd_attempt.specs.catalog.Rules as catalogues
use Rattle.sdd_counts.specs.rules.umod.Views.{TmCounts, counts, last_served}
use Rattle.sdd_counts.specs.rules.umod.State.{State, state_of}
use Rattle.sdd_umod.specs.Steps.{step_of}

-- every log of the site

-- A T gets at most one RELEASE for a Commit, a HOLD only once the one before was released, and answers each at most once.
pub record InTurn (commits : ℕ) (k : TmCounts) : Type 0 where
  pub committed : k.releases ≤ commits
  pub released : k.holds ≤ suc k.releases
  pub answered : k.helds ≤ k.holds

-- how many attempts are under way
abbrev pub running : Option Attempt → ℕ
running None = 0
running (Some a) = 1

-- each Commit had a Start, which ticked
pub record AreStarted (s : Setting) (log : Log) : Type 0 where
  pub few : (last_served s log).commits + running (active s 0 log) ≤ (clock s.site log).ticks

pub record IsSoundLog (s : Setting) (log : Log) : Type 0 where
  pub line : IsLineOf s 0 log
  pub stamped : AreStamped s log
  pub turns : (t : ℕ) → InTurn (last_served s log).commits (counts t log)
  pub started : AreStarted s log

-- the setting: its catalogue is one of valid parts
pub record IsSetting (s : Setting) : Type 0 where
  pub valid : catalogues.IsSoundCatalogue s.catalogue
  pub whole : IsWhole s.catalogue

-- what the module keeps follows from the log
pub record IsKept (s : Setting) (log : Log) (state : State) : Type 0 where
  pub setting : IsSetting s
  pub sound : IsSoundLog s log
  pub state_is : state_of s log ≡ state

-- between calls: the module represents the log, it keeps what follows from the log, and nothing is due
pub record Represents (k : Kept State) (s : Setting) (log : Log) : Type 0 where
  pub live : IsTrue k.live
  pub setting : IsSetting s
  pub sound : IsSoundLog s log
  pub state_is : state_of s log ≡ k.value
  pub settled : step_of k.value ≡ None

-- The module is within a call, and keeps what follows from the log: an attempt that may commit has the rows that serve
-- its database, and the clock has room for all that may start.
pub record IsAmid (s : Setting) (bases : Bases) (state : State) (log : Log) : Type 0 where
  pub setting : IsSetting s
  pub sound : IsSoundLog s log
  pub state_is : state_of s log ≡ state
  pub databases : (ts : ℕ) → IsDatabase s.catalogue (bases ts)
  pub served : IsServed s.catalogue bases (active s 0 log)
  pub room : state.clock.ticks + starts_left state.line.active state.line.queue + 1 < 2 ^ 57
