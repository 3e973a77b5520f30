-- Which logs a transaction module represents, and what holds between the acts of a call.
use Rattle.std.specs.Prelude.{ℕ, suc, ◌+◌, ◌<◌, ◌≤◌, ◌^◌, ◌≡◌, ◌≢◌, IsTrue, List, [], ◌∷◌, slice_get, Some, None}
use Rattle.sdd_attempt.specs.All.{AreStamped, IsLineOf, IsServed}
use Rattle.sdd_asks.specs.rules.All.{Bases, IsDatabase, IsWhole, Kept, Log, Setting, active, current_era, starts_left}
use Rattle.sdd_attempt.specs.catalog.Rules as catalogues
use Rattle.sdd_eras.specs.EraOf.{IsEraOf}
use Rattle.sdd_asks.specs.rules.tm.Views.{HoldCounts, holds, runs}
use Rattle.sdd_asks.specs.rules.tm.State.{ClassState, State, state_of}
use Rattle.sdd_tm.specs.Steps.{own_step, start_step, class_step, held_of}
use Rattle.sdd_asks.specs.rules.tm.OpenAsks.{AreOpen}

-- every log of the site

-- a HOLD is answered by at most one HELD, and then released, before the next one comes
pub record InTurn (h : HoldCounts) : Type 0 where
  pub released : h.releases ≤ h.helds
  pub answered : h.helds ≤ h.holds
  pub one : h.holds ≤ suc h.releases

pub record IsSoundLog (s : Setting) (log : Log) : Type 0 where
  pub lines : (place c : ℕ) → slice_get (runs s) place ≡ Some c → IsLineOf s c log
  pub stamped : AreStamped s log
  pub unanswered : AreOpen log
  pub turns : InTurn (holds log)

-- the setting: its catalogue is one of valid parts, and that in force is the one of an era of it
pub record IsSettingOf (s : Setting) (log : Log) : Type 0 where
  pub valid : catalogues.IsSoundCatalogue s.catalogue
  pub whole : IsWhole s.catalogue
  pub era : IsEraOf s.catalogue (current_era s log).catalogue

-- what the module keeps follows from the log
pub record IsKept (s : Setting) (log : Log) (state : State) : Type 0 where
  pub setting : IsSettingOf s log
  pub sound : IsSoundLog s log
  pub state_is : state_of s log ≡ state

-- between calls

-- nothing is due of a class
abbrev pub AreSettled : State → Type 0
AreSettled state = (place : ℕ) (k : ClassState) → slice_get state.classes place ≡ Some k → class_step state.on_hold k ≡ None

-- the module represents the log: it keeps what follows from the log, and nothing is due
pub record Represents (k : Kept State) (s : Setting) (log : Log) : Type 0 where
  pub live : IsTrue k.live
  pub setting : IsSettingOf s log
  pub sound : IsSoundLog s log
  pub state_is : state_of s log ≡ k.value
  pub settled : AreSettled k.value
  pub held_sent : held_of k.value ≡ None

-- The module keeps what follows from the log, and nothing of its own is due but to begin transactions that wait: so it
-- stands while it is down, when transactions are given to it and nothing is handed to it.
pub record Queues (k : Kept State) (s : Setting) (log : Log) : Type 0 where
  pub live : IsTrue k.live
  pub setting : IsSettingOf s log
  pub sound : IsSoundLog s log
  pub state_is : state_of s log ≡ k.value
  pub only_starts : (place : ℕ) (c : ClassState) → slice_get k.value.classes place ≡ Some c → own_step c ≡ None
  pub held_sent : held_of k.value ≡ None

-- within a call

-- how many transactions may start before the next message comes
abbrev pub all_starts : List ClassState → ℕ
all_starts [] = 0
all_starts (k ∷ classes) = starts_left k.line.active k.line.queue + all_starts classes

-- The module is within a call, and keeps what follows from the log: each attempt that may commit has the rows that serve
-- its database, and the clock has room for all that may start.
pub record IsAmid (s : Setting) (bases : Bases) (state : State) (log : Log) : Type 0 where
  pub setting : IsSettingOf s log
  pub sound : IsSoundLog s log
  pub state_is : state_of s log ≡ state
  pub databases : (ts : ℕ) → IsDatabase s.catalogue (bases ts)
  pub served : (place c : ℕ) → slice_get (runs s) place ≡ Some c → IsServed s.catalogue bases (active s c log)
  pub room : state.clock.ticks + all_starts state.classes + 1 < 2 ^ 57

-- The classes are gone through from one place on, up to another. No class but the one at the place has a step of its own,
-- those before it can't start, and neither can those from the end on.
pub record IsCalm (place end : ℕ) (state : State) : Type 0 where
  pub own : (j : ℕ) (k : ClassState) → slice_get state.classes j ≡ Some k → (j ≡ place → end ≤ place) → own_step k ≡ None
  pub before : (j : ℕ) (k : ClassState) → slice_get state.classes j ≡ Some k → j < place → start_step state.on_hold k ≡ None
  pub behind : (j : ℕ) (k : ClassState) → slice_get state.classes j ≡ Some k → end ≤ j → start_step state.on_hold k ≡ None

-- no two classes have one number
abbrev pub AreApart : List ClassState → Type 0
AreApart classes = (i j : ℕ) (x y : ClassState) → slice_get classes i ≡ Some x → slice_get classes j ≡ Some y
    → i ≢ j → x.line.class ≢ y.line.class
