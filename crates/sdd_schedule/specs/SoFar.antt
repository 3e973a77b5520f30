-- How far a schedule is carried out, and followed.
use Rattle.std.specs.Prelude.{ℕ, suc, ◌≤◌, ◌≡◌, false, List, [], ◌∷◌, length}
use Rattle.sdd_world.specs.Represents.{IsSettled, Represents, Rounding, Settling}
use Rattle.sdd_world.specs.declared.world.World.{World}
use Rattle.sdd_world.specs.needs.All.{Event, Input, Log, all_links, calls_of, left, marks, quiet}
use Rattle.sdd_schedule.specs.Places.{rounds}

-- Of an observer it is said, by what is given and a log, what it means that it has followed the run up to there.

-- All that was given is carried out and followed; the next event of the schedule has this place.
pub record IsFollowed (w : World) (follows : Input → Log → Type 0) (g : Input) (log : Log) (place : ℕ) : Type 0 where
  pub represents : Represents w g log
  pub followed : follows g log
  pub place_is : place ≡ suc (length g.events)

-- Between the rounds of a settle or a redeclare, of which so many are over. Where a further one comes, it is of the last
-- event that was given, and of no other one.
pub record BetweenTwo (w : World) (follows : Input → Log → Type 0) (g : Input) (log : Log) (e : Event) (place number : ℕ) : Type 0 where
  pub settling : Settling w g log e
  pub followed : follows g log
  pub place_is : place ≡ length g.events
  pub few : number ≤ marks log
  pub alone : quiet (all_links g) (calls_of log) ≡ false → left g.events log ≡ (e ∷ [], [])
  pub rounds_are : quiet (all_links g) (calls_of log) ≡ false → rounds g.events log ≡ number

-- within the round after so many others, of which these events are left
pub record WithinRound (w : World) (follows : Input → Log → Type 0) (g : Input) (log : Log) (e : Event) (events : List Event) (place number : ℕ)
    : Type 0 where
  pub rounding : Rounding w g log e events
  pub followed : follows g log
  pub place_is : place ≡ length g.events
  pub few : number ≤ marks log
  pub alone : (left g.events log).0 ≡ e ∷ []
  pub rounds_are : rounds g.events log ≡ suc number

-- the rounds are over
pub record AfterRounds (w : World) (follows : Input → Log → Type 0) (g : Input) (e : Event) (place : ℕ) : Type 0 where
  pub settled : IsSettled w g e
  pub followed : follows g settled.more
  pub place_is : place ≡ length g.events
