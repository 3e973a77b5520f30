-- An attempt that is under way, as a site keeps it.
use Rattle.sdd_exchange.specs.Room.{AreAwaited}
use Rattle.sdd_running.specs.declared.step.LineStep.TheVariants.{Commits, Sends}
use Rattle.sdd_module.specs.All.{D, Msg, Site}
use Rattle.sdd_rules.specs.All.{Exchange, Phase, after_hand, rejects}
use Rattle.sdd_rules.specs.attempt.Exchange.{Over}
use Rattle.sdd_running.specs.declared.step.LineStep.{LineStep}
use Rattle.std.specs.Prelude.{List, None, Option, Some, [], if◌then◌else◌, ℕ, ◌∷◌}

-- what an active attempt does next by itself: the next message of its exchange, or once that is over its Commit
abbrev pub step_by : List (ℕ × Msg) → Phase → Option LineStep
step_by [] Over = Some Commits
step_by [] _ = None
step_by (m ∷ ms) phase = Some Sends

pub record Running : Type 0 where
  pub ts : ℕ
  pub exchange : Exchange

-- a message ends it, or goes to its exchange
abbrev pub handed_by : ℕ → Site → Msg → Running → Option Running
handed_by c (D d) m r = if rejects m r.ts c then None else Some (record r { exchange = after_hand r.ts c d.0 m r.exchange })
handed_by c _ m r = Some r

abbrev pub AreAwaitedFrom : ℕ → Site → Msg → Running → Type 0
AreAwaitedFrom c (D d) m r = AreAwaited r.ts c d.0 m r.exchange
AreAwaitedFrom c _ m r = Unit {0}
