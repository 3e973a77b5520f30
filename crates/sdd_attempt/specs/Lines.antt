-- The line of a class: its queue and its active attempt, at a site that makes its attempts.
use Rattle.std.specs.Prelude.{ℕ, ◌≡◌, ◌≤◌, ◌==◌, Bool, true, false, List, [], ◌∷◌, length, map, option_map, Option, Some, None}
use Rattle.std.specs.List.{All, AllByRecursion}
use Rattle.sdd_module.specs.All.{Act, Bases, Catalogue, FitsTxn, Msg, Site, Ticking, Values, contains, head_of}
use Rattle.sdd_module.specs.protocol.declared.entry.Entry as line
use Rattle.sdd_rules.specs.All.{Attempt, AwaitsAt, Queued, Serves, active_after, asks_rows, commit_act, fetches_use, queue_after, send_due, start_act, ticked_by}
use Rattle.sdd_running.specs.exchange.Phases.{awaited_in}
use Rattle.sdd_running.specs.exchange.Room.{HasRoom}
use Rattle.sdd_running.specs.exchange.declared.answer.Answer.{Answer}
use Rattle.sdd_running.specs.declared.step.LineStep.{LineStep}
use Rattle.sdd_rules.specs.attempt.Line.{Line}
use Rattle.sdd_running.specs.Running.{step_by, Running}

abbrev pub no_line : Catalogue → ℕ → Line
no_line cat c = record { catalogue = cat; class = c; queue = []; active = None }

-- the line once an act is done, where there is one
abbrev pub line_after : Act → Line → Line
line_after act l = record l { queue = queue_after l.class act l.queue; active = active_after l.class act l.queue l.active }

abbrev pub line_done : Option Act → Line → Line
line_done None l = l
line_done (Some act) l = line_after act l

-- the clock then
abbrev pub clock_done : Option Act → Ticking → Ticking
clock_done None clock = clock
clock_done (Some act) clock = ticked_by act clock

abbrev pub line_step : Option Attempt → Option LineStep
line_step None = None
line_step (Some a) = step_by a.exchange.to_send a.exchange.phase

-- how often the first transaction in the queue started
abbrev pub tries_of_first : List Queued → ℕ
tries_of_first [] = 0
tries_of_first (q ∷ queue) = q.tries

-- what it awaits, and from which modules

abbrev pub awaited_by : Option Attempt → Option Answer
awaited_by None = None
awaited_by (Some a) = awaited_in a.exchange.phase

abbrev pub lacked_by : Option Attempt → List ℕ
lacked_by None = []
lacked_by (Some a) = a.exchange.lacks

-- the acts

abbrev pub send_next : Option Attempt → Option Act
send_next None = None
send_next (Some a) = send_due a.exchange

abbrev pub commit_next : Bases → Line → Option Act
commit_next bases l = option_map (commit_act l.catalogue bases l.class) l.active

abbrev pub start_next : List line.Entry → Ticking → Line → Option Act
start_next table clock l = option_map (start_act l.catalogue table l.class clock) (head_of l.queue)

-- the first transaction in the queue has never started
abbrev pub head_is_untried : List Queued → Bool
head_is_untried [] = false
head_is_untried (q ∷ queue) = q.tries == 0

-- what they ask for

-- values come only where they are awaited
abbrev pub IsAwaited : ℕ → Site → Msg → Option Attempt → Type 0
IsAwaited c from (Values t k u values) a = k.0 ≡ c → AwaitsAt (fetches_use u) a from t.0
IsAwaited c from _ a = Unit {0}

-- each try was a Start, which ticks
abbrev pub AreTried : ℕ → List Queued → Type 0
AreTried ticks queue = All (λ q. q.tries ≤ ticks) queue

-- the rows that came for the active attempt serve its database
abbrev pub ServesAt : Catalogue → Bases → Option Attempt → Type 0
ServesAt cat bases None = Unit {0}
ServesAt cat bases (Some a) = Serves cat a.text a.exchange.found (bases a.ts)

-- How a site keeps a line: the active attempt is that of the first transaction in the queue.

abbrev pub attempt_of : Queued → Running → Attempt
attempt_of q r = record { txn = q.number; attempt = q.tries; ts = r.ts; text = q.text; exchange = r.exchange }

abbrev pub active_of : List Queued → Option Running → Option Attempt
active_of [] r = None
active_of (q ∷ queue) r = option_map (attempt_of q) r

abbrev pub line_of : Catalogue → ℕ → List Queued → Option Running → Line
line_of cat c queue r = record { catalogue = cat; class = c; queue = queue; active = active_of queue r }

-- each number once
abbrev pub AreDistinct : List ℕ → Type 0
AreDistinct [] = Unit {0}
AreDistinct (n ∷ ns) = (contains ns n ≡ false) × AreDistinct ns

-- the active attempt started, its numbers have room, and all that it is still to send asks rows for it
pub record IsRunning (c : ℕ) (q : Queued) (r : Running) : Type 0 where
  pub started : 1 ≤ q.tries
  pub room : HasRoom r.exchange
  pub asks : AllByRecursion (λ m. asks_rows r.ts c m.1 ≡ true) r.exchange.to_send

abbrev pub RunsFirst : ℕ → List Queued → Option Running → Type 0
RunsFirst c queue None = Unit {0}
RunsFirst c [] (Some r) = ⊥
RunsFirst c (q ∷ queue) (Some r) = IsRunning c q r

pub record IsLine (cat : Catalogue) (c : ℕ) (queue : List Queued) (running : Option Running) : Type 0 where
  pub class : c ≤ length cat.classes
  pub distinct : AreDistinct (map (λ q. q.number) queue)
  pub fits : All (λ q. FitsTxn cat q.text) queue
  pub runs : RunsFirst c queue running
