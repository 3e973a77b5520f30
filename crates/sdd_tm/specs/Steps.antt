-- What the classes of a transaction module do next by themselves, and what becomes of them.
use Rattle.std.specs.Prelude.{ℕ, Bool, false, not, ◌&&◌, if◌then◌else◌, List, is_none, slice_set, Option, Some, None, option_map}
use Rattle.std.specs.List.{list_any, list_all, find}
use Rattle.sdd_asks.specs.rules.All.{Act, Attempt, Bases, Held, Line, Null, Sends, Ticking, U, bound_of, class_no, is_empty, or_else, time_at}
use Rattle.sdd_attempt.specs.All.{clock_done, commit_next, line_done, line_step, send_next, start_next}
use Rattle.sdd_attempt.specs.protocol.declared.entry.Entry as line
use Rattle.sdd_attempt.specs.running.declared.step.LineStep.{LineStep}
use Rattle.sdd_attempt.specs.running.declared.step.LineStep.TheVariants.{Sends as ToSend, Commits as ToCommit}
use Rattle.sdd_asks.specs.Asks.{answers, time_by, without_first}
use Rattle.sdd_asks.specs.rules.declared.asked.Asked.{Asked}
use Rattle.sdd_tm.specs.declared.step.Step.{Step}
use Rattle.sdd_tm.specs.declared.step.Step.TheVariants.{Send, Commit, Answer, Start}
use Rattle.sdd_asks.specs.rules.tm.State.{ClassState, State}

-- the next step of a class

-- the timestamp of an active attempt
abbrev pub stamp_of : Option Attempt → Option ℕ
stamp_of a = option_map (λ x. x.ts) a

abbrev pub can_answer : Option Attempt → Asked → Bool
can_answer a ask = answers (stamp_of a) ask

abbrev pub of_line : Option LineStep → Option Step
of_line None = None
of_line (Some ToSend) = Some Send
of_line (Some ToCommit) = Some Commit

abbrev pub answer_step : ClassState → Option Step
answer_step k = if list_any (can_answer k.line.active) k.asks then Some Answer else None

-- what a class does whether the module is on hold or not
abbrev pub own_step : ClassState → Option Step
own_step k = or_else (of_line (line_step k.line.active)) (answer_step k)

abbrev pub start_step : Bool → ClassState → Option Step
start_step on_hold k = if not on_hold && (is_none k.line.active && not (is_empty k.line.queue)) then Some Start else None

abbrev pub class_step : Bool → ClassState → Option Step
class_step on_hold k = or_else (own_step k) (start_step on_hold k)

abbrev pub step_at : Bool → Option ClassState → Option Step
step_at on_hold None = None
step_at on_hold (Some k) = class_step on_hold k

-- the act that a step makes; the number of the hand that it answers, which isn't kept, is left out

-- the time of the NULL that a class sends
abbrev pub answer_time : Ticking → Option Attempt → ℕ
answer_time clock a = time_by clock (stamp_of a)

abbrev pub answer_to : Ticking → Line → Option Asked → Option Act
answer_to clock l None = None
answer_to clock l (Some ask) = Some (Sends ask.from (Null (class_no l.class) (time_at (answer_time clock l.active))) None)

abbrev pub act_of : Bases → List line.Entry → Ticking → ClassState → Step → Option Act
act_of bases table clock k Send = send_next k.line.active
act_of bases table clock k Commit = commit_next bases k.line
act_of bases table clock k Answer = answer_to clock k.line (find (can_answer k.line.active) k.asks)
act_of bases table clock k Start = start_next table clock k.line

-- what becomes of a class

abbrev pub asks_done : Step → Option Attempt → List Asked → List Asked
asks_done Answer a asks = without_first (can_answer a) asks
asks_done _ a asks = asks

abbrev pub class_done : Bases → List line.Entry → Ticking → Step → ClassState → ClassState
class_done bases table clock step k = record {
  line = line_done (act_of bases table clock k step) k.line;
  asks = asks_done step k.line.active k.asks;
}

-- and of the module, whose class at a place makes a step
abbrev pub state_done : Bases → ℕ → ClassState → Step → State → State
state_done bases place k step state = record state {
  clock = clock_done (act_of bases state.era.table state.clock k step) state.clock;
  classes = slice_set state.classes place (class_done bases state.era.table state.clock step k);
}

-- HELD

abbrev pub is_idle : ClassState → Bool
is_idle k = is_none k.line.active

abbrev pub held_of : State → Option Act
held_of state =
    if state.on_hold && (list_all is_idle state.classes && state.owes_held) then Some
    (Sends U (Held (time_at (bound_of state.clock))) None) else None

abbrev pub after_held_act : State → Option Act → State
after_held_act state None = state
after_held_act state (Some act) = record state { owes_held = false }

-- once HELD is sent, where it is due
abbrev pub after_held : State → State
after_held state = after_held_act state (held_of state)
