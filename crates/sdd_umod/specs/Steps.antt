-- What the module does next by itself, the act that it is, and what becomes of what it keeps.
use Rattle.std.specs.Prelude.{Bool, ◌&&◌, if◌then◌else◌, [], map, find, Option, Some, None, option_map}
use Rattle.std.specs.List.{list_all}
use Rattle.sdd_counts.specs.rules.All.{Act, Bases, Sends, T, is_empty, or_else, time_at}
use Rattle.sdd_attempt.specs.All.{clock_done, commit_next, head_is_untried, line_done, line_step, send_next, start_next}
use Rattle.sdd_attempt.specs.wire.declared.msg.Msg.TheVariants as messages
use Rattle.sdd_attempt.specs.running.declared.step.LineStep.{LineStep}
use Rattle.sdd_attempt.specs.running.declared.step.LineStep.TheVariants.{Sends as ToSend, Commits as ToCommit}
use Rattle.sdd_umod.specs.declared.step.Step.{Step}
use Rattle.sdd_umod.specs.declared.step.Step.TheVariants.{Send, Commit, Release, Start, Hold}
use Rattle.sdd_counts.specs.Counts.{counted, is_free, is_holding, is_kept_on_hold}
use Rattle.sdd_counts.specs.Serving.{committed, is_applied}
use Rattle.sdd_counts.specs.declared.tm_count.Sign.TheVariants as signs
use Rattle.sdd_counts.specs.rules.umod.Views.{tm_of, ts_of, turn}
use Rattle.sdd_counts.specs.rules.umod.State.{State}

-- the next step

abbrev pub of_line : Option LineStep → Option Step
of_line None = None
of_line (Some ToSend) = Some Send
of_line (Some ToCommit) = Some Commit

abbrev pub release_step : State → Option Step
release_step state =
    if is_applied state.line.catalogue.dms state.served
    then option_map Release (option_map tm_of (find (is_kept_on_hold state.served.commits) state.counts)) else None

abbrev pub may_start : State → Bool
may_start state = head_is_untried state.line.queue && list_all (is_holding (turn state.served)) state.counts

abbrev pub start_step : State → Option Step
start_step state = if may_start state then Some Start else None

abbrev pub hold_step : State → Option Step
hold_step state = if is_empty state.line.queue then None else option_map Hold (option_map tm_of (find is_free state.counts))

abbrev pub step_of : State → Option Step
step_of state =
    or_else (of_line (line_step state.line.active)) (or_else (release_step state) (or_else (start_step state) (hold_step state)))

-- the act that a step makes

abbrev pub act_of : Bases → State → Step → Option Act
act_of bases state Send = send_next state.line.active
act_of bases state Commit = commit_next bases state.line
act_of bases state (Release tm) = Some (Sends (T tm) (messages.Release (time_at state.served.ts)) None)
act_of bases state Start = start_next [] state.clock state.line
act_of bases state (Hold tm) = Some (Sends (T tm) messages.Hold None)

-- what becomes of the module

abbrev pub state_done : Bases → Step → State → State
state_done bases Send state = record state { line = line_done (send_next state.line.active) state.line }
state_done bases Commit state = record state {
  line = line_done (commit_next bases state.line) state.line;
  served = committed (ts_of state.line.active) state.served;
}
state_done bases (Release tm) state = record state { counts = map (counted signs.Release tm.0) state.counts }
state_done bases Start state = record state {
  line = line_done (start_next [] state.clock state.line) state.line;
  clock = clock_done (start_next [] state.clock state.line) state.clock;
}
state_done bases (Hold tm) state = record state { counts = map (counted signs.Hold tm.0) state.counts }
