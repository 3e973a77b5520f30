-- A message that is handed: the module keeps what follows from the log, and nothing else of it changes.
use Rattle.sdd_umod.proofs.All.{Attempt, AwaitsAt, Bases, Bool, Handed, HaveRoom, InTurn, IsAmid, IsAwaited, IsEarly, IsKept, IsSetting, IsSoundLog, Line, List, Log, Msg, None, Option, Phase, Served, Setting, Site, State, Ticking, TmCounts, Values, active, active_handed, ap, arith, clock, clock_after_message, counts, counts_tm, fetches_use, few_waiting, fits, fits_kind, get_map_of, last_served, left_is_few, line_handed, line_of, line_step, map, map_twice, no_sooner_hand, numbers_to, of_line, or_nothing, pushed_by, queue, refl, resting, running, served_after_message, served_handed, stamped_still, started, starts_left, state_handed, state_of, step_of, submits, subst, ℕ, ◌+◌, ◌<◌, ◌^◌, ◌∙◌, ◌∷◌, ◌≡◌, ◌≤◌}
use Rattle.sdd_umod.proofs.Dues.{line_none}
use Rattle.sdd_umod.proofs.Turns.{turn_held}
use Rattle.sdd_counts.specs.rules.umod.State.{served_of}
use Rattle.sdd_counts.specs.declared.tm_count.Sign.TheVariants as signs
use Rattle.sdd_counts.proofs.rules.umod.Counts.{commits_same}

-- what is kept of the log

pub clock_kept : (s : Setting) (bases : Bases) (log : Log) (from : Site) (m : Msg) → fits_kind s bases log from m
    → (k : Ticking) → pushed_by m k ≡ clock_after_message m k
clock_kept s bases log from m f k = grind arith

abbrev made : Line → Ticking → Served → List TmCounts → State
made line clock served counts = record { line = line; clock = clock; served = served; counts = counts }

pub state_kept : (s : Setting) (bases : Bases) (log : Log) (from : Site) (m : Msg) → fits_kind s bases log from m
    → state_of s (Handed from m ∷ log) ≡ state_handed from m (state_of s log)
state_kept s bases log from m f =
    let line : Line = line_of s (Handed from m ∷ log) in
    ap (λ k. made line k (served_of (last_served s (Handed from m ∷ log))) (map (λ t. counts t (Handed from m ∷ log)) (numbers_to s.catalogue.tms)))
    (clock_kept s bases log from m f (clock s.site log))
    ∙ ap (λ v. made line (clock_after_message m (clock s.site log)) v (map (λ t. counts t (Handed from m ∷ log)) (numbers_to s.catalogue.tms)))
    (grind (arith)) ∙ ap (made line (clock_after_message m (clock s.site log)) (served_after_message m (served_of (last_served s log))))
    (grind (arith, map_twice))

-- what holds of the log

running_handed : (from : Site) (m : Msg) (o : Option Attempt) → running (active_handed 0 from m o) ≤ running o
running_handed from m o = grind arith

pub sound_handed : (s : Setting) (bases : Bases) (log : Log) (from : Site) (m : Msg) → fits_kind s bases log from m
    → IsSoundLog s log → IsSoundLog s (Handed from m ∷ log)
sound_handed s bases log from m f sound = record {
  line = line_handed s bases 0 log from m (grind arith) sound.line;
  stamped = stamped_still s log (Handed from m) refl sound.stamped;
  turns = λ t. rw (commits_same m (last_served s log)) (grind (arith, turn_held, counts_tm));
  started = record {
    few = omega (arith, sound.started.few, running_handed from m (active s 0 log), (no_sooner_hand m (clock s.site log)).0, commits_same m (last_served s log));
  };
}

-- between calls the attempt does nothing by itself
pub settled_line : (state : State) → step_of state ≡ None → line_step state.line.active ≡ None
settled_line state e = line_none _ (or_nothing (of_line (line_step state.line.active)) _ e).0

-- the clock

pub early_push : (s : Setting) (bases : Bases) (log : Log) (from : Site) (m : Msg) → fits s bases log from m → IsEarly m
early_push s bases log from m f = grind arith

pub has_room : (s : Setting) (log : Log) → IsSoundLog s log → (clock s.site log).ticks < 2 ^ 56
    → (clock s.site log).ticks + starts_left (active s 0 log) (queue s 0 log) + 1 < 2 ^ 57
has_room s log sound low =
    omega (arith, few_waiting s.catalogue 0 (submits log) (queue s 0 log) sound.line.in_queue, left_is_few (active s 0 log) (queue s 0 log))

-- the counts have room

pub counts_room : (s : Setting) (log : Log) → IsSoundLog s log → (clock s.site log).ticks < 2 ^ 57 → HaveRoom (state_of s log).counts
counts_room s log sound low = λ i k e.
    let r = get_map_of (λ t. counts t log) (numbers_to s.catalogue.tms) i k e in
    let turn : InTurn (last_served s log).commits k = subst (InTurn (last_served s log).commits) r.1 (sound.turns r.0) in
    let few = sound.started.few in
    let a = turn.committed in
    let b = turn.released in
    let c = turn.answered in
    record { holds = omega arith; helds = omega arith; releases = omega arith }

pub kept_room : (s : Setting) (log : Log) (state : State) → IsKept s log state → (clock s.site log).ticks < 2 ^ 57 → HaveRoom state.counts
kept_room s log state kept low = subst (λ (st : State). HaveRoom st.counts) kept.state_is (counts_room s log kept.sound low)

-- the module within the call

pub amid_handed : (s : Setting) (bases : Bases) (log : Log) (from : Site) (m : Msg) → IsSetting s → IsSoundLog s log
    → step_of (state_of s log) ≡ None → fits s bases log from m → IsAmid s bases (state_handed from m (state_of s log)) (Handed from m ∷ log)
amid_handed s bases log from m setting sound settled f =
    let now : IsSoundLog s (Handed from m ∷ log) = sound_handed s bases log from m f.1 sound in
    let is = state_kept s bases log from m f.1 in
    record {
      setting = setting;
      sound = now;
      state_is = is;
      databases = f.0.databases;
      served = served_handed s bases log 0 from m (grind arith) sound.line.asking
          (resting s.catalogue bases (active s 0 log) (settled_line (state_of s log) settled));
      room = subst (λ (st : State). st.clock.ticks + starts_left st.line.active st.line.queue + 1 < 2 ^ 57) is
          (has_room s (Handed from m ∷ log) now (grind arith));
    }

-- an answer is one that the attempt awaits

awaited_class : (s : Setting) (log : Log) (f : Phase → Bool) (from : Site) (ts k c : ℕ)
    → AwaitsAt f (active s k log) from ts → k ≡ c → AwaitsAt f (active s c log) from ts
awaited_class s log f from ts k c h e = subst (λ n. AwaitsAt f (active s n log) from ts) e h

is_awaited : (s : Setting) (bases : Bases) (log : Log) (from : Site) (m : Msg) → fits_kind s bases log from m → IsAwaited 0 from m (active s 0 log)
is_awaited s bases log from (Values ts class u values) f = λ e. awaited_class s log (fetches_use u) from ts.0 class.0 0 f e
is_awaited s bases log from _ f = tt

pub awaited_kept : (s : Setting) (bases : Bases) (log : Log) (state : State) (from : Site) (m : Msg)
    → IsKept s log state → fits_kind s bases log from m → IsAwaited state.line.class from m state.line.active
awaited_kept s bases log state from m kept f =
    subst (λ (st : State). IsAwaited st.line.class from m st.line.active) kept.state_is (is_awaited s bases log from m f)
