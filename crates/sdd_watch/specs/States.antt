-- How sites stand in a run, as its log gives it.
use Rattle.std.specs.Prelude.{ℕ, ◌==◌, nat_lt, Bool, true, false, not, ◌&&◌, if◌then◌else◌, List, [], ◌∷◌, filter, is_some, map, option_map, Option, Some, None}
use Rattle.std.specs.List.{filter_map, flat_map, list_any}
use Rattle.sdd_moments.specs.obligations.All.{Attempt, ClassView, D, DmNo, Done, Handed, Input, Log, Msg, Phase, Question, Read, Setting, Site, T, TmCounts, U, View, Write, active, asks, class_no, clock, counts, dm_no, head, holds, holds_back, is_down, is_met, last_served, local_of, numbers_to, runs, setting_of, time_at, tm_no, txn_no, view_of}
use Rattle.sdd_moments.specs.schedule.world.attempts.Lines.{lacked_by}
use Rattle.sdd_moments.specs.schedule.world.exchange.Phases.{awaited_in}
use Rattle.sdd_moments.specs.schedule.world.exchange.declared.answer.Answer.{Answer}
use Rattle.sdd_moments.specs.schedule.world.exchange.declared.answer.Answer.TheVariants as answers
use Rattle.sdd_moments.specs.obligations.site_module.SiteLog as site
use Rattle.sdd_moments.specs.obligations.umod.Standing.{is_asked_to_hold, unheld_by}
use Rattle.sdd_counts.specs.Counts.{is_kept_on_hold}
use Rattle.sdd_moments.specs.obligations.umod.Views.{turn}
use Rattle.sdd_inside.specs.declared.standing.Active.{Active}
use Rattle.sdd_inside.specs.declared.standing.DmState.{DmState}
use Rattle.sdd_inside.specs.declared.standing.Head.{Head}
use Rattle.sdd_inside.specs.declared.standing.Head.TheVariants as heads
use Rattle.sdd_inside.specs.declared.standing.Phase as reported
use Rattle.sdd_inside.specs.declared.standing.Phase.TheVariants as phases
use Rattle.sdd_inside.specs.declared.standing.Question as questions
use Rattle.sdd_inside.specs.declared.standing.SiteState.{SiteState}
use Rattle.sdd_inside.specs.declared.standing.SiteState.TheVariants as states
use Rattle.sdd_inside.specs.declared.standing.Stage.{Stage}
use Rattle.sdd_inside.specs.declared.standing.Stage.TheVariants as stages
use Rattle.sdd_inside.specs.declared.standing.TmState.{TmState}
use Rattle.sdd_inside.specs.declared.standing.UState.{UState}

-- attempts that are under way

-- what one does that awaits such answers
abbrev pub phase_by : Answer → reported.Phase
phase_by answers.Ready = phases.Reading
phase_by answers.Values = phases.Fetching
phase_by answers.Reduced = phases.Reducing
phase_by answers.Rows = phases.Shipping

-- one whose exchange is over awaits nothing: it commits within the event
abbrev pub reported_phase : Phase → Option reported.Phase
reported_phase phase = option_map phase_by (awaited_in phase)

abbrev pub reported_attempt : ℕ → Attempt → reported.Phase → Active
reported_attempt c a phase =
    record {
      class = class_no c;
      txn = txn_no a.txn;
      attempt = a.attempt;
      time = time_at a.ts;
      phase = phase;
      lacks = map dm_no a.exchange.lacks;
    }

abbrev pub reported_active : ℕ → Option Attempt → Option Active
reported_active c None = None
reported_active c (Some a) = option_map (reported_attempt c a) (reported_phase a.exchange.phase)

abbrev pub actives : Setting → site.Log → List ℕ → List Active
actives s log classes = filter_map (λ c. reported_active c (active s c log)) classes

-- transaction modules

-- the questions to class c that have no answer, in the order in which they came

abbrev pub reported_question : ℕ → Question → questions.Question
reported_question c q = record { class = class_no c; from = q.from; time = time_at q.time }

abbrev pub questions_to : List Question → ℕ → List questions.Question
questions_to qs c = map (reported_question c) (filter (λ q. q.class == c) qs)

abbrev pub reported_tm : Setting → site.Log → ℕ → Bool → TmState
reported_tm s log t down =
    record {
      tm = tm_no t;
      is_down = down;
      clock = (clock s.site log).ticks;
      on_hold = nat_lt (holds log).releases (holds log).holds;
      owes_held = nat_lt (holds log).helds (holds log).holds;
      asks = flat_map (questions_to (asks log)) (runs s);
      active = actives s log (runs s);
    }

-- the module for undeclared transactions

abbrev pub all_counts : Setting → site.Log → List TmCounts
all_counts s log = map (λ t. counts t log) (numbers_to s.catalogue.tms)

-- what it does: an attempt is under way; or the next transaction is served, from its first HOLD on; or the last one is, until the
-- RELEASEs for it are sent

abbrev pub stage_by : Bool → Bool → Bool → Stage
stage_by reading holding writing = if reading then stages.Reading else if holding then stages.Holding else if writing then stages.Writing else stages.Idle

abbrev pub stage_at : Setting → site.Log → Stage
stage_at s log =
    stage_by (is_some (active s 0 log)) (list_any (is_asked_to_hold (turn (last_served s log))) (all_counts s log))
    (list_any (is_kept_on_hold (last_served s log).commits) (all_counts s log))

-- a data module has said that what was committed with this timestamp is applied there
abbrev pub says_applied : ℕ → ℕ → site.Entry → Bool
says_applied ts d (Handed (D n) (Done t)) = n.0 == d && t.0 == ts
says_applied ts d _ = false

-- the data modules, of so many, that haven't
abbrev pub unapplied : ℕ → ℕ → site.Log → List DmNo
unapplied dms ts log = map dm_no (filter (λ d. not (list_any (says_applied ts d) log)) (numbers_to dms))

-- those that haven't said so of what was committed last
abbrev pub unapplied_last : Setting → site.Log → List DmNo
unapplied_last s log = unapplied s.catalogue.dms (last_served s log).ts log

abbrev pub data_sites : List DmNo → List Site
data_sites dms = map (λ d. D d) dms

-- from which sites an answer is missing: from data modules to the attempt; from transaction modules the HELD for the next
-- transaction; from data modules the DONE for the last one

abbrev pub unheld : Setting → site.Log → List Site
unheld s log = map (λ t. T t) (filter_map (unheld_by (turn (last_served s log))) (all_counts s log))

abbrev pub lacks_in : Setting → site.Log → Stage → List Site
lacks_in s log stages.Reading = data_sites (map dm_no (lacked_by (active s 0 log)))
lacks_in s log stages.Holding = unheld s log
lacks_in s log stages.Writing = data_sites (unapplied_last s log)
lacks_in s log stages.Idle = []

abbrev pub reported_u : Setting → site.Log → UState
reported_u s log =
    record {
      clock = (clock s.site log).ticks;
      stage = stage_at s log;
      lacks = lacks_in s log (stage_at s log);
      active = actives s log (0 ∷ []);
    }

-- data modules

-- the head of the pipe of class c, where it waits or is a WRITE: at rest no other head stands in a pipe
abbrev pub head_by : View → ℕ → Bool → Option Msg → Option Head
head_by v c true (Some (Read ts class txn attempt conds uses)) =
    Some (heads.Waits (class_no c) (filter (λ d. not (is_met v d)) conds))
head_by v c waits (Some (Write ts class txn changes)) =
    Some (heads.Held (class_no c) (map (λ k. class_no k.class) (filter (λ k. k.waits && holds_back c ts.0 changes (head k.pipe)) v.classes)))
head_by v c waits m = None

abbrev pub report_head : View → ClassView → Option Head
report_head v k = head_by v k.class k.waits (head k.pipe)

abbrev pub reported_dm : Setting → site.Log → ℕ → Bool → DmState
reported_dm s log d down = record { dm = dm_no d; is_down = down; heads = filter_map (report_head (view_of s log)) (view_of s log).classes }

-- a site

abbrev pub state_of : Input → Log → Site → SiteState
state_of g log U = states.U (reported_u (setting_of g U) (local_of g U log))
state_of g log (T t) = states.T (reported_tm (setting_of g (T t)) (local_of g (T t) log) t.0 (is_down (T t) log))
state_of g log (D d) = states.D (reported_dm (setting_of g (D d)) (local_of g (D d) log) d.0 (is_down (D d) log))

-- the data modules that haven't said that they applied what U committed last
abbrev pub unapplied_of : Input → Log → List DmNo
unapplied_of g log = unapplied_last (setting_of g U) (local_of g U log)
