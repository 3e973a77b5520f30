-- What is due at a data module. First, by class, what answers a message that asks; then, by class, what the head of a
-- pipe may do.
use Rattle.std.specs.Prelude.{ℕ, ◌≡◌, ◌==◌, Bool, true, false, not, ◌&&◌, if◌then◌else◌, List, [], ◌∷◌, map, filter, length, slice_get, Option, Some, None}
use Rattle.std.specs.List.{list_any, list_all}
use Rattle.sdd_module.specs.All.{Act, Answer, Apply, Arrive, Ask, Bases, Change, Cond, Done, Fetch, Log, Msg, Null, Pass, Read, Ready, Records, Reduce, Reduced, Reject, Rows, Sends, Setting, Ship, Site, U, Values, Wait, Write, first_some, head_of, or_else, time_at}
use Rattle.sdd_module.specs.history.declared.record.Rec.TheVariants.{Reject as Rejected}
use Rattle.sdd_copy.specs.Frozen.{values_in}
use Rattle.sdd_pipe.specs.Pipe.{head, passed, last_write}
pub use Rattle.sdd_conditions.specs.Conditions.{holds, is_at_least, or_zero}
use Rattle.sdd_rules.specs.declared.step.Step.{Step}
use Rattle.sdd_rules.specs.declared.step.Step.TheVariants.{Processes, Refuses, Waits}
use Rattle.sdd_rules.specs.dm.Copies.{frozen_at, rows_held, counts_held, all_held}
use Rattle.sdd_rules.specs.dm.Opens.{Open, is_asked_of}
use Rattle.sdd_rules.specs.dm.Views.{Home, home_of, source_of, ClassView, View, view_of, at_class, dated_in}

-- what answers a message that asks, of which class c's rows are held

-- a READ arrives; FETCH gets the values of a column, REDUCE the count of rows that are left, SHIP all rows
abbrev pub answer_to : Home → ClassView → Open → Msg → Option Act
answer_to h k o (Read ts class txn attempt conds uses) = Some (Records k.class (Arrive txn attempt h.dm) [])
answer_to h k o (Fetch ts class u col) = Some (Sends o.from (Values ts class u (values_in (rows_held u k.frozen) col)) (Some o.hand))
answer_to h k o (Reduce ts class u col values) = Some (Sends o.from (Reduced ts class u (length (rows_held u k.frozen))) (Some o.hand))
answer_to h k o (Ship ts class) = Some (Sends o.from (Rows ts class (all_held k.frozen)) (Some o.hand))
answer_to h k o _ = None

abbrev pub answer_of : Home → ClassView → Option Open → Option Act
answer_of h k None = None
answer_of h k (Some o) = answer_to h k o o.msg

-- the first message of the class that is still to be answered
abbrev pub open_due : Home → View → ClassView → Option Act
open_due h v k = answer_of h k (head_of (filter (is_asked_of k.class) v.opens))

-- what a condition says of the pipes

-- its class has passed its time
abbrev pub is_met : View → Cond → Bool
is_met v d = passed (at_class v d.class.0).pipe d.time.0

-- the last WRITE of its class that changes one of its fragments
abbrev pub last_write_for : View → Cond → Option ℕ
last_write_for v d = last_write d.frags (at_class v d.class.0).pipe

-- it spoils its READ: that WRITE is at its time or later
abbrev pub spoils : View → Cond → Bool
spoils v d = is_at_least d.time.0 (last_write_for v d)

abbrev pub holds_back : ℕ → ℕ → List Change → Option Msg → Bool
holds_back j w changes (Some (Read ts class txn attempt conds uses)) = list_any (holds j w changes) conds
holds_back j w changes _ = false

-- a WRITE is held where a condition of a READ that waits holds it back; one of class 0 is never held
abbrev pub is_held : View → ℕ → ℕ → List Change → Bool
is_held v j w changes = not (j == 0) && list_any (λ k. k.waits && holds_back j w changes (head k.pipe)) v.classes

-- what a head may do

-- a READ that doesn't wait is rejected by the first condition that spoils it; else it is answered where every condition
-- is met; else it waits for those that aren't
abbrev pub judged : View → List Cond → Option Cond → Step
judged v lacking (Some d) = Refuses d.class (time_at (or_zero (last_write_for v d)))
judged v [] None = Processes
judged v (d ∷ ds) None = Waits (d ∷ ds)

abbrev pub judge : View → List Cond → Step
judge v conds = judged v (filter (λ d. not (is_met v d)) conds) (head_of (filter (spoils v) conds))

-- a NULL passes; a WRITE is applied where it isn't held; a READ that waits is answered once all its conditions are met
abbrev pub step_on : View → ℕ → Bool → Option Msg → Option Step
step_on v c waits None = None
step_on v c waits (Some (Null class time)) = Some Processes
step_on v c waits (Some (Write ts class txn changes)) = if is_held v c ts.0 changes then None else Some Processes
step_on v c true (Some (Read ts class txn attempt conds uses)) = if list_all (is_met v) conds then Some Processes else None
step_on v c false (Some (Read ts class txn attempt conds uses)) = Some (judge v conds)
step_on v c waits (Some m) = None

abbrev pub head_step : View → ClassView → Option Step
head_step v k = step_on v k.class k.waits (head k.pipe)

-- the act of a head that does so

-- an Answer freezes the rows, and READY carries their counts
abbrev pub answer_act : Home → View → ℕ → Msg → Act
answer_act h v c (Read ts class txn attempt conds uses) =
    Records c (Answer txn attempt h.dm) ((source_of h c, Ready ts class (counts_held (frozen_at (dated_in v) (Some (Read ts class txn attempt conds uses))))) ∷ [])
answer_act h v c m = Sends U m None

-- an ASK goes to the site that runs the condition's class
abbrev pub ask_for : Home → Cond → Site × Msg
ask_for h d = (source_of h d.class.0, Ask d.class d.time)

-- the Apply of a WRITE of class 0 sends DONE
abbrev pub done_for : ℕ → Msg → List (Site × Msg)
done_for c m = if c == 0 then (U, m) ∷ [] else []

abbrev pub act_by : Home → View → ℕ → Msg → Step → Act
act_by h v c (Null class time) step = Records c (Pass class h.dm time) []
act_by h v c (Write ts class txn changes) step = Records c (Apply txn class h.dm ts) (done_for c (Done ts))
act_by h v c (Read ts class txn attempt conds uses) Processes = answer_act h v c (Read ts class txn attempt conds uses)
act_by h v c (Read ts class txn attempt conds uses) (Refuses by write) =
    Records c (Rejected txn attempt h.dm by write) ((source_of h c, Reject ts class by write) ∷ [])
act_by h v c (Read ts class txn attempt conds uses) (Waits ds) = Records c (Wait txn attempt h.dm ds) (map (ask_for h) ds)
act_by h v c m step = Sends U m None

abbrev pub act_where : Home → View → ℕ → Option Msg → Option Step → Option Act
act_where h v c None step = None
act_where h v c (Some m) None = None
act_where h v c (Some m) (Some step) = Some (act_by h v c m step)

abbrev pub head_due : Home → View → ClassView → Option Act
head_due h v k = act_where h v k.class (head k.pipe) (head_step v k)

-- the table

-- of two ranks the first that has something due
abbrev pub by_rank : {A : Type 0} → Option A → Option A → Option A
by_rank answers heads = or_else answers heads

abbrev pub due : Home → View → Option Act
due h v = by_rank (first_some (open_due h v) v.classes) (first_some (head_due h v) v.classes)

-- a data module doesn't look at what attempts read
abbrev pub next : Setting → Bases → Log → Option Act
next s bases log = due (home_of s) (view_of s log)

-- due, of whatever rank and class: for logs whose entries come in any order
pub data IsDue (h : Home) (v : View) : Act → Type 0 where
  by_open : {a : Act} (n : ℕ) (k : ClassView) → slice_get v.classes n ≡ Some k → open_due h v k ≡ Some a → IsDue h v a
  by_head : {a : Act} (n : ℕ) (k : ClassView) → slice_get v.classes n ≡ Some k → head_due h v k ≡ Some a → IsDue h v a
