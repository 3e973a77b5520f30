-- What is listed as pending, said of the log alone: transactions that were submitted and aren't committed, and what each of
-- them waits for. How the lines are made isn't said here.
use Rattle.std.specs.Prelude.{ℕ, suc, ◌-◌, ◌==◌, ◌≡◌, ◌<◌, ◌≤◌, ◌++◌, ◌∷◌, Bool, true, false, not, ◌&&◌, if◌then◌else◌, List, Contains, filter, map, slice_get, Option, Some, None}
use Rattle.std.specs.List.{AllByRecursion, list_any}
use Rattle.sdd_progress.specs.obligations.Turns.{Asks, Refused, Replied, Silent, Turn, turn_at}
use Rattle.sdd_progress.specs.obligations.attempt.Attempts.{Attempt, active}
use Rattle.sdd_progress.specs.obligations.attempt.Queues.{Queued, queue}
use Rattle.sdd_progress.specs.obligations.base.Numbers.{class_no, time_at, txn_no}
use Rattle.sdd_progress.specs.obligations.base.Words.{head_of, tail_of}
use Rattle.sdd_progress.specs.obligations.base.declared.condition.Cond.{Cond}
use Rattle.sdd_progress.specs.obligations.base.declared.site.Site.TheVariants.{D, T, U}
use Rattle.sdd_progress.specs.obligations.base.declared.usage.Use.{Use}
use Rattle.sdd_progress.specs.obligations.catalog.Catalogue.{numbers_to}
use Rattle.sdd_progress.specs.obligations.dm.Pipes.{pipe, waits}
use Rattle.sdd_progress.specs.obligations.history.Records.{History}
use Rattle.sdd_progress.specs.obligations.invariants.Steps.{home}
use Rattle.sdd_progress.specs.obligations.laws.Deeds.{IsSubmitted}
use Rattle.sdd_progress.specs.obligations.logs.Entries.{Input, Log, history}
use Rattle.sdd_progress.specs.obligations.logs.Locals.{local_of, setting_of}
use Rattle.sdd_progress.specs.obligations.pipe.Pipe.{head, passed}
use Rattle.sdd_progress.specs.obligations.links.Numbers.{IsClass, IsFrom1To, IsModule}
use Rattle.sdd_progress.specs.obligations.umod.Views.{TmCounts, counts, last_served}
use Rattle.sdd_progress.specs.obligations.wire.declared.msg.Msg.TheVariants.{Read}
use Rattle.sdd_progress.specs.Committed.{WasCommitted}
use Rattle.sdd_progress.specs.Quiet.{at_home, at_module}
use Rattle.sdd_report.specs.declared.pending.Pending.{Pending}
use Rattle.sdd_report.specs.declared.pending.Waiting.{Waiting}
use Rattle.sdd_report.specs.declared.pending.Why.{Why}
use Rattle.sdd_report.specs.declared.pending.Why.TheVariants.{Queued as InQueue, Underway, Waits}

-- the queue of a class

-- the attempt of class c that is under way
abbrev pub attempt_at : Input → Log → ℕ → Option Attempt
attempt_at g log c = active (setting_of g (home g.catalogue c)) c (at_home g c log)

-- the transactions of the class that were submitted and aren't committed, in the order of their submission
abbrev pub queue_at_home : Input → Log → ℕ → List Queued
queue_at_home g log c = queue (setting_of g (home g.catalogue c)) c (at_home g c log)

-- how many undeclared transactions are committed
abbrev pub commits_at_u : Input → Log → ℕ
commits_at_u g log = (last_served (setting_of g U) (local_of g U log)).commits

-- how many HOLDs U sent to T t, and how many HELDs were handed to U from there
abbrev pub counts_at_u : Input → Log → ℕ → TmCounts
counts_at_u g log t = counts t (local_of g U log)

-- U serves the first transaction in its queue from its first HOLD on: of some T there is one HOLD more than there are Commits
abbrev pub is_asking_to_hold : Input → Log → Bool
is_asking_to_hold g log =
    list_any (λ (k : TmCounts). k.holds == suc (commits_at_u g log)) (map (counts_at_u g log) (numbers_to g.catalogue.tms))

-- the transactions whose turn is still to come: all in the queue but the one that is being served
abbrev pub without_served : Option Attempt → Bool → List Queued → List Queued
without_served (Some a) held queue = filter (λ (q : Queued). not (q.number == a.txn)) queue
without_served None held queue = if held then tail_of queue else queue

abbrev pub in_line : Input → Log → ℕ → List Queued
in_line g log c = without_served (attempt_at g log c) ((c == 0) && is_asking_to_hold g log) (queue_at_home g log c)

-- transaction n is the one at this place of them, from 1
pub record IsInLine (g : Input) (log : Log) (c place n : ℕ) : Type 0 where
  pub class_is : IsClass g.catalogue c
  pub from : 1 ≤ place
  pub waiting : Queued
  pub there : slice_get (in_line g log c) (place - 1) ≡ Some waiting
  pub number_is : waiting.number ≡ n

-- transaction n has the attempt of class c that is under way
pub record IsUnderway (g : Input) (log : Log) (n c : ℕ) (a : Attempt) : Type 0 where
  pub class_is : IsClass g.catalogue c
  pub active_is : attempt_at g log c ≡ Some a
  pub number_is : a.txn ≡ n

-- a READ that waits

-- The READ of the attempt, with these conditions, waits at module d: it is the first message of its class there that isn't
-- processed, and has a Wait.
pub record ReadWaits (g : Input) (log : Log) (c : ℕ) (a : Attempt) (d : ℕ) (conds : List Cond) : Type 0 where
  pub uses : List Use
  pub head_is : head (pipe c (at_module g d log)) ≡ Some (Read (time_at a.ts) (class_no c) (txn_no a.txn) a.attempt conds uses)
  pub has_wait : waits c (at_module g d log) ≡ true

-- it waits at no module from 1 to below this number
abbrev pub WaitsAtNoneBelow : Input → Log → ℕ → Attempt → ℕ → Type 0
WaitsAtNoneBelow g log c a n = (d : ℕ) (conds : List Cond) → 1 ≤ d → d < n → ReadWaits g log c a d conds → ⊥

-- at module d the class of a condition has passed its time
abbrev pub has_passed_at : Input → Log → ℕ → Cond → Bool
has_passed_at g log d x = passed (pipe x.class.0 (at_module g d log)) x.time.0

-- of these conditions the first whose class hasn't
pub record IsFirstUnmet (g : Input) (log : Log) (d : ℕ) (conds : List Cond) (x : Cond) : Type 0 where
  pub before : List Cond
  pub after : List Cond
  pub conds_are : conds ≡ before ++ x ∷ after
  pub met : AllByRecursion (λ y. has_passed_at g log d y ≡ true) before
  pub unmet : has_passed_at g log d x ≡ false

-- the attempt waits for a class at a module, the lowest at which its READ waits
pub record WaitsForClass (g : Input) (log : Log) (c : ℕ) (a : Attempt) (w : Waiting) : Type 0 where
  pub module_is : IsModule g.catalogue w.dm.0
  pub conds : List Cond
  pub read : ReadWaits g log c a w.dm.0 conds
  pub cond : Cond
  pub first : IsFirstUnmet g log w.dm.0 conds cond
  pub class_is : w.class ≡ cond.class
  pub time_is : w.time ≡ cond.time
  pub lowest : WaitsAtNoneBelow g log c a w.dm.0

-- a message that is missing

-- the last question has no answer yet
abbrev pub is_unanswered : Turn → Bool
is_unanswered Silent = false
is_unanswered (Asks uses question) = true
is_unanswered (Replied uses question) = false
is_unanswered Refused = false

-- the attempt's site has put a READ, FETCH, REDUCE or SHIP of it for module d to which no answer was handed
abbrev pub lacks_answer_of : Input → Log → ℕ → Attempt → ℕ → Bool
lacks_answer_of g log c a d = is_unanswered (turn_at a.ts c d (at_home g c log))

-- the attempt waits for an answer of module d, the lowest whose answer is missing, and its READ waits at no module
pub record WaitsForAnswer (g : Input) (log : Log) (c : ℕ) (a : Attempt) (d : ℕ) : Type 0 where
  pub module_is : IsModule g.catalogue d
  pub missing : lacks_answer_of g log c a d ≡ true
  pub lowest : (e : ℕ) → e < d → lacks_answer_of g log c a e ≡ false
  pub no_read_waits : WaitsAtNoneBelow g log c a (suc g.catalogue.dms)

-- U serves transaction n, the first in its queue, and hasn't started it: it waits for a HELD of T t, the lowest of those that
-- haven't said HELD once more than there are Commits
pub record WaitsForHeld (g : Input) (log : Log) (n t : ℕ) : Type 0 where
  pub tm_is : IsFrom1To g.catalogue.tms t
  pub not_started : attempt_at g log 0 ≡ None
  pub is_asked : is_asking_to_hold g log ≡ true
  pub first : Queued
  pub first_is : head_of (queue_at_home g log 0) ≡ Some first
  pub number_is : first.number ≡ n
  pub missing : (counts_at_u g log t).helds < suc (commits_at_u g log)
  pub lowest : (s : ℕ) → 1 ≤ s → s < t → (counts_at_u g log s).helds ≡ suc (commits_at_u g log)

-- why transaction n is pending: a place in the line of a class; a class at a data module; a message of a T, which is a
-- HELD, or of a data module; never one of U
abbrev pub IsTrueReason : Input → Log → ℕ → Why → Type 0
IsTrueReason g log n (InQueue class place) = IsInLine g log class.0 place n
IsTrueReason g log n (Waits w) = (c : ℕ) × (a : Attempt) × IsUnderway g log n c a × WaitsForClass g log c a w
IsTrueReason g log n (Underway U) = ⊥
IsTrueReason g log n (Underway (T t)) = WaitsForHeld g log n t.0
IsTrueReason g log n (Underway (D d)) = (c : ℕ) × (a : Attempt) × IsUnderway g log n c a × WaitsForAnswer g log c a d.0

-- what is listed was submitted, isn't committed, and waits for what is said
pub record IsTruePending (g : Input) (log : Log) (one : Pending) : Type 0 where
  pub place : ℕ
  pub submitted : IsSubmitted (history log) one.txn.0 place
  pub uncommitted : WasCommitted (history log) one.txn.0 → ⊥
  pub reason : IsTrueReason g log one.txn.0 one.why

-- transaction n was submitted before transaction m
pub record WasFirst (h : History) (n m : ℕ) : Type 0 where
  pub first_place : ℕ
  pub second_place : ℕ
  pub first : IsSubmitted h n first_place
  pub second : IsSubmitted h m second_place
  pub before : first_place < second_place

-- a list of such, in which what was submitted first stands first
pub record TellsPending (g : Input) (log : Log) (left : List Pending) : Type 0 where
  pub each : (one : Pending) → Contains left one → IsTruePending g log one
  pub in_order : (i j : ℕ) (one two : Pending) → i < j → slice_get left i ≡ Some one → slice_get left j ≡ Some two
      → WasFirst (history log) one.txn.0 two.txn.0
