-- What a site that runs transactions does, of whatever rank, as its queues, clock and active attempts allow it; and
-- what its clock drew and promised.
use Rattle.std.specs.Prelude.{ℕ, ◌&&◌, ◌++◌, ◌<◌, ◌==◌, ◌||◌, ◌∷◌, ◌≡◌, Bool, List, None, Option, Some, [], false, filter, if◌then◌else◌, suc, true}
use Rattle.sdd_log.specs.All.{Act, Attempt, Bases, Catalogue, Change, Commit, Did, Entry, Handed, Held, Hold, Msg, Null, Phase, Queued, Reading, Records, Redeclared, Release, Sends, Setting, Site, Start, Submits, T, Ticked, Ts, Txn, U, active, ascending, asks_rows, bound_of, class_at, class_no, clock, commit_act, contains, current_era, fragments_in, has_copy, head_of, is_for, is_over, modules_of, queue, read_to, start_act, submits, ticked, time_at, timestamp, tm_no, uses_of}
use Rattle.sdd_log.specs.site_module.SiteLog.{Log}

-- the site that runs a class
abbrev pub home : Catalogue → ℕ → Site
home cat c = if c == 0 then U else T (tm_no (class_at cat c).tm.0)

-- the bound of the site's clock: no timestamp that it still draws is at or below it
abbrev pub bound : Setting → Log → ℕ
bound s log = bound_of (clock s.site log)

-- the timestamp that the clock stands at, and the one that the next Start draws
abbrev pub last_stamp : Setting → Log → ℕ
last_stamp s log = timestamp (clock s.site log)

abbrev pub next_stamp : Setting → Log → ℕ
next_stamp s log = timestamp (ticked (clock s.site log) 1)

-- below this time the class puts nothing any more: the timestamp of its active attempt, or where it is idle the bound
abbrev pub limit_of : ℕ → Option Attempt → ℕ
limit_of b None = b
limit_of b (Some a) = a.ts

abbrev pub limit : Setting → ℕ → Log → ℕ
limit s c log = limit_of (bound s log) (active s c log)

-- the Start of a transaction in the queue, where the clock and the classes in force are so
abbrev pub start_at : Setting → ℕ → Log → Queued → Act
start_at s c log q = start_act s.catalogue (current_era s log).table c (clock s.site log) q

-- the modules at which the class reads what the transaction asks, and the READ that a Start sends to one
abbrev pub modules_asked : Setting → ℕ → Txn → List ℕ
modules_asked s c text = modules_of s.catalogue c (ascending (fragments_in (uses_of s.catalogue text)))

abbrev pub start_read : Setting → ℕ → Log → Queued → ℕ → Msg
start_read s c log q d =
    (read_to s.catalogue (current_era s log).table c q (uses_of s.catalogue q.text) (next_stamp s log) (bound s log) d).1

-- of the changes of a transaction those of which the module has a copy
abbrev pub changes_at : Catalogue → ℕ → List Change → List Change
changes_at cat d changes = filter (λ x. has_copy cat d x.frag.0) changes

abbrev pub is_reading : Phase → Bool
is_reading Reading = true
is_reading _ = false

-- a message that it sends without a record: of the exchange of an active attempt, a NULL, a HELD, a HOLD, a RELEASE
pub data IsSend (s : Setting) (log : Log) (m : Msg) : Type 0 where
  of_exchange : (c : ℕ) (a : Attempt) → home s.catalogue c ≡ s.site → active s c log ≡ Some a → asks_rows a.ts c m ≡ true
      → is_reading a.exchange.phase ≡ false → IsSend s log m
  a_null : (c : ℕ) → home s.catalogue c ≡ s.site → m ≡ Null (class_no c) (time_at (limit s c log)) → IsSend s log m
  a_held : m ≡ Held (time_at (bound s log)) → IsSend s log m
  a_hold : m ≡ Hold → IsSend s log m
  a_release : (ts : Ts) → m ≡ Release ts → IsSend s log m

-- an act of the tables of T and U: the Start of the head of an idle class's queue, the Commit of an active attempt
-- whose exchange is over, or a send
pub data IsStep (s : Setting) (log : Log) (act : Act) : Type 0 where
  by_start : (c : ℕ) (q : Queued) → home s.catalogue c ≡ s.site → active s c log ≡ None → head_of (queue s c log) ≡ Some q
      → act ≡ start_at s c log q → IsStep s log act
  by_commit : (c : ℕ) (bases : Bases) (a : Attempt) → home s.catalogue c ≡ s.site → active s c log ≡ Some a
      → is_over a.exchange.phase ≡ true → act ≡ commit_act s.catalogue bases c a → IsStep s log act
  by_send : (to : Site) (m : Msg) (hand : Option ℕ) → IsSend s log m → act ≡ Sends to m hand → IsStep s log act

-- each act of the log is a step
abbrev pub IsFair : Setting → Log → Entry → Type 0
IsFair s log (Did act) = IsStep s log act
IsFair s log (Handed from m) = Unit {0}
IsFair s log (Ticked n) = Unit {0}
IsFair s log (Submits n txn) = Unit {0}
IsFair s log (Redeclared era t) = Unit {0}

-- no number is submitted twice
abbrev pub IsNew : Log → Entry → Type 0
IsNew log (Submits n txn) = contains (submits log) n ≡ false
IsNew log (Handed from m) = Unit {0}
IsNew log (Ticked n) = Unit {0}
IsNew log (Redeclared era t) = Unit {0}
IsNew log (Did act) = Unit {0}

-- what was submitted to a class, in order
abbrev pub submits_of : Setting → ℕ → Log → List (ℕ × Txn)
submits_of s c [] = []
submits_of s c (Submits n txn ∷ log) =
    if is_for c (current_era s log).catalogue txn then submits_of s c log ++ (n, txn) ∷ [] else submits_of s c log
submits_of s c (_ ∷ log) = submits_of s c log

-- how often class c started transaction n, and whether it committed it

abbrev pub start_more : ℕ → ℕ → Act → ℕ → ℕ
start_more c n (Records k (Start txn attempt class ts p2 uses) sends) x = if (k == c) && (n == txn.0) then suc x else x
start_more c n _ x = x

abbrev pub starts_of : ℕ → ℕ → Log → ℕ
starts_of c n [] = 0
starts_of c n (Did act ∷ log) = start_more c n act (starts_of c n log)
starts_of c n (_ ∷ log) = starts_of c n log

abbrev pub commit_more : ℕ → ℕ → Act → Bool → Bool
commit_more c n (Records k (Commit txn attempt reply changes values rows) sends) x = ((k == c) && (n == txn.0)) || x
commit_more c n _ x = x

abbrev pub is_committed : ℕ → ℕ → Log → Bool
is_committed c n [] = false
is_committed c n (Did act ∷ log) = commit_more c n act (is_committed c n log)
is_committed c n (_ ∷ log) = is_committed c n log

-- how a submitted transaction stands in the queue: not where it is committed
abbrev pub queued : ℕ → Log → ℕ × Txn → Option Queued
queued c log x = if is_committed c x.0 log then None else Some (record { number = x.0; text = x.1; tries = starts_of c x.0 log })

-- the active attempt is that of the queue's head, and the last one that was started
abbrev pub IsServed : Option Attempt → List Queued → Type 0
IsServed None qs = Unit {0}
IsServed (Some a) [] = ⊥
IsServed (Some a) (q ∷ qs) = (q.number ≡ a.txn) × (q.text ≡ a.text) × (q.tries ≡ a.attempt) × (0 < a.attempt)

-- the timestamps of the Starts, newest first
abbrev pub stamp_of : Act → List ℕ
stamp_of (Records k (Start txn attempt class ts p2 uses) sends) = ts.0 ∷ []
stamp_of _ = []

abbrev pub stamps : Log → List ℕ
stamps [] = []
stamps (Did act ∷ log) = stamp_of act ++ stamps log
stamps (_ ∷ log) = stamps log

-- the times that NULLs and HELDs promised, and the times of P2, newest first

abbrev pub time_if_some : Option Ts → List ℕ
time_if_some None = []
time_if_some (Some t) = t.0 ∷ []

abbrev pub promise_of : Act → List ℕ
promise_of (Records k (Start txn attempt class ts p2 uses) sends) = time_if_some p2
promise_of (Sends to (Null class time) hand) = time.0 ∷ []
promise_of (Sends to (Held time) hand) = time.0 ∷ []
promise_of _ = []

abbrev pub promises : Log → List ℕ
promises [] = []
promises (Did act ∷ log) = promise_of act ++ promises log
promises (_ ∷ log) = promises log
