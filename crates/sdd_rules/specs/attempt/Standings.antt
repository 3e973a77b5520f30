-- How a site that makes attempts has a transaction.
use Rattle.std.specs.Prelude.{ℕ, suc, min, fold, ◌==◌, not, if◌then◌else◌, List, [], ◌∷◌, filter, position, Option, Some, None}
use Rattle.sdd_module.specs.All.{D, Site, U, class_no, dm_no, time_at}
use Rattle.sdd_rules.specs.attempt.Attempts.{Attempt}
use Rattle.sdd_rules.specs.attempt.Exchange.{Exchange}
use Rattle.sdd_rules.specs.attempt.Line.{Line}
use Rattle.sdd_rules.specs.attempt.Queues as queues
use Rattle.sdd_rules.specs.declared.standing.Standing.{Standing}
use Rattle.sdd_rules.specs.declared.standing.Standing.TheVariants.{Absent, Queued, Underway}

-- the lowest number of a list

abbrev pub lower : Option ℕ → ℕ → Option ℕ
lower None n = Some n
lower (Some least) n = Some (min least n)

abbrev pub lowest : List ℕ → Option ℕ
lowest ns = fold lower None ns

-- a transaction in the line of a class

-- the transactions that wait, without the one of the active attempt
abbrev pub waiting : Option Attempt → List queues.Queued → List queues.Queued
waiting None queue = queue
waiting (Some a) queue = filter (λ q. not (q.number == a.txn)) queue

abbrev pub queued_at : ℕ → Option ℕ → Standing
queued_at c None = Absent
queued_at c (Some place) = Queued (class_no c) (suc place)

-- An attempt that has all its answers ends within the call in which the last one came.
abbrev pub site_of : Option ℕ → Site
site_of None = U
site_of (Some d) = D (dm_no d)

-- the attempt of class c with this timestamp is under way
abbrev pub underway : ℕ → ℕ → Exchange → Standing
underway c ts x = Underway (class_no c) (Some (time_at ts)) (site_of (lowest x.lacks))

-- the place among those that wait is counted from 1
abbrev pub standing_by : ℕ → List queues.Queued → Option Attempt → ℕ → Standing
standing_by c queue None n = queued_at c (position (λ q. q.number == n) queue)
standing_by c queue (Some a) n =
    if a.txn == n then underway c a.ts a.exchange
    else queued_at c (position (λ q. q.number == n) (waiting (Some a) queue))

abbrev pub standing_of : Line → ℕ → Standing
standing_of l n = standing_by l.class l.queue l.active n

-- by its place in the queue, from 0, where the active attempt is of the first
abbrev pub standing_at : ℕ → Option Attempt → ℕ → Standing
standing_at c None place = Queued (class_no c) (suc place)
standing_at c (Some a) place = if place == 0 then underway c a.ts a.exchange else Queued (class_no c) place

-- in several lines: in the first that has it
abbrev pub or_standing : Standing → Standing → Standing
or_standing Absent next = next
or_standing x next = x

abbrev pub standing_among : List Line → ℕ → Standing
standing_among [] n = Absent
standing_among (l ∷ rest) n = or_standing (standing_of l n) (standing_among rest n)
