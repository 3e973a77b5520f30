-- What is due at a transaction module. First, by class, what an active attempt makes due; then, by class, a NULL for an
-- ASK; then a HELD; then, by class, a Start.
use Rattle.std.specs.Prelude.{ℕ, nat_le, nat_lt, ◌≡◌, ◌==◌, not, ◌&&◌, if◌then◌else◌, slice_get, Option, Some, None}
use Rattle.std.specs.List.{list_all}
use Rattle.sdd_module.specs.All.{Act, Bases, Catalogue, Held, Log, Null, Sends, Setting, U, bound_of, class_no, first_some, head_of, or_else, time_at}
use Rattle.sdd_rules.specs.attempt.Attempts.{Attempt}
use Rattle.sdd_rules.specs.attempt.Queues.{Queued}
use Rattle.sdd_rules.specs.attempt.Acts.{attempt_due, start_act}
use Rattle.sdd_rules.specs.tm.Views.{Question, ClassView, View, view_of, on_hold, is_idle}

-- the next message of an exchange, or a Commit
abbrev pub exchange_due : Catalogue → Bases → ClassView → Option Act
exchange_due cat bases k = attempt_due cat bases k.class k.active

-- the time of the NULL that answers an ASK for time t: of an idle class the clock's bound, else the active timestamp,
-- once that is at t or later
abbrev pub null_time : View → Option Attempt → ℕ → Option ℕ
null_time v None t = Some (bound_of v.clock)
null_time v (Some a) t = if nat_le t a.ts then Some a.ts else None

abbrev pub null_at : Question → Option ℕ → Option Act
null_at q None = None
null_at q (Some t) = Some (Sends q.from (Null (class_no q.class) (time_at t)) (Some q.hand))

abbrev pub null_to : View → ClassView → Question → Option Act
null_to v k q = if q.class == k.class then null_at q (null_time v k.active q.time) else None

-- the first ASK of the class that can be answered
abbrev pub null_due : View → ClassView → Option Act
null_due v k = first_some (null_to v k) v.asks

-- on hold, once all classes are idle, each HOLD is answered by one HELD
abbrev pub held_due : View → Option Act
held_due v =
    if on_hold v && (list_all is_idle v.classes && nat_lt v.holds.helds v.holds.holds)
    then Some (Sends U (Held (time_at (bound_of v.clock))) (Some v.holds.last)) else None

abbrev pub start_of : Catalogue → View → ℕ → Option Queued → Option Act
start_of cat v c None = None
start_of cat v c (Some q) = Some (start_act cat v.era.table c v.clock q)

-- off hold an idle class starts the first transaction of its queue
abbrev pub start_due : Catalogue → View → ClassView → Option Act
start_due cat v k = if not (on_hold v) && is_idle k then start_of cat v k.class (head_of k.queue) else None

-- the table

-- of four ranks the first that has something due
abbrev pub by_rank : {A : Type 0} → Option A → Option A → Option A → Option A → Option A
by_rank exchanges nulls held starts = or_else exchanges (or_else nulls (or_else held starts))

abbrev pub due : Catalogue → Bases → View → Option Act
due cat bases v =
    by_rank (first_some (exchange_due cat bases) v.classes) (first_some (null_due v) v.classes)
    (held_due v) (first_some (start_due cat v) v.classes)

abbrev pub next : Setting → Bases → Log → Option Act
next s bases log = due s.catalogue bases (view_of s log)

-- due, of whatever rank and class: for logs whose entries come in any order
pub data IsDue (cat : Catalogue) (bases : Bases) (v : View) : Act → Type 0 where
  by_exchange : {a : Act} (n : ℕ) (k : ClassView) → slice_get v.classes n ≡ Some k → exchange_due cat bases k ≡ Some a → IsDue cat bases v a
  by_ask : {a : Act} (n m : ℕ) (k : ClassView) (q : Question) → slice_get v.classes n ≡ Some k → slice_get v.asks m ≡ Some q → null_to v k q ≡ Some a → IsDue cat bases v a
  by_hold : {a : Act} → held_due v ≡ Some a → IsDue cat bases v a
  by_start : {a : Act} (n : ℕ) (k : ClassView) → slice_get v.classes n ≡ Some k → start_due cat v k ≡ Some a → IsDue cat bases v a
