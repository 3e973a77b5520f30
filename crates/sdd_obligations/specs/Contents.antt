-- What the questions of an exchange and the answers to them contain.
use Rattle.std.specs.Prelude.{ℕ, ◌==◌, ◌≡◌, Bool, true, false, if◌then◌else◌, List, [], ◌∷◌, Option, Some, None}
use Rattle.std.specs.List.{AllByRecursion}
use Rattle.sdd_invariants.specs.All.{Exchange, Fetch, Fetching, Msg, Over, Phase, Reading, Reduce, Reducing, Rows, Setting, Ship, Shipping, Value, Values, class_no, frozen, time_at}
use Rattle.sdd_invariants.specs.site_module.SiteLog.{Log}
use Rattle.sdd_laws.specs.All.{Frozen, all_rows, rows_of, values_in}
use Rattle.sdd_obligations.specs.Turns.{Asks, Turn, is_a_read}

-- the question of a phase, where these values came
abbrev pub question : ℕ → ℕ → Phase → List Value → Msg
question ts c Reading union = Ship (time_at ts) (class_no c)
question ts c (Fetching m) union = Fetch (time_at ts) (class_no c) m.source.part m.source.column
question ts c (Reducing m) union = Reduce (time_at ts) (class_no c) m.target.part m.target.column union
question ts c Shipping union = Ship (time_at ts) (class_no c)
question ts c Over union = Ship (time_at ts) (class_no c)

abbrev pub question_of : ℕ → ℕ → Exchange → Msg
question_of ts c x = question ts c x.phase x.union

-- what is still to be sent, and what was asked of a module and has no answer, is the question of the phase, but for READs
pub record AsksPhase (ts c : ℕ) (x : Exchange) (turns : ℕ → Turn) : Type 0 where
  pub sends : AllByRecursion (λ (p : ℕ × Msg). p.1 ≡ question_of ts c x) x.to_send
  pub asked : (d : ℕ) (ns : List ℕ) (q : Msg) → turns d ≡ Asks ns q → is_a_read q ≡ false → q ≡ question_of ts c x

-- of two lots of rows the first, where it is for the attempt with this timestamp
abbrev pub held_for : ℕ → Option Frozen → Option Frozen → Option Frozen
held_for ts None older = older
held_for ts (Some f) older = if f.ts == ts then Some f else older

-- the rows that a data module held last for the attempt of class c with this timestamp, also once it gave them up
abbrev pub kept : Setting → ℕ → ℕ → Log → Option Frozen
kept s c ts [] = None
kept s c ts (e ∷ log) = held_for ts (frozen s c (e ∷ log)) (kept s c ts log)

-- what the answer to a question tells of the rows that a module holds: VALUES those of a column, ROWS all
abbrev pub Tells : Msg → Msg → Frozen → Type 0
Tells (Fetch t k u col) m f = m ≡ Values t k u (values_in (rows_of u f) col)
Tells (Ship t k) m f = m ≡ Rows t k (all_rows f)
Tells _ m f = Unit {0}

-- whether rows are shipped, or all have come
abbrev pub is_shipped : Phase → Bool
is_shipped Shipping = true
is_shipped Over = true
is_shipped _ = false
