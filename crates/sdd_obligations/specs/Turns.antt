-- The exchange of an attempt with a data module goes by turns: the site that makes the attempt asks, by READ, FETCH, REDUCE
-- or SHIP, and the module answers, by READY or REJECT, VALUES, REDUCED or ROWS, before the next question. An attempt is known
-- by its timestamp and its class.
use Rattle.std.specs.List.{list_any}
use Rattle.std.specs.Prelude.{ℕ, ◌&&◌, ◌==◌, ◌∷◌, ◌≡◌, Bool, List, None, Option, Some, [], false, filter, if◌then◌else◌, map, not, true}
use Rattle.sdd_invariants.specs.All.{D, Fetch, Msg, Read, Ready, Reduce, Reduced, Reject, Rows, Ship, Site, Values, asks_rows, contains, dm_no, handed_by, is_read, put_by}
use Rattle.sdd_invariants.specs.site_module.SiteLog.{Log}

-- a question and an answer of the attempt of class c with timestamp ts

abbrev pub is_question : ℕ → ℕ → Msg → Bool
is_question ts c (Read t k txn attempt conds uses) = (t.0 == ts) && (k.0 == c)
is_question ts c (Fetch t k u col) = (t.0 == ts) && (k.0 == c)
is_question ts c (Reduce t k u col values) = (t.0 == ts) && (k.0 == c)
is_question ts c (Ship t k) = (t.0 == ts) && (k.0 == c)
is_question ts c _ = false

abbrev pub is_answer : ℕ → ℕ → Msg → Bool
is_answer ts c (Ready t k counts) = (t.0 == ts) && (k.0 == c)
is_answer ts c (Reject t k by write) = (t.0 == ts) && (k.0 == c)
is_answer ts c (Values t k u values) = (t.0 == ts) && (k.0 == c)
is_answer ts c (Reduced t k u n) = (t.0 == ts) && (k.0 == c)
is_answer ts c (Rows t k rows) = (t.0 == ts) && (k.0 == c)
is_answer ts c _ = false

abbrev pub questions : ℕ → ℕ → List Msg → List Msg
questions ts c ms = filter (is_question ts c) ms

abbrev pub answers : ℕ → ℕ → List Msg → List Msg
answers ts c ms = filter (is_answer ts c) ms

-- kinds of messages

abbrev pub is_a_read : Msg → Bool
is_a_read (Read t k txn attempt conds uses) = true
is_a_read _ = false

abbrev pub is_a_ship : Msg → Bool
is_a_ship (Ship t k) = true
is_a_ship _ = false

abbrev pub is_a_refusal : Msg → Bool
is_a_refusal (Reject t k by write) = true
is_a_refusal _ = false

-- Whose turn it is. Nothing was asked; the site asked, and has no answer; the last question is answered; or the READ is
-- rejected. With a question come the numbers of the READ's uses.
pub data Turn : Type 0 where
  Silent : Turn
  Asks : List ℕ → Msg → Turn
  Replied : List ℕ → Msg → Turn
  Refused : Turn

abbrev pub uses_in : Turn → List ℕ
uses_in Silent = []
uses_in (Asks ns m) = ns
uses_in (Replied ns m) = ns
uses_in Refused = []

abbrev pub uses_by : Msg → List ℕ → List ℕ
uses_by (Read t k txn attempt conds uses) ns = map (λ u. u.number) uses
uses_by _ ns = ns

-- the turn once this question is put, and once this answer is

abbrev pub turn_after_question : Msg → Turn → Turn
turn_after_question m v = Asks (uses_by m (uses_in v)) m

abbrev pub turn_after_answer : Msg → Turn → Turn
turn_after_answer x (Asks ns m) = if is_a_refusal x then Refused else Replied ns m
turn_after_answer x v = v

-- The question that may come next: first a READ, then FETCHes and REDUCEs of its uses, at last a SHIP.

abbrev pub IsOfUses : List ℕ → Msg → Type 0
IsOfUses ns (Fetch t k u col) = contains ns u ≡ true
IsOfUses ns (Reduce t k u col values) = contains ns u ≡ true
IsOfUses ns (Ship t k) = Unit {0}
IsOfUses ns _ = ⊥

abbrev pub MayAsk : Turn → Msg → Type 0
MayAsk Silent m = is_a_read m ≡ true
MayAsk (Asks ns q) m = ⊥
MayAsk (Replied ns q) m = (is_a_ship q ≡ false) × IsOfUses ns m
MayAsk Refused m = ⊥

-- The answer that may come next. READY answers a READ with one count for each of its uses, in order; VALUES and REDUCED are
-- of the use that was asked for; ROWS are of uses of the READ alone.

abbrev pub RepliesToRead : List ℕ → Msg → Type 0
RepliesToRead ns (Ready t k counts) = map (λ n. n.0) counts ≡ ns
RepliesToRead ns (Reject t k by write) = Unit {0}
RepliesToRead ns _ = ⊥

abbrev pub RepliesToFetch : ℕ → Msg → Type 0
RepliesToFetch u (Values t k w values) = w ≡ u
RepliesToFetch u _ = ⊥

abbrev pub RepliesToReduce : ℕ → Msg → Type 0
RepliesToReduce u (Reduced t k w n) = w ≡ u
RepliesToReduce u _ = ⊥

abbrev pub RepliesToShip : List ℕ → Msg → Type 0
RepliesToShip ns (Rows t k rows) = list_any (λ r. not (contains ns r.0)) rows ≡ false
RepliesToShip ns _ = ⊥

abbrev pub Replies : List ℕ → Msg → Msg → Type 0
Replies ns (Read t k txn attempt conds uses) x = RepliesToRead ns x
Replies ns (Fetch t k u col) x = RepliesToFetch u x
Replies ns (Reduce t k u col values) x = RepliesToReduce u x
Replies ns (Ship t k) x = RepliesToShip ns x
Replies ns _ x = ⊥

abbrev pub MayAnswer : Turn → Msg → Type 0
MayAnswer Silent x = ⊥
MayAnswer (Asks ns m) x = Replies ns m x
MayAnswer (Replied ns m) x = ⊥
MayAnswer Refused x = ⊥

-- the turn once these messages are put

abbrev pub asked_by : List Msg → Turn → Turn
asked_by [] v = v
asked_by (m ∷ ms) v = asked_by ms (turn_after_question m v)

abbrev pub turn_after_answers : List Msg → Turn → Turn
turn_after_answers [] v = v
turn_after_answers (x ∷ xs) v = turn_after_answers xs (turn_after_answer x v)

-- By the log of the site that asks: what it puts on its link to data module d, and what is handed to it from there.
abbrev pub turn_at : ℕ → ℕ → ℕ → Log → Turn
turn_at ts c d [] = Silent
turn_at ts c d (e ∷ log) =
    turn_after_answers (answers ts c (handed_by (D (dm_no d)) (Some e))) (asked_by (questions ts c (put_by (D (dm_no d)) (Some e))) (turn_at ts c d log))

-- By the log of the data module: what is handed to it from site at, and what it puts on its link to there.
abbrev pub turn_with : ℕ → ℕ → Site → Log → Turn
turn_with ts c at [] = Silent
turn_with ts c at (e ∷ log) =
    turn_after_answers (answers ts c (put_by at (Some e))) (asked_by (questions ts c (handed_by at (Some e))) (turn_with ts c at log))

-- a FETCH, REDUCE or SHIP is put that has no answer
abbrev pub is_exchanging : Turn → Bool
is_exchanging Silent = false
is_exchanging (Asks ns m) = not (is_a_read m)
is_exchanging (Replied ns m) = false
is_exchanging Refused = false

-- while rows are held for the attempt: the numbers of their uses
abbrev pub uses_held : Turn → Option (List ℕ)
uses_held Silent = None
uses_held (Asks ns m) = if is_a_read m then None else Some ns
uses_held (Replied ns m) = if is_a_ship m then None else Some ns
uses_held Refused = None

-- the question that a data module has still to answer: of rows, or a READ

abbrev pub rows_asked : ℕ → ℕ → Turn → List Msg
rows_asked ts c Silent = []
rows_asked ts c (Asks ns m) = if asks_rows ts c m then m ∷ [] else []
rows_asked ts c (Replied ns m) = []
rows_asked ts c Refused = []

abbrev pub reads_asked : ℕ → ℕ → Turn → List Msg
reads_asked ts c Silent = []
reads_asked ts c (Asks ns m) = if is_read ts c m then m ∷ [] else []
reads_asked ts c (Replied ns m) = []
reads_asked ts c Refused = []
