-- What the module keeps of the log after each act: that of one class changes, as its step says.
use Rattle.sdd_tm.proofs.All.{Act, Asked, Attempt, ClassState, D, Did, HoldCounts, IsApart, IsRequest, List, Log, Msg, None, Null, Option, Question, Queued, Rec, Records, Sends, Setting, Site, Some, State, Ticking, [], active, active_after, active_apart, active_sent, ap, arith, asks, asks_acted, asks_apart, asks_of, asks_rows, can_answer, class_no, class_of, class_view, clock, dm_no, false, filter, holds, holds_acted, line_after, map_is_set, not, queue, queue_after, queue_apart, refl, rules, runs, sent_apart, slice_get, slice_set, state_of, sym, ticked_by, time_at, true, view_of, without_first, ℕ, ◌∙◌, ◌∷◌, ◌≡◌, ◌≢◌}
use Rattle.sdd_tm.proofs.ClassNumbers.{runs_apart}
use Rattle.sdd_tm.proofs.OpenAsks.{IsFirst}

-- the other classes are kept as they were
abbrev pub OthersStay : Setting → Log → Act → ℕ → Type 0
OthersStay s log act place = (i c : ℕ) → slice_get (runs s) i ≡ Some c → i ≢ place → class_of s (Did act ∷ log) c ≡ class_of s log c

abbrev with_class : ℕ → Ticking → ClassState → State → State
with_class place clock new state = record state { clock = clock; classes = slice_set state.classes place new }

state_did : (s : Setting) (log : Log) (act : Act) (place c : ℕ) → slice_get (runs s) place ≡ Some c
    → holds_acted act (holds log) ≡ holds log → OthersStay s log act place → state_of s (Did act ∷ log) ≡ with_class place (ticked_by act (clock s.site log))
    (class_of s (Did act ∷ log) c) (state_of s log)
state_did s log act place c e same others = search (rules, map_is_set)

-- a class after an act, by its parts
abbrev class_by : Setting → ℕ → List Queued → Option Attempt → List Asked → ClassState
class_by s c queue active asks = record { line = record { catalogue = s.catalogue; class = c; queue = queue; active = active }; asks = asks }

class_stays : (s : Setting) (log : Log) (act : Act) (c : ℕ) → queue_after c act (queue s c log) ≡ queue s c log
    → active_after c act (queue s c log) (active s c log) ≡ active s c log
    → asks_of c (asks_acted act (asks log)) ≡ asks_of c (asks log) → class_of s (Did act ∷ log) c ≡ class_of s log c
class_stays s log act c e f g = cc

-- a message that answers no hand leaves the ASKs

all_there : (qs : List Question) → filter (λ (q : Question). not false) qs ≡ qs
all_there [] = refl
all_there (q ∷ qs) = ap (λ rest. q ∷ rest) (all_there qs)

pub no_held : (ts c : ℕ) (to : Site) (m : Msg) (h : HoldCounts) → asks_rows ts c m ≡ true → holds_acted (Sends to m None) h ≡ h
no_held ts c to m h e = grind arith

-- the next message of an exchange

request_others : (s : Setting) (log : Log) (ts place c : ℕ) (to : Site) (m : Msg)
    → slice_get (runs s) place ≡ Some c → asks_rows ts c m ≡ true → OthersStay s log (Sends to m None) place
request_others s log ts place c to m e asks_for i d f apart =
    class_stays s log (Sends to m None) d refl
    (sent_apart d m (active s d log) (asks_apart ts c d m asks_for (runs_apart s place i c d e f (λ q. apart (sym q)))))
    (ap (asks_of d) (all_there (asks log)))

pub after_request : (s : Setting) (log : Log) (place c : ℕ) (a : Attempt) (act : Act) → slice_get (runs s) place ≡ Some c → IsRequest c a act
    → state_of s (Did act ∷ log) ≡ with_class place (clock s.site log)
    (record { line = line_after act (class_of s log c).line; asks = asks_of c (asks log) }) (state_of s log)
after_request s log place c a act e is =
    let to : Site = D (dm_no is.to) in
    rw is.act_is
    (state_did s log (Sends to is.msg None) place c e (no_held a.ts c to is.msg (holds log) is.asks)
    (request_others s log a.ts place c to is.msg e is.asks)
    ∙ ap (λ k. with_class place (clock s.site log) k (state_of s log))
    (ap (λ qs. class_by s c (queue s c log) (active_sent c is.msg (active s c log)) (asks_of c qs)) (all_there (asks log))))

-- a record

records_others : (s : Setting) (log : Log) (place c : ℕ) (r : Rec) (sends : List (Site × Msg))
    → slice_get (runs s) place ≡ Some c → OthersStay s log (Records c r sends) place
records_others s log place c r sends e i d f apart = grind (arith, runs_apart, class_stays, queue_apart, active_apart)

pub after_record : (s : Setting) (log : Log) (place c : ℕ) (r : Rec) (sends : List (Site × Msg))
    → slice_get (runs s) place ≡ Some c → state_of s (Did (Records c r sends) ∷ log)
    ≡ with_class place (ticked_by (Records c r sends) (clock s.site log))
    (record { line = line_after (Records c r sends) (class_of s log c).line; asks = asks_of c (asks log) }) (state_of s log)
after_record s log place c r sends e = state_did s log (Records c r sends) place c e refl (records_others s log place c r sends e)

-- a NULL

pub null_apart : (c d : ℕ) (time : ℕ) → IsApart d (Null (class_no c) (time_at time))
null_apart c d time = record { reads = λ ts. refl; asks = λ ts. refl }

pub after_null : (s : Setting) (log : Log) (place c : ℕ) → slice_get (runs s) place ≡ Some c
    → (first : IsFirst (view_of s log) (class_view s log c) 0 (asks log)) → (time : ℕ)
    → state_of s (Did (Sends first.question.from (Null (class_no c) (time_at time)) (Some first.question.hand)) ∷ log)
    ≡ with_class place (clock s.site log)
    (record {
      line = line_after (Sends first.question.from (Null (class_no c) (time_at time)) None) (class_of s log c).line;
      asks = without_first (can_answer (active s c log)) (asks_of c (asks log));
    }) (state_of s log)
after_null s log place c e first time =
    let m : Msg = Null (class_no c) (time_at time) in
    let act : Act = Sends first.question.from m (Some first.question.hand) in
    state_did s log act place c e refl
    (grind (arith, class_stays, sent_apart, active, null_apart, runs_apart))
    ∙ ap (λ qs. with_class place (clock s.site log) (class_by s c (queue s c log) (active_sent c m (active s c log))
    qs) (state_of s log)) first.gone
