-- A READ that waits began to by a Wait, since when nothing of its pipe was processed.
use Rattle.std.proofs.Common.{arith}
use Rattle.sdd_progress.proofs.AllWaits.{Act, Bool, Change, ClassNo, ClassView, Cond, Did, Each, Handed, Home, IsClassHere, IsDue, IsDueEach, IsWaitOf, List, Msg, None, Open, Option, Pipe, Processes, Read, Rec, Records, Sends, Setting, Site, Some, Ts, TxnNo, Use, View, WaitsSince, Write, [], act_by, act_where, answer_of, answer_to, ap, by_head, by_open, class_at_place, false, filter, head, head_of, home_of, if◌then◌else◌, inr, is_asked_of, is_processing, is_wait, judged, lacking, list_all, not_both, not_own, pipe, processed_handed, refl, same_number, same_or_not, spoiler, step_on, sym, true, view_of, waits, ℕ, ◌||◌, ◌∙◌, ◌∷◌, ◌≡◌}
use Rattle.sdd_obligations.specs.site_module.SiteLog.{Entry, Log}

-- what is due and records a Wait is that of a head

records_wait : Act → Bool
records_wait (Records k r sends) = is_wait r
records_wait (Sends to m hand) = false

not_a_wait : {A : Type 0} (x a : Act) → Some x ≡ Some a → records_wait x ≡ false → records_wait a ≡ true → A
unfolding records_wait
not_a_wait x a e f g = let p : x ≡ a = cc in absurd (not_both (records_wait a) g (ap records_wait (sym p) ∙ f))

open_not : {A : Type 0} (h : Home) (k : ClassView) (o : Open) (m : Msg) (a : Act) → answer_to h k o m ≡ Some a → records_wait a ≡ true → A
unfolding records_wait
open_not h k o m a e w = grind (arith, not_a_wait)

asked_not : {A : Type 0} (h : Home) (k : ClassView) (o : Option Open) (a : Act) → answer_of h k o ≡ Some a → records_wait a ≡ true → A
asked_not h k None a e w = cc
asked_not h k (Some o) a e w = open_not h k o o.msg a e w

judged_wait : (s : Setting) (log : Log) (c : ℕ) (ts : Ts) (of : ClassNo) (txn : TxnNo) (attempt : ℕ) (conds : List Cond) (uses : List Use)
    (ds : List Cond) (by : Option Cond) (a : Act)
    → IsClassHere s c → waits c log ≡ false → head (pipe c log) ≡ Some (Read ts of txn attempt conds uses)
    → lacking (view_of s log) conds ≡ ds → spoiler (view_of s log) conds ≡ by
    → Some (act_by (home_of s) (view_of s log) c (Read ts of txn attempt conds uses) (judged (view_of s log) ds by)) ≡ Some a
    → records_wait a ≡ true → IsWaitOf s log c a
unfolding records_wait
judged_wait s log c ts of txn attempt conds uses ds by a l n h p q e w = grind (arith, not_a_wait)

write_not : {A : Type 0} (h : Home) (v : View) (c : ℕ) (ts : Ts) (of : ClassNo) (txn : TxnNo) (changes : List Change) (held : Bool) (a : Act)
    → act_where h v c (Some (Write ts of txn changes)) (if held then None else Some Processes) ≡ Some a → records_wait a ≡ true → A
unfolding records_wait
write_not h v c ts of txn changes held a e w = grind (arith, not_a_wait)

waited_not : {A : Type 0} (h : Home) (v : View) (c : ℕ) (ts : Ts) (of : ClassNo) (txn : TxnNo) (attempt : ℕ) (conds : List Cond) (uses : List Use)
    (met : Bool) (a : Act)
    → act_where h v c (Some (Read ts of txn attempt conds uses)) (if met then Some Processes else None) ≡ Some a → records_wait a ≡ true → A
unfolding records_wait
waited_not h v c ts of txn attempt conds uses met a e w = grind (arith, not_a_wait)

head_wait : (s : Setting) (log : Log) (c : ℕ) (b : Bool) (m : Msg) (a : Act) → IsClassHere s c → waits c log ≡ b → head (pipe c log) ≡ Some m
    → act_where (home_of s) (view_of s log) c (Some m) (step_on (view_of s log) c b (Some m)) ≡ Some a → records_wait a ≡ true → IsWaitOf s log c a
unfolding records_wait
head_wait s log c b m a l n h e w = grind (arith, not_a_wait, write_not, waited_not, list_all, judged_wait)

-- of some class
due_wait : (s : Setting) (log : Log) (a : Act) → IsDue (home_of s) (view_of s log) a → records_wait a ≡ true → (c : ℕ) × IsWaitOf s log c a
due_wait s log a (by_open n k p e) w = asked_not (home_of s) k (head_of (filter (is_asked_of k.class) (view_of s log).opens)) a e w
due_wait s log a (by_head n k p e) w = grind (arith, class_at_place, head_wait)

class_recorded : Act → ℕ
class_recorded (Records k r sends) = k
class_recorded (Sends to m hand) = 0

pub wait_due : (s : Setting) (log : Log) (k : ℕ) (r : Rec) (sends : List (Site × Msg))
    → IsDue (home_of s) (view_of s log) (Records k r sends) → is_wait r ≡ true → IsWaitOf s log k (Records k r sends)
unfolding records_wait class_recorded
wait_due s log k r sends d w = grind (arith, due_wait, class_recorded)

-- since then the pipe's head is the same

since_on : (s : Setting) (c : ℕ) (e : Entry) (log : Log) → (pipe c (e ∷ log)).processed ≡ (pipe c log).processed
    → ((m : Msg) → head (pipe c log) ≡ Some m → head (pipe c (e ∷ log)) ≡ head (pipe c log)) → WaitsSince s c log → WaitsSince s c (e ∷ log)
since_on s c e log p q i =
    let h : head (pipe c log) ≡ Some (Read i.wait.ts i.wait.of i.wait.txn i.wait.attempt i.wait.conds i.wait.uses) = i.same_head ∙ i.wait.head_is in
    record { later = e ∷ i.later; act = i.act; before = i.before; is = ap (λ l. e ∷ l) i.is; wait = i.wait; same_processed = p ∙ i.same_processed; same_head = q _ h ∙ i.same_head }

own_on : (s : Setting) (c : ℕ) (r : Rec) (sends : List (Site × Msg)) (log : Log) (x y : Bool) → is_processing r ≡ x
    → is_wait r ≡ y → IsDue (home_of s) (view_of s log) (Records c r sends)
    → (if x then false else (y || waits c log)) ≡ true → (waits c log ≡ true → WaitsSince s c log) → WaitsSince s c (Did (Records c r sends) ∷ log)
own_on s c r sends log true y p q d w i = cc
own_on s c r sends log false true p q d w i =
    let same : pipe c (Did (Records c r sends) ∷ log) ≡ pipe c log = (not_own c c r sends log (inr p)).pipe_same in
    record { later = []; act = Records c r sends; before = log; is = refl; wait = wait_due s log c r sends d q; same_processed = ap (λ (p : Pipe). p.processed) same; same_head = ap (λ (p : Pipe). head p) same }
own_on s c r sends log false false p q d w i = (grind (arith, not_own, since_on))

by_class : (s : Setting) (c k : ℕ) (r : Rec) (sends : List (Site × Msg)) (log : Log)
    → IsDue (home_of s) (view_of s log) (Records k r sends) → (waits c log ≡ true → WaitsSince s c log)
    → waits c (Did (Records k r sends) ∷ log) ≡ true → WaitsSince s c (Did (Records k r sends) ∷ log)
by_class s c k r sends log d i w = grind (arith, same_or_not, same_number, own_on, not_own, since_on)

pub since : (s : Setting) (c : ℕ) (log : Log) → Each (IsDueEach s) log → waits c log ≡ true → WaitsSince s c log
since s c [] h w = cc
since s c (Handed from m ∷ log) h w =
    since_on s c (Handed from m) log (processed_handed c from m log) (λ x e. (grind (arith))) (since s c log h.1 w)
since s c (Did (Records k r sends) ∷ log) h w = by_class s c k r sends log h.0 (λ z. since s c log h.1 z) w
since s c (y ∷ log) h w = since_on s c y log refl (λ x e. refl) (since s c log h.1 w)
