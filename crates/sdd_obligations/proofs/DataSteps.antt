-- What a data module does, act by act, with all that it sends.
use Rattle.sdd_obligations.proofs.All.{Act, Answer, Apply, Arrive, Bool, Change, ClassNo, Cond, Done, Fetch, Frozen, IsClassHere, IsDue, List, Msg, None, Null, Open, Option, Pass, Processes, Read, Ready, Records, Reduce, Reduced, Reject, Rejected, Rows, Sends, Setting, Ship, Some, Ts, TxnNo, Use, Values, Wait, Write, [], act_by, act_where, all_held, answer_of, answer_to, ap, arith, ask_for, by_head, by_open, class_at_place, class_view, copies, counts_of, dated_in, done_for, false, filter, frozen, frozen_for, head, head_due, head_of, home_of, if◌then◌else◌, is_asked_of, is_held, is_met, judged, length, list_all, map, open_due, opens, pipe, refl, rows_held, source_of, step_on, subst, sym, true, values_in, view_of, waits, ℕ, ◌∷◌, ◌≡◌}
use Rattle.sdd_invariants.specs.site_module.SiteLog.{Log}

-- what answers a FETCH, REDUCE or SHIP, where these rows are held
abbrev pub reply : Option Frozen → Msg → Option Msg
reply f (Fetch ts class u col) = Some (Values ts class u (values_in (rows_held u f) col))
reply f (Reduce ts class u col values) = Some (Reduced ts class u (length (rows_held u f)))
reply f (Ship ts class) = Some (Rows ts class (all_held f))
reply f _ = None

-- the counts that a READY tells
abbrev pub ready_counts : Setting → Log → ℕ → List Use → List (ℕ × ℕ)
ready_counts s log ts uses = counts_of (frozen_for (copies (dated_in (view_of s log))) ts uses)

pub data IsDataStep (s : Setting) (log : Log) (act : Act) : Type 0 where
  arrives : (k : ℕ) (txn : TxnNo) (attempt : ℕ) → act ≡ Records k (Arrive txn attempt (home_of s).dm) [] → IsDataStep s log act
  replies : (k : ℕ) (o : Open) (m : Msg) → head_of (filter (is_asked_of k) (opens log)) ≡ Some o → reply (frozen s k log) o.msg ≡ Some m
      → act ≡ Sends o.from m (Some o.hand) → IsDataStep s log act
  answers_read : (c : ℕ) (ts : Ts) (k : ClassNo) (txn : TxnNo) (attempt : ℕ) (conds : List Cond) (uses : List Use) → IsClassHere s c
      → head (pipe c log) ≡ Some (Read ts k txn attempt conds uses)
      → act ≡ Records c (Answer txn attempt (home_of s).dm) ((source_of (home_of s) c, Ready ts k (ready_counts s log ts.0 uses)) ∷ []) → IsDataStep s log act
  refuses_read : (c : ℕ) (ts : Ts) (k : ClassNo) (txn : TxnNo) (attempt : ℕ) (conds : List Cond) (uses : List Use) (by : ClassNo) (write : Ts)
      → IsClassHere s c → head (pipe c log) ≡ Some (Read ts k txn attempt conds uses)
      → act ≡ Records c (Rejected txn attempt (home_of s).dm by write) ((source_of (home_of s) c, Reject ts k by write) ∷ []) → IsDataStep s log act
  waits_for : (c : ℕ) (txn : TxnNo) (attempt : ℕ) (ds : List Cond) → act ≡ Records c (Wait txn attempt (home_of s).dm ds) (map (ask_for (home_of s)) ds)
      → IsDataStep s log act
  applies : (c : ℕ) (ts : Ts) (k : ClassNo) (txn : TxnNo) (changes : List Change) → head (pipe c log) ≡ Some (Write ts k txn changes)
      → act ≡ Records c (Apply txn k (home_of s).dm ts) (done_for c (Done ts)) → IsDataStep s log act
  passes : (c : ℕ) (k : ClassNo) (time : Ts) → head (pipe c log) ≡ Some (Null k time) → act ≡ Records c (Pass k (home_of s).dm time) [] → IsDataStep s log act

some_act : (s : Setting) (log : Log) (x a : Act) → IsDataStep s log x → Some x ≡ Some a → IsDataStep s log a
some_act s log x a h e = let p : x ≡ a = cc in subst (IsDataStep s log) p h

open_step : (s : Setting) (log : Log) (c : ℕ) (o : Open) (m : Msg) (a : Act) → head_of (filter (is_asked_of c) (opens log)) ≡ Some o
    → o.msg ≡ m → answer_to (home_of s) (class_view s log c) o m ≡ Some a → IsDataStep s log a
open_step s log c o (Read ts class txn attempt conds uses) a h p e = some_act s log _ a (arrives c txn attempt refl) e
open_step s log c o (Fetch ts class u col) a h p e =
    some_act s log _ a (replies c o (Values ts class u (values_in (rows_held u (frozen s c log)) col)) h (ap (reply (frozen s c log)) p) refl) e
open_step s log c o (Reduce ts class u col vs) a h p e =
    some_act s log _ a (replies c o (Reduced ts class u (length (rows_held u (frozen s c log)))) h (ap (reply (frozen s c log)) p) refl) e
open_step s log c o (Ship ts class) a h p e =
    some_act s log _ a (replies c o (Rows ts class (all_held (frozen s c log))) h (ap (reply (frozen s c log)) p) refl) e
open_step s log c o _ a h p e = cc

asked_step : (s : Setting) (log : Log) (c : ℕ) (x : Option Open) (a : Act) → head_of (filter (is_asked_of c) (opens log)) ≡ x
    → answer_of (home_of s) (class_view s log c) x ≡ Some a → IsDataStep s log a
asked_step s log c None a p e = cc
asked_step s log c (Some o) a p e = open_step s log c o o.msg a p refl e

judged_step : (s : Setting) (log : Log) (c : ℕ) (ts : Ts) (k : ClassNo) (txn : TxnNo) (attempt : ℕ)
    (conds : List Cond) (uses : List Use) (lacking : List Cond) (by : Option Cond) (a : Act)
    → IsClassHere s c → head (pipe c log) ≡ Some (Read ts k txn attempt conds uses)
    → Some (act_by (home_of s) (view_of s log) c (Read ts k txn attempt conds uses) (judged (view_of s log) lacking by)) ≡ Some a → IsDataStep s log a
judged_step s log c ts k txn attempt conds uses lacking (Some d) a l h e = some_act s log _ a (refuses_read c ts k txn attempt conds uses _ _ l h refl) e
judged_step s log c ts k txn attempt conds uses [] None a l h e = some_act s log _ a (answers_read c ts k txn attempt conds uses l h refl) e
judged_step s log c ts k txn attempt conds uses (d ∷ ds) None a l h e = some_act s log _ a (waits_for c txn attempt (d ∷ ds) refl) e

write_step : (s : Setting) (log : Log) (c : ℕ) (held : Bool) (ts : Ts) (k : ClassNo) (txn : TxnNo) (changes : List Change) (a : Act)
    → head (pipe c log) ≡ Some (Write ts k txn changes)
    → act_where (home_of s) (view_of s log) c (Some (Write ts k txn changes)) (if held then None else Some Processes) ≡ Some a → IsDataStep s log a
write_step s log c true ts k txn changes a h e = cc
write_step s log c false ts k txn changes a h e = some_act s log _ a (applies c ts k txn changes h refl) e

waited_step : (s : Setting) (log : Log) (c : ℕ) (met : Bool) (ts : Ts) (k : ClassNo) (txn : TxnNo) (attempt : ℕ) (conds : List Cond) (uses : List Use) (a : Act)
    → IsClassHere s c → head (pipe c log) ≡ Some (Read ts k txn attempt conds uses)
    → act_where (home_of s) (view_of s log) c (Some (Read ts k txn attempt conds uses)) (if met then Some Processes else None) ≡ Some a → IsDataStep s log a
waited_step s log c true ts k txn attempt conds uses a l h e = some_act s log _ a (answers_read c ts k txn attempt conds uses l h refl) e
waited_step s log c false ts k txn attempt conds uses a l h e = cc

head_step : (s : Setting) (log : Log) (c : ℕ) (w : Bool) (m : Msg) (a : Act) → IsClassHere s c → head (pipe c log) ≡ Some m
    → act_where (home_of s) (view_of s log) c (Some m) (step_on (view_of s log) c w (Some m)) ≡ Some a → IsDataStep s log a
head_step s log c true (Null class time) a l h e = some_act s log _ a (passes c class time h refl) e
head_step s log c false (Null class time) a l h e = some_act s log _ a (passes c class time h refl) e
head_step s log c true (Write ts class txn changes) a l h e = write_step s log c (is_held (view_of s log) c ts.0 changes) ts class txn changes a h e
head_step s log c false (Write ts class txn changes) a l h e = write_step s log c (is_held (view_of s log) c ts.0 changes) ts class txn changes a h e
head_step s log c true (Read ts class txn attempt conds uses) a l h e =
    waited_step s log c (list_all (is_met (view_of s log)) conds) ts class txn attempt conds uses a l h e
head_step s log c false (Read ts class txn attempt conds uses) a l h e = judged_step s log c ts class txn attempt conds uses _ _ a l h e
head_step s log c _ _ a l h e = cc

at_head : (s : Setting) (log : Log) (c : ℕ) (o : Option Msg) (a : Act) → IsClassHere s c → head (pipe c log) ≡ o
    → act_where (home_of s) (view_of s log) c o (step_on (view_of s log) c (waits c log) o) ≡ Some a → IsDataStep s log a
at_head s log c None a l h e = cc
at_head s log c (Some m) a l h e = head_step s log c (waits c log) m a l h e

pub data_step : (s : Setting) (log : Log) (a : Act) → IsDue (home_of s) (view_of s log) a → IsDataStep s log a
data_step s log a (by_open n k p e) =
    let r = class_at_place s log n k p in
    asked_step s log r.0 (head_of (filter (is_asked_of r.0) (opens log))) a refl (subst (λ x. open_due (home_of s) (view_of s log) x ≡ Some a) (sym r.2) e)
data_step s log a (by_head n k p e) =
    let r = class_at_place s log n k p in
    at_head s log r.0 (head (pipe r.0 log)) a r.1 refl (subst (λ x. head_due (home_of s) (view_of s log) x ≡ Some a) (sym r.2) e)

-- what holds of each kind of step holds of an act that is one
pub data_step_way : (s : Setting) (log : Log) (act : Act) (P : Act → Type 0)
    → ((k : ℕ) (txn : TxnNo) (attempt : ℕ) → P (Records k (Arrive txn attempt (home_of s).dm) []))
    → ((k : ℕ) (o : Open) (m : Msg) → head_of (filter (is_asked_of k) (opens log)) ≡ Some o
    → reply (frozen s k log) o.msg ≡ Some m → P (Sends o.from m (Some o.hand)))
    → ((c : ℕ) (ts : Ts) (k : ClassNo) (txn : TxnNo) (attempt : ℕ) (conds : List Cond) (uses : List Use)
    → IsClassHere s c → head (pipe c log) ≡ Some (Read ts k txn attempt conds uses)
    → P (Records c (Answer txn attempt (home_of s).dm)
    ((source_of (home_of s) c, Ready ts k (ready_counts s log ts.0 uses)) ∷ [])))
    → ((c : ℕ) (ts : Ts) (k : ClassNo) (txn : TxnNo) (attempt : ℕ) (conds : List Cond) (uses : List Use)
    (by : ClassNo) (write : Ts) → IsClassHere s c → head (pipe c log) ≡ Some
    (Read ts k txn attempt conds uses) → P (Records c (Rejected txn attempt (home_of s).dm by write)
    ((source_of (home_of s) c, Reject ts k by write) ∷ [])))
    → ((c : ℕ) (txn : TxnNo) (attempt : ℕ) (ds : List Cond) → P (Records c (Wait txn attempt (home_of s).dm ds) (map (ask_for (home_of s)) ds)))
    → ((c : ℕ) (ts : Ts) (k : ClassNo) (txn : TxnNo) (changes : List Change) → head (pipe c log) ≡ Some
    (Write ts k txn changes) → P (Records c (Apply txn k (home_of s).dm ts) (done_for c (Done ts))))
    → ((c : ℕ) (k : ClassNo) (time : Ts) → head (pipe c log) ≡ Some (Null k time) → P (Records c (Pass k (home_of s).dm time) []))
    → IsDataStep s log act → P act
data_step_way s log act P f1 f2 f3 f4 f5 f6 f7 (arrives k txn attempt e) = subst P (sym e) (f1 k txn attempt)
data_step_way s log act P f1 f2 f3 f4 f5 f6 f7 (replies k o m h r e) = subst P (sym e) (f2 k o m h r)
data_step_way s log act P f1 f2 f3 f4 f5 f6 f7 (answers_read c ts k txn attempt conds uses l h e) = subst P (sym e) (f3 c ts k txn attempt conds uses l h)
data_step_way s log act P f1 f2 f3 f4 f5 f6 f7 (refuses_read c ts k txn attempt conds uses by write l h e) = grind arith
data_step_way s log act P f1 f2 f3 f4 f5 f6 f7 (waits_for c txn attempt ds e) = subst P (sym e) (f5 c txn attempt ds)
data_step_way s log act P f1 f2 f3 f4 f5 f6 f7 (applies c ts k txn changes h e) = subst P (sym e) (f6 c ts k txn changes h)
data_step_way s log act P f1 f2 f3 f4 f5 f6 f7 (passes c k time h e) = subst P (sym e) (f7 c k time h)
