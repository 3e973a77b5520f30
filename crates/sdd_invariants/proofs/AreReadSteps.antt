-- What is due at a data module is a step.
use Rattle.sdd_invariants.proofs.All.{Act, Bool, Change, ClassNo, ClassView, Cond, Home, IsClassHere, IsDue, IsReadStep, List, Log, Msg, None, Null, Open, Option, Processes, Read, Setting, Some, Ts, TxnNo, Use, Write, [], act_by, act_where, answer_of, arith, at_class, by_head, by_open, by_record, by_wait, class_view, empty_pipe, false, filter, get_or-map-range_with_len, get_or_past, head, head_due, head_of, home_of, if◌then◌else◌, in_mapped, inl, inr, is_asked_of, is_held, is_met, judged, length, length-map-range_with_len, list_all, pipe, refl, slice_get, spoiler, step_on, subst, suc, sym, true, view_of, waits, ℕ, ◌∷◌, ◌≡◌, ◌≤◌}
use Rattle.sdd_invariants.proofs.Lists.{in_range, nothing_left}

abbrev pub no_class : ClassView
no_class = record { class = 0; pipe = empty_pipe; waits = false; applied = []; frozen = None }

-- the view of a class is that of the log, or of no class
pub class_in_view : (s : Setting) (log : Log) (c : ℕ) → IsClassHere s c → at_class (view_of s log) c ≡ class_view s log c
class_in_view s log c h = get_or-map-range_with_len (class_view s log) 0 (suc (length s.catalogue.classes)) c c no_class h (omega arith)

pub class_not_in_view : (s : Setting) (log : Log) (c : ℕ) → suc (length s.catalogue.classes) ≤ c → at_class (view_of s log) c ≡ no_class
class_not_in_view s log c h = grind (arith, length-map-range_with_len, get_or_past)

-- a class of the view, by its place
pub class_at_place : (s : Setting) (log : Log) (n : ℕ) (k : ClassView) → slice_get (view_of s log).classes n ≡ Some k
    → (c : ℕ) × IsClassHere s c × (class_view s log c ≡ k)
class_at_place s log n k e = grind (arith, in_mapped, in_range)

step_is : (s : Setting) (log : Log) (x a : Act) → IsReadStep s log x → Some x ≡ Some a → IsReadStep s log a
step_is s log x a h e = let p : x ≡ a = cc in subst (IsReadStep s log) p h

asked_step : (s : Setting) (log : Log) (h : Home) (k : ClassView) (o : Option Open) (a : Act) → answer_of h k o ≡ Some a → IsReadStep s log a
asked_step s log h k o a e = grind (arith, step_is)

-- a READ that doesn't wait, by what it lacks and what spoils it
judged_step : (s : Setting) (log : Log) (c : ℕ) (ts : Ts) (class : ClassNo) (txn : TxnNo) (attempt : ℕ)
    (conds : List Cond) (uses : List Use) (lacking : List Cond) (by : Option Cond) (a : Act)
    → IsClassHere s c → waits c log ≡ false → head (pipe c log) ≡ Some (Read ts class txn attempt conds uses)
    → (lacking ≡ [] → list_all (is_met (view_of s log)) conds ≡ true) → spoiler (view_of s log) conds ≡ by
    → Some (act_by (home_of s) (view_of s log) c (Read ts class txn attempt conds uses) (judged (view_of s log) lacking by)) ≡ Some a → IsReadStep s log a
judged_step s log c ts class txn attempt conds uses lacking (Some d) a l w h f b e =
    step_is s log _ a (by_record c (Read ts class txn attempt conds uses) _ _ l refl h (refl, refl, w, d, b, refl, refl) refl) e
judged_step s log c ts class txn attempt conds uses [] None a l w h f b e =
    step_is s log _ a (by_record c (Read ts class txn attempt conds uses) _ _ l refl h (refl, refl, f refl, inr b) refl) e
judged_step s log c ts class txn attempt conds uses (d ∷ ds) None a l w h f b e =
    step_is s log _ a (by_wait c conds _ _ l refl refl (rw h refl) b refl) e

write_step : (s : Setting) (log : Log) (c : ℕ) (ts : Ts) (class : ClassNo) (txn : TxnNo) (changes : List Change) (held : Bool) (a : Act)
    → IsClassHere s c → head (pipe c log) ≡ Some (Write ts class txn changes) → is_held (view_of s log) c ts.0 changes ≡ held
    → act_where (home_of s) (view_of s log) c (Some (Write ts class txn changes)) (if held then None else Some Processes) ≡ Some a → IsReadStep s log a
write_step s log c ts class txn changes true a l h p e = cc
write_step s log c ts class txn changes false a l h p e = step_is s log _ a (by_record c (Write ts class txn changes) _ _ l refl h (refl, refl, refl, p) refl) e

waited_step : (s : Setting) (log : Log) (c : ℕ) (ts : Ts) (class : ClassNo) (txn : TxnNo) (attempt : ℕ) (conds : List Cond) (uses : List Use) (met : Bool) (a : Act)
    → IsClassHere s c → waits c log ≡ true → head (pipe c log) ≡ Some (Read ts class txn attempt conds uses) → list_all (is_met (view_of s log)) conds ≡ met
    → act_where (home_of s) (view_of s log) c (Some (Read ts class txn attempt conds uses)) (if met then Some Processes else None) ≡ Some a → IsReadStep s log a
waited_step s log c ts class txn attempt conds uses true a l w h p e =
    step_is s log _ a (by_record c (Read ts class txn attempt conds uses) _ _ l refl h (refl, refl, p, inl w) refl) e
waited_step s log c ts class txn attempt conds uses false a l w h p e = cc

head_step : (s : Setting) (log : Log) (c : ℕ) (b : Bool) (m : Msg) (a : Act) → IsClassHere s c → waits c log ≡ b → head (pipe c log) ≡ Some m
    → act_where (home_of s) (view_of s log) c (Some m) (step_on (view_of s log) c b (Some m)) ≡ Some a → IsReadStep s log a
head_step s log c true (Null class time) a l w h e = step_is s log _ a (by_record c (Null class time) _ _ l refl h (refl, refl) refl) e
head_step s log c false (Null class time) a l w h e = step_is s log _ a (by_record c (Null class time) _ _ l refl h (refl, refl) refl) e
head_step s log c true (Write ts class txn changes) a l w h e = write_step s log c ts class txn changes (is_held (view_of s log) c ts.0 changes) a l h refl e
head_step s log c false (Write ts class txn changes) a l w h e = write_step s log c ts class txn changes (is_held (view_of s log) c ts.0 changes) a l h refl e
head_step s log c true (Read ts class txn attempt conds uses) a l w h e =
    waited_step s log c ts class txn attempt conds uses (list_all (is_met (view_of s log)) conds) a l w h refl e
head_step s log c false (Read ts class txn attempt conds uses) a l w h e =
    judged_step s log c ts class txn attempt conds uses _ _ a l w h (nothing_left (is_met (view_of s log)) conds) refl e
head_step s log c _ _ a l w h e = cc

at_head : (s : Setting) (log : Log) (c : ℕ) (o : Option Msg) (a : Act) → IsClassHere s c → head (pipe c log) ≡ o
    → act_where (home_of s) (view_of s log) c o (step_on (view_of s log) c (waits c log) o) ≡ Some a → IsReadStep s log a
at_head s log c None a l h e = cc
at_head s log c (Some m) a l h e = head_step s log c (waits c log) m a l refl h e

pub d_step : (s : Setting) (log : Log) (a : Act) → IsDue (home_of s) (view_of s log) a → IsReadStep s log a
d_step s log a (by_open n k p e) = asked_step s log (home_of s) k (head_of (filter (is_asked_of k.class) (view_of s log).opens)) a e
d_step s log a (by_head n k p e) =
    let r = class_at_place s log n k p in
    at_head s log r.0 (head (pipe r.0 log)) a r.1 refl (subst (λ x. head_due (home_of s) (view_of s log) x ≡ Some a) (sym r.2) e)
