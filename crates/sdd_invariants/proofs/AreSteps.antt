-- What is due at a transaction module or at U is a step.
use Rattle.sdd_invariants.proofs.All.{Act, Attempt, Bases, Bool, D, Held, Hold, IsServed, IsStep, List, Log, Msg, None, Null, Option, Queued, Release, Sends, Setting, Site, Some, T, TmNo, Ts, U, [], a_held, a_hold, a_null, a_release, active, ap, arith, attempt_due, bound, by_commit, by_send, by_start, class_at, class_no, commit_act, dm_no, eqb-true, false, first_send, head_of, home, if◌then◌else◌, in_mapped, is_none, is_over, limit, limit_of, map, nat_le, not, of_exchange, or_else, queue, refl, slice_get, start_at, subst, sym, time_at, true, ℕ, ◌&&◌, ◌==◌, ◌∙◌, ◌∷◌, ◌≡◌}
use Rattle.sdd_invariants.proofs.Bools.{not_zero}
use Rattle.sdd_invariants.proofs.Exchanges.{asks_next, not_reading}
use Rattle.sdd_invariants.proofs.Lists.{in_filtered, in_range}
use Rattle.sdd_log.specs.tm.Due as tm
use Rattle.sdd_log.specs.tm.Views as tm_views
use Rattle.sdd_log.specs.umod.Due as um
use Rattle.sdd_log.specs.umod.Views as um_views

-- the classes that a transaction module runs are those whose home it is
home_of_run : (s : Setting) (t : TmNo) (k c : ℕ) → s.site ≡ T t → slice_get (tm_views.runs s) k ≡ Some c → home s.catalogue c ≡ s.site
home_of_run s t k c at e = grind (arith, in_filtered, class_at, eqb-true, not_zero, in_range)

class_of_view : (s : Setting) (t : TmNo) (log : Log) (k : ℕ) (c : tm_views.ClassView) → s.site ≡ T t
    → slice_get (map (tm_views.class_view s log) (tm_views.runs s)) k ≡ Some c → (n : ℕ) × (home s.catalogue n ≡ s.site) × (tm_views.class_view s log n ≡ c)
class_of_view s t log k c at e = let r = in_mapped (tm_views.class_view s log) (tm_views.runs s) k c e in (r.0, home_of_run s t k r.0 at r.1, r.2)

-- the attempt's next send, or its Commit

over_step : (s : Setting) (log : Log) (bases : Bases) (c : ℕ) (a : Attempt) (b : Bool) (act : Act) → home s.catalogue c ≡ s.site
    → active s c log ≡ Some a → is_over a.exchange.phase ≡ b → (if b then Some (commit_act s.catalogue bases c a) else None) ≡ Some act → IsStep s log act
over_step s log bases c a true act at i o e = let r : act ≡ commit_act s.catalogue bases c a = cc in by_commit c bases a at i o r
over_step s log bases c a false act at i o e = cc

send_step : (s : Setting) (log : Log) (bases : Bases) (c : ℕ) (a : Attempt) (ms : List (ℕ × Msg)) (act : Act)
    → home s.catalogue c ≡ s.site → active s c log ≡ Some a → a.exchange.to_send ≡ ms
    → or_else (first_send ms) (if is_over a.exchange.phase then Some (commit_act s.catalogue bases c a) else None) ≡ Some act → IsStep s log act
send_step s log bases c a [] act at i p e = over_step s log bases c a (is_over a.exchange.phase) act at i refl e
send_step s log bases c a (m ∷ rest) act at i p e =
    by_send (D (dm_no m.0)) m.1 None (of_exchange c a at i (asks_next s c log a m i (ap head_of p)) (not_reading s c log a m i (ap head_of p))) cc

attempt_step : (s : Setting) (log : Log) (bases : Bases) (c : ℕ) (o : Option Attempt) (act : Act) → home s.catalogue c ≡ s.site
    → active s c log ≡ o → attempt_due s.catalogue bases c o ≡ Some act → IsStep s log act
attempt_step s log bases c None act at i e = cc
attempt_step s log bases c (Some a) act at i e = send_step s log bases c a a.exchange.to_send act at i refl e

-- a NULL, a HELD, a Start of a T

null_at_time : (s : Setting) (log : Log) (q : tm_views.Question) (t : ℕ) (act : Act) → home s.catalogue q.class ≡ s.site
    → t ≡ limit s q.class log → tm.null_at q (Some t) ≡ Some act → IsStep s log act
null_at_time s log q t act at i e =
    by_send q.from (Null (class_no q.class) (time_at t)) (Some q.hand) (a_null q.class at (ap (λ x. Null (class_no q.class) (time_at x)) i)) cc

null_if : (s : Setting) (log : Log) (q : tm_views.Question) (a : Attempt) (b : Bool) (act : Act)
    → home s.catalogue q.class ≡ s.site → active s q.class log ≡ Some a → tm.null_at q (if b then Some a.ts else None) ≡ Some act → IsStep s log act
null_if s log q a true act at i e = null_at_time s log q a.ts act at (ap (limit_of (bound s log)) (sym i)) e
null_if s log q a false act at i e = cc

null_step : (s : Setting) (log : Log) (q : tm_views.Question) (o : Option Attempt) (act : Act) → home s.catalogue q.class ≡ s.site
    → active s q.class log ≡ o → tm.null_at q (tm.null_time (tm_views.view_of s log) o q.time) ≡ Some act → IsStep s log act
null_step s log q None act at i e = null_at_time s log q (bound s log) act at (ap (limit_of (bound s log)) (sym i)) e
null_step s log q (Some a) act at i e = null_if s log q a (nat_le q.time a.ts) act at i e

asked_step : (s : Setting) (log : Log) (n : ℕ) (q : tm_views.Question) (b : Bool) (act : Act) → (q.class == n) ≡ b → home s.catalogue n ≡ s.site
    → (if b then tm.null_at q (tm.null_time (tm_views.view_of s log) (active s n log) q.time) else None) ≡ Some act → IsStep s log act
asked_step s log n q true act p at e =
    let c : q.class ≡ n = eqb-true q.class n p in
    null_step s log q (active s n log) act (ap (home s.catalogue) c ∙ at) (ap (λ k. active s k log) c) e
asked_step s log n q false act p at e = cc

held_if : (s : Setting) (log : Log) (b : Bool) (hand : Option ℕ) (act : Act)
    → (if b then Some (Sends U (Held (time_at (bound s log))) hand) else None) ≡ Some act → IsStep s log act
held_if s log true hand act e = by_send U (Held (time_at (bound s log))) hand (a_held refl) cc
held_if s log false hand act e = cc

start_of_head : (s : Setting) (log : Log) (c : ℕ) (o : Option Queued) (act : Act) → home s.catalogue c ≡ s.site
    → active s c log ≡ None → head_of (queue s c log) ≡ o → tm.start_of s.catalogue (tm_views.view_of s log) c o ≡ Some act → IsStep s log act
start_of_head s log c None act at i p e = cc
start_of_head s log c (Some q) act at i p e = let r : act ≡ start_at s c log q = cc in by_start c q at i p r

start_if : (s : Setting) (log : Log) (c : ℕ) (b : Bool) (o : Option Attempt) (act : Act) → home s.catalogue c ≡ s.site → active s c log ≡ o
    → (if b && is_none o then tm.start_of s.catalogue (tm_views.view_of s log) c (head_of (queue s c log)) else None) ≡ Some act → IsStep s log act
start_if s log c true None act at i e = start_of_head s log c (head_of (queue s c log)) act at i refl e
start_if s log c _ _ act at i e = cc

pub t_step : (s : Setting) (t : TmNo) (bases : Bases) (log : Log) (act : Act) → s.site ≡ T t
    → tm.IsDue s.catalogue bases (tm_views.view_of s log) act → IsStep s log act
t_step s t bases log act at (tm.by_exchange k c p e) =
    let r = class_of_view s t log k c at p in
    attempt_step s log bases r.0 (active s r.0 log) act r.1 refl (subst (λ v. tm.exchange_due s.catalogue bases v ≡ Some act) (sym r.2) e)
t_step s t bases log act at (tm.by_ask k n c q p r e) =
    let v = class_of_view s t log k c at p in
    asked_step s log v.0 q (q.class == v.0) act refl v.1 (subst (λ w. tm.null_to (tm_views.view_of s log) w q ≡ Some act) (sym v.2) e)
t_step s t bases log act at (tm.by_hold e) = held_if s log _ _ act e
t_step s t bases log act at (tm.by_start k c p e) =
    let v = class_of_view s t log k c at p in
    start_if s log v.0 (not (tm_views.on_hold (tm_views.view_of s log))) (active s v.0 log) act v.1 refl
    (subst (λ w. tm.start_due s.catalogue (tm_views.view_of s log) w ≡ Some act) (sym v.2) e)

-- U: there a Start is due where the queue's head has none, so class 0 is idle

pub idle_of : (o : Option Attempt) (qs : List Queued) (q : Queued) → IsServed o qs → head_of qs ≡ Some q → (q.tries == 0) ≡ true → o ≡ None
idle_of o qs q h e z = grind (arith, eqb-true)

u_start_if : (s : Setting) (log : Log) (q : Queued) (z b : Bool) (act : Act) → home s.catalogue 0 ≡ s.site
    → IsServed (active s 0 log) (queue s 0 log) → head_of (queue s 0 log) ≡ Some q → (q.tries == 0) ≡ z
    → (if z && b then Some (start_at s 0 log q) else None) ≡ Some act → IsStep s log act
u_start_if s log q true true act at i p z e = let r : act ≡ start_at s 0 log q = cc in by_start 0 q at (idle_of (active s 0 log) (queue s 0 log) q i p z) p r
u_start_if s log q _ _ act at i p z e = cc

u_start : (s : Setting) (log : Log) (o : Option Queued) (act : Act) → home s.catalogue 0 ≡ s.site
    → IsServed (active s 0 log) (queue s 0 log) → head_of (queue s 0 log) ≡ o → um.start_of s.catalogue (um_views.view_of s log) o ≡ Some act → IsStep s log act
u_start s log None act at i p e = cc
u_start s log (Some q) act at i p e = u_start_if s log q (q.tries == 0) _ act at i p refl e

release_if : (s : Setting) (log : Log) (b : Bool) (to : Site) (ts : Ts) (act : Act)
    → (if b then Some (Sends to (Release ts) None) else None) ≡ Some act → IsStep s log act
release_if s log true to ts act e = let r : act ≡ Sends to (Release ts) None = cc in by_send to (Release ts) None (a_release ts refl) r
release_if s log false to ts act e = cc

hold_if : (s : Setting) (log : Log) (b : Bool) (to : Site) (act : Act) → (if b then Some (Sends to Hold None) else None) ≡ Some act → IsStep s log act
hold_if s log true to act e = let r : act ≡ Sends to Hold None = cc in by_send to Hold None (a_hold refl) r
hold_if s log false to act e = cc

hold_of : (s : Setting) (log : Log) (k : um_views.TmCounts) (o : Option Queued) (act : Act) → um.hold_to k o ≡ Some act → IsStep s log act
hold_of s log k None act e = cc
hold_of s log k (Some q) act e = hold_if s log _ _ act e

pub u_step : (s : Setting) (bases : Bases) (log : Log) (act : Act) → s.site ≡ U → IsServed (active s 0 log) (queue s 0 log)
    → um.IsDue s.catalogue bases (um_views.view_of s log) act → IsStep s log act
u_step s bases log act at i (um.by_exchange e) = attempt_step s log bases 0 (active s 0 log) act (sym at) refl e
u_step s bases log act at i (um.by_release t k p e) = release_if s log _ _ _ act e
u_step s bases log act at i (um.by_start e) = u_start s log (head_of (queue s 0 log)) act (sym at) i refl e
u_step s bases log act at i (um.by_hold t k p e) = hold_of s log k (head_of (queue s 0 log)) act e
