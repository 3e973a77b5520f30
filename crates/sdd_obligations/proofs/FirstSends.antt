-- A FETCH, REDUCE or SHIP that a site sends is the first message that the active attempt of its class has still to send;
-- and records are of classes of the catalogue.
use Rattle.sdd_obligations.proofs.All.{Act, Attempt, Bases, Bool, D, Did, Held, List, Msg, None, Option, Queued, Records, Release, Sends, Setting, Site, Some, Ticking, Ts, U, [], active, ap, arith, asks_next, asks_rows, asks_whose, class_at, commit_act, dm_no, first_send, head_of, if◌then◌else◌, in_filtered, in_mapped, in_range, is_over, length, or_else, refl, slice_get, start_act, subst, true, ℕ, ◌∷◌, ◌≡◌, ◌≤◌}
use Rattle.sdd_invariants.specs.site_module.SiteLog.{Entry, Log}
use Rattle.sdd_invariants.specs.tm.Due as tm
use Rattle.sdd_invariants.specs.tm.Views as tm_views
use Rattle.sdd_invariants.specs.umod.Due as um
use Rattle.sdd_invariants.specs.umod.Views as um_views

pub record IsFirstOf (s : Setting) (log : Log) (ts c : ℕ) (to : Site) (m : Msg) : Type 0 where
  pub attempt : Attempt
  pub active_is : active s c log ≡ Some attempt
  pub ts_is : attempt.ts ≡ ts
  pub module_no : ℕ
  pub rest : List (ℕ × Msg)
  pub first : attempt.exchange.to_send ≡ (module_no, m) ∷ rest
  pub to_is : to ≡ D (dm_no module_no)
  pub here : c ≤ length s.catalogue.classes

abbrev pub IsFirstSend : Setting → Log → Act → Type 0
IsFirstSend s log (Sends to m hand) = (ts c : ℕ) → asks_rows ts c m ≡ true → IsFirstOf s log ts c to m
IsFirstSend s log (Records k r sends) = k ≤ length s.catalogue.classes

abbrev pub IsFirstEach : Setting → Log → Entry → Type 0
IsFirstEach s log (Did act) = IsFirstSend s log act
IsFirstEach s log _ = Unit {0}

send_is : (s : Setting) (log : Log) (x a : Act) → IsFirstSend s log x → Some x ≡ Some a → IsFirstSend s log a
send_is s log x a h e = let p : x ≡ a = cc in subst (IsFirstSend s log) p h

first_of : (s : Setting) (log : Log) (c : ℕ) (a : Attempt) (p : ℕ × Msg) (rest : List (ℕ × Msg)) → c ≤ length s.catalogue.classes
    → active s c log ≡ Some a → a.exchange.to_send ≡ p ∷ rest → IsFirstSend s log (Sends (D (dm_no p.0)) p.1 None)
first_of s log c a p rest l i e ts k f =
    let w = asks_whose a.ts c ts k p.1 (asks_next s c log a p i (ap head_of e)) f in
    record {
      attempt = a;
      active_is = subst (λ j. active s j log ≡ Some a) w.1 i;
      ts_is = w.0;
      module_no = p.0;
      rest = rest;
      first = e;
      to_is = refl;
      here = subst (λ j. j ≤ length s.catalogue.classes) w.1 l;
    }

over_first : (s : Setting) (log : Log) (bases : Bases) (c : ℕ) (a : Attempt) (b : Bool) (act : Act)
    → c ≤ length s.catalogue.classes → (if b then Some (commit_act s.catalogue bases c a) else None) ≡ Some act → IsFirstSend s log act
over_first s log bases c a b act l e = grind (arith, send_is)

send_first : (s : Setting) (log : Log) (bases : Bases) (c : ℕ) (a : Attempt) (ms : List (ℕ × Msg)) (act : Act)
    → c ≤ length s.catalogue.classes → active s c log ≡ Some a → a.exchange.to_send ≡ ms
    → or_else (first_send ms) (if is_over a.exchange.phase then Some (commit_act s.catalogue bases c a) else None) ≡ Some act → IsFirstSend s log act
send_first s log bases c a [] act l i p e = over_first s log bases c a (is_over a.exchange.phase) act l e
send_first s log bases c a (m ∷ rest) act l i p e = send_is s log (Sends (D (dm_no m.0)) m.1 None) act (first_of s log c a m rest l i p) e

null_first : (s : Setting) (log : Log) (q : tm_views.Question) (b : Bool) (o : Option ℕ) (act : Act)
    → (if b then tm.null_at q o else None) ≡ Some act → IsFirstSend s log act
null_first s log q b o act e = grind (arith, send_is)

held_first : (s : Setting) (log : Log) (b : Bool) (t : Ts) (hand : Option ℕ) (act : Act)
    → (if b then Some (Sends U (Held t) hand) else None) ≡ Some act → IsFirstSend s log act
held_first s log b t hand act e = grind (arith, send_is)

start_first : (s : Setting) (log : Log) (b : Bool) (v : tm_views.View) (c : ℕ) (o : Option Queued) (act : Act)
    → c ≤ length s.catalogue.classes → (if b then tm.start_of s.catalogue v c o else None) ≡ Some act → IsFirstSend s log act
start_first s log b v c o act l e = grind (arith, send_is)

-- the classes that a transaction module runs are of the catalogue
run_here : (s : Setting) (k c : ℕ) → slice_get (tm_views.runs s) k ≡ Some c → c ≤ length s.catalogue.classes
run_here s k c e = grind (arith, in_filtered, class_at, in_range)

pub t_first : (s : Setting) (bases : Bases) (log : Log) (act : Act) → tm.IsDue s.catalogue bases (tm_views.view_of s log) act → IsFirstSend s log act
t_first s bases log act h5 = grind (arith, in_mapped, send_first, run_here, null_first, held_first, start_first)

release_first : (s : Setting) (log : Log) (b : Bool) (to : Site) (ts : Ts) (act : Act)
    → (if b then Some (Sends to (Release ts) None) else None) ≡ Some act → IsFirstSend s log act
release_first s log b to ts act e = grind (arith, send_is)

u_start_if : (s : Setting) (log : Log) (b : Bool) (clock_at : Ticking) (q : Queued) (act : Act)
    → (if b then Some (start_act s.catalogue [] 0 clock_at q) else None) ≡ Some act → IsFirstSend s log act
u_start_if s log b clock_at q act e = grind (arith, send_is)

hold_first : (s : Setting) (log : Log) (k : um_views.TmCounts) (o : Option Queued) (act : Act) → um.hold_to k o ≡ Some act → IsFirstSend s log act
hold_first s log k o act e = grind (arith, send_is)

pub u_first : (s : Setting) (bases : Bases) (log : Log) (act : Act) → um.IsDue s.catalogue bases (um_views.view_of s log) act → IsFirstSend s log act
u_first s bases log act e = grind (arith, send_first, active, release_first, u_start_if, hold_first)
