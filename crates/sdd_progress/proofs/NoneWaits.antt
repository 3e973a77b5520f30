-- Where nothing goes on, no READ waits at a module that is up, where those are that are needed by the classes for which it
-- waits; so what stands there in the pipe of a class is processed where those are up that its passing needs, and no attempt
-- of it is under way where those are that an attempt needs. If no module is down, every message is processed, and no attempt
-- is under way. All this if all was idle wherever a further class list was put in force: then each READ that waits has
-- conditions of the list in force.
use Rattle.sdd_progress.proofs.All.{AreConditionsOf, Bool, Catalogue, Change, ClassNo, Cond, D, FragNo, HasDiagonal, Input, IsBelow, IsClass, IsDiagonalIn, IsEarlierReader, IsFromTable, IsHolder, IsIdle, IsIdleAtRedeclares, IsModule, IsPermitted, IsQuiet, IsReader, IsSoundCatalogue, IsSoundList, IsStamped, IsStill, IsStuck, IsTimestamp, List, Log, Msg, NeedsAreUp, None, P2, P3, Protocol, Read, Setting, Some, Ts, TxnNo, Use, WaitGraph, WaitingRead, WaitsOn, Write, [], active, ap, arith, at_home, at_module, attempt_task, bound, class_number, clock, conditions_at_put, diagonals_listed, differ, dm_no, false, head, head_put, head_stuck, holder, home, home_fair, home_small, if◌then◌else◌, in_range, inl, inr, is_down, is_met, length, list_all, local_of, none_waits, not_zero, nth_era, number_of, part_of, passing_task, permitted_part, pipe, read_classes, reader, redeclares, refl, same_or_not, setting_of, slice_get, stamp_ticks, start_of_active, subst, suc, sym, table_fits, table_in_force, time_at, time_of, true, view_of, wait_graph, wait_protocol, wait_time, waits_by, write_origin, ℕ, ◌+◌, ◌==◌, ◌∙◌, ◌≡◌}
use Rattle.sdd_progress.proofs.Alone.{below_read, zero_time}
use Rattle.sdd_progress.proofs.Lacking.{has_unanswered}
use Rattle.sdd_progress.proofs.Lists.{not_all, no_head}
use Rattle.sdd_progress.proofs.NeededModules.{AllAskUp, AnyClass, CanMove, IsClosed, PassingsUp, ReadsThere, all_closed, asks_up, attempt_moves, attempt_reads, condition_waits, of_attempt, of_held, of_passing, passings_closed, reader_reads}
use Rattle.sdd_progress.proofs.Still.{d_still, home_part, module_up, quiet_tms, still_of}
use Rattle.sdd_progress.proofs.WaitedFor.{next_head, next_reader}
use Rattle.sdd_progress.proofs.SinceRedeclare.{since_redeclare}
use Rattle.sdd_progress.specs.WaitGraph.{FitsWaitGraph}
use Rattle.sdd_obligations.specs.All.{IsClassOf}
use Rattle.sdd_obligations.specs.protocol.declared.entry.Entry as line
use Rattle.sdd_obligations.specs.site_module.SiteLog as site

-- a READ that waits has a condition that isn't met

pub record IsUnmet (g : Input) (log : Log) (d : ℕ) (conds : List Cond) : Type 0 where
  pub place : ℕ
  pub cond : Cond
  pub there : slice_get conds place ≡ Some cond
  pub unmet : is_met (view_of (setting_of g (D (dm_no d))) (at_module g d log)) cond ≡ false

stuck_read : (s : Setting) (c : ℕ) (l : site.Log) (ts : Ts) (of : ClassNo) (txn : TxnNo) (attempt : ℕ)
    (conds : List Cond) (uses : List Use) → IsStuck s l c (Some (Read ts of txn attempt conds uses))
    → list_all (is_met (view_of s l)) conds ≡ false
stuck_read s c l ts of txn attempt conds uses h = h.1

pub unmet : (g : Input) (log : Log) (c ts : ℕ) (conds : List Cond) (r : IsReader g log c ts conds) → IsStill g log
    → is_down (D (dm_no r.d)) log ≡ false → IsUnmet g log r.d conds
unmet g log c ts conds r h up =
    let s = setting_of g (D (dm_no r.d)) in
    let class = r.class_is in
    let stuck = head_stuck s (at_module g r.d log) c (omega (arith, class)) (d_still g log r.d h r.module_is up) in
    let f = stuck_read s c (at_module g r.d log) (time_at ts) r.of r.txn r.attempt conds r.uses (subst (IsStuck s (at_module g r.d log) c) r.head_is stuck) in
    let n = not_all (is_met (view_of s (at_module g r.d log))) conds f in
    record { place = n.0; cond = n.1; there = n.2; unmet = n.3 }

-- READs of declared classes, as numbers

abbrev read_number : (g : Input) (log : Log) (c ts : ℕ) (conds : List Cond) → AreConditionsOf g log c ts conds → WaitingRead
read_number g log c ts conds from = record {
  class = c;
  ts = ts;
  p2 = bound (setting_of g (home g.catalogue c)) (local_of g (home g.catalogue c) from.before);
  ticks = suc (clock (home g.catalogue c) (local_of g (home g.catalogue c) from.before)).ticks;
}

record IsWaiting (g : Input) (log : Log) (Clear : ℕ → Type 0) (r : WaitingRead) : Type 0 where
  conds : List Cond
  declared : (r.class == 0) ≡ false
  reader : IsReader g log r.class r.ts conds
  from : AreConditionsOf g log r.class r.ts conds
  ticks_are : r.ticks ≡ suc (clock (home g.catalogue r.class) (local_of g (home g.catalogue r.class) from.before)).ticks
  p2_is : r.p2 ≡ bound (setting_of g (home g.catalogue r.class)) (local_of g (home g.catalogue r.class) from.before)
  since : redeclares from.before ≡ redeclares log
  up : is_down (D (dm_no reader.d)) log ≡ false
  clear : Clear r.class

waiting_number : (g : Input) (log : Log) (Clear : ℕ → Type 0) (c ts : ℕ) (conds : List Cond) → (c == 0) ≡ false
    → (r : IsReader g log c ts conds) → (from : AreConditionsOf g log c ts conds) → redeclares from.before ≡ redeclares log
    → is_down (D (dm_no r.d)) log ≡ false → Clear c → IsWaiting g log Clear (read_number g log c ts conds from)
waiting_number g log Clear c ts conds z r from since up clear = record {
  conds = conds;
  declared = z;
  reader = r;
  from = from;
  ticks_are = refl;
  p2_is = refl;
  since = since;
  up = up;
  clear = clear;
}

conditions : (g : Input) (log : Log) (c ts : ℕ) (conds : List Cond) → IsStill g log → IsSoundCatalogue g.catalogue → IsIdleAtRedeclares g log → (c == 0) ≡ false
    → IsReader g log c ts conds → (from : AreConditionsOf g log c ts conds) × (redeclares from.before ≡ redeclares log)
conditions g log c ts conds h sound marks z r =
    let p = head_put g c (dm_no r.d) log (Read (time_at ts) r.of r.txn r.attempt conds r.uses) h.permitted r.head_is in
    let f = conditions_at_put g log c (dm_no r.d) (time_at ts) r.of r.txn r.attempt conds r.uses (λ e. differ c 0 z e) p in
    (f.0, ap redeclares f.1 ∙ since_redeclare g log c r.d (time_at ts) r.of r.txn r.attempt conds r.uses h.permitted sound r.class_is r.module_is marks r.head_is p)

stamped : (g : Input) (log : Log) (Clear : ℕ → Type 0) → IsSoundList g (redeclares log) → (r : WaitingRead) → IsWaiting g log Clear r → IsStamped r
stamped g log Clear one r w =
    let small = home_small g.catalogue one.fits.sound r.class in
    let ts = w.from.ts_is in
    let n = stamp_ticks (setting_of g (home g.catalogue r.class)) (local_of g (home g.catalogue r.class) w.from.before) in
    let t = w.ticks_are in
    record { least = omega (arith, ts, n, t); most = omega (arith, ts, n, t, small); before = omega (arith, t, w.p2_is) }

-- the diagonal of a condition

abbrev graph_of : Input → Log → WaitGraph
graph_of g log = wait_graph (nth_era g (redeclares log)).catalogue (nth_era g (redeclares log)).table

record IsAlong (G : WaitGraph) (i j time own p2 : ℕ) : Type 0 where
  by_own : Bool
  diagonal : HasDiagonal G i j by_own
  time_is : time ≡ (if by_own then own else p2)

time_along : (own : Bool) (r : WaitingRead) → (if own then r.ts else r.p2) ≡ wait_time own r
time_along true r = refl
time_along false r = refl

diagonal_in : (cat : Catalogue) (table : List line.Entry) (p : Protocol) (own : Bool) (i j : ℕ) (f : FragNo)
    → p ≡ wait_protocol own → IsDiagonalIn table p i j f → HasDiagonal (wait_graph cat table) i j own
diagonal_in cat table p own i j f e d = grind (arith, diagonals_listed)

along : (cat : Catalogue) (table : List line.Entry) (i own p2 : ℕ) (q : Cond) → IsFromTable table i own p2 q
    → IsAlong (wait_graph cat table) i q.class.0 q.time.0 own p2
along cat table i own p2 q t = elim t.by [
  | inl a ↦ record {
    by_own = true;
    diagonal = diagonal_in cat table P3 true i q.class.0 t.first refl (a.1 0 t.first (ap (λ l. slice_get l 0) t.names));
    time_is = a.0;
  }
  | inr a ↦ record {
    by_own = false;
    diagonal = diagonal_in cat table P2 false i q.class.0 t.first refl (a.1 0 t.first (ap (λ l. slice_get l 0) t.names));
    time_is = a.0;
  }
]

cond_along : (g : Input) (log : Log) (c ts : ℕ) (conds : List Cond)
    (from : AreConditionsOf g log c ts conds) (k : ℕ) (q : Cond) → redeclares from.before ≡ redeclares log
    → slice_get conds k ≡ Some q
    → IsAlong (graph_of g log) c q.class.0 q.time.0 ts (bound (setting_of g (home g.catalogue c)) (local_of g (home g.catalogue c) from.before))
cond_along g log c ts conds from k q since e = grind (arith, along)

cond_waits : (g : Input) (log : Log) (c ts : ℕ) (conds : List Cond) (from : AreConditionsOf g log c ts conds) (k : ℕ) (q : Cond)
    → redeclares from.before ≡ redeclares log → slice_get conds k ≡ Some q → waits_by (table_in_force g log) c q.class.0 ≡ true
cond_waits g log c ts conds from k q since e =
    subst (λ n. waits_by (nth_era g n).table c q.class.0 ≡ true) since
    (condition_waits (nth_era g (redeclares from.before)).table c ts _ q (from.from_table k q e))

-- a WRITE's time is that of a Start

write_stamp : (g : Input) (log : Log) (j d w : ℕ) (of : ClassNo) (txn : TxnNo) (changes : List Change) → IsSoundCatalogue g.catalogue → IsPermitted g log
    → head (pipe j (at_module g d log)) ≡ Some (Write (time_at w) of txn changes) → IsTimestamp w
write_stamp g log j d w of txn changes sound h e =
    let s = setting_of g (home g.catalogue j) in
    let put = head_put g j (dm_no d) log (Write (time_at w) of txn changes) h e in
    let o = write_origin g log j (dm_no d) (time_at w) of txn changes (class_number of.0 j w put.of_class) put in
    let hb = permitted_part g log o.before h (part_of log o.later _ o.before o.is) in
    let st = start_of_active s j (local_of g (home g.catalogue j) o.before) o.attempt (home_fair g j o.before hb) o.active_is in
    let small = home_small g.catalogue sound j in
    record {
      ticks = (clock (home g.catalogue j) st.before).ticks + 1;
      number = number_of (home g.catalogue j);
      is = omega (arith, o.ts_is, st.ts_is, stamp_ticks s st.before);
      small = omega (arith, small);
    }

-- what stands next in the pipe of class 0 is a READ that waits

pub record IsReaderOfU (g : Input) (log : Log) (d : ℕ) : Type 0 where
  pub ts : ℕ
  pub conds : List Cond
  pub reader : IsReader g log 0 ts conds
  pub at : reader.d ≡ d

zero_head : (g : Input) (log : Log) (d : ℕ) (m : Msg) → IsModule g.catalogue d → head (pipe 0 (at_module g d log)) ≡ Some m
    → IsStuck (setting_of g (D (dm_no d))) (at_module g d log) 0 (Some m) → IsReaderOfU g log d
zero_head g log d (Read ts of txn attempt conds uses) m e stuck =
    let there : IsReader g log 0 ts.0 conds = record {
      d = d;
      module_is = m;
      class_is = omega arith;
      waits_there = stuck.0;
      of = of;
      txn = txn;
      attempt = attempt;
      uses = uses;
      head_is = e;
    } in
    record { ts = ts.0; conds = conds; reader = there; at = refl }
zero_head g log d (Write w of txn changes) m e stuck = cc
zero_head g log d x m e stuck = absurd stuck

pub undeclared_reader : (g : Input) (log : Log) (d : ℕ) (m : Msg) → IsStill g log → IsModule g.catalogue d
    → is_down (D (dm_no d)) log ≡ false → head (pipe 0 (at_module g d log)) ≡ Some m → IsReaderOfU g log d
undeclared_reader g log d m h w up e =
    let stuck = head_stuck (setting_of g (D (dm_no d))) (at_module g d log) 0 (omega arith) (d_still g log d h w up) in
    zero_head g log d m w e (subst (IsStuck (setting_of g (D (dm_no d))) (at_module g d log) 0) e stuck)

module _ (g : Input) (log : Log) (h : IsStill g log) (one : IsSoundList g (redeclares log)) (marks : IsIdleAtRedeclares g log) where
  -- a READ of class 0 holds nothing back
  holder_declared : (j t : ℕ) → (j == 0) ≡ false → IsClass g.catalogue j → (k : IsHolder g log j t) → (k.class == 0) ≡ false
  holder_declared j t z l k = grind (arith, same_or_not, below_read, zero_time)

  fits : FitsWaitGraph (graph_of g log)
  fits = table_fits (nth_era g (redeclares log)).catalogue (nth_era g (redeclares log)).table one.table.table

  class_of_writer : (i j : ℕ) (own : Bool) → HasDiagonal (graph_of g log) i j own → ((j == 0) ≡ false) × IsClassOf g.catalogue j
  class_of_writer i j own d =
      let w = (fits.diagonal d.place d.diagonal d.at).writer in
      let same = d.writer_is in
      (not_zero j (omega (arith, w.from, same)), record { from = omega (arith, w.from, same); to = omega (arith, w.to, same, one.era.classes) })

  -- the READ that holds a WRITE back waits for the WRITE's class, and so do the READs of its own class
  held_waits : (j t : ℕ) (k : IsHolder g log j t) → (k.class == 0) ≡ false → waits_by (table_in_force g log) k.class j ≡ true
  held_waits j t k z =
      let from = conditions g log k.class k.ts k.conds h one.fits.sound marks z k.reader in
      subst (λ n. waits_by (table_in_force g log) k.class n ≡ true) k.names (cond_waits g log k.class k.ts k.conds from.0 k.place k.cond from.1 k.there)

-- no READ waits at a module that is up, of a class of a closed set

module _ (g : Input) (log : Log) (h : IsStill g log) (one : IsSoundList g (redeclares log)) (marks : IsIdleAtRedeclares g log)
    (Clear : ℕ → Type 0) (closed : IsClosed g log Clear) where
  waits_on : (r : WaitingRead) → IsWaiting g log Clear r → WaitsOn (graph_of g log) (IsWaiting g log Clear) r
  waits_on r w =
      let u = unmet g log r.class r.ts w.conds w.reader h w.up in
      let x : Cond = u.cond in
      let a0 = cond_along g log r.class r.ts w.conds w.from u.place x w.since u.there in
      let a : IsAlong (graph_of g log) r.class x.class.0 x.time.0 r.ts r.p2 =
      subst (λ p. IsAlong (graph_of g log) r.class x.class.0 x.time.0 r.ts p) (sym w.p2_is) a0 in
      let d = a.diagonal in
      let c = class_of_writer g log h one marks r.class x.class.0 a.by_own d in
      let time = (a.time_is ∙ time_along a.by_own r ∙ ap (λ b. wait_time b r) (sym a.diagonal.own_is)) in
      let for = cond_waits g log r.class r.ts w.conds w.from u.place x w.since u.there in
      let asks = closed.asks r.class x.class.0 w.clear for c.0 c.1 in
      let below = next_head g log r.class r.ts w.conds w.reader u.place x h one.fits w.up asks u.there c.0 c.1.to u.unmet in
      elim (next_reader g log x.class.0 x.time.0 h c.1.to below.here below.up) [
        | inl i ↦ (let e : IsEarlierReader g log x.class.0 x.time.0 = i.0 in
            let from = conditions g log x.class.0 e.ts e.conds h one.fits.sound marks c.0 e.reader in
            let up = subst (λ n. is_down (D (dm_no n)) log ≡ false) (sym i.1) below.up in
            reader d.place d.diagonal d.at d.reader_is (read_number g log x.class.0 e.ts e.conds from.0)
            (waiting_number g log Clear x.class.0 e.ts e.conds c.0 e.reader from.0 from.1 up (closed.writer r.class x.class.0 w.clear for))
            (sym d.writer_is) (omega (arith, e.below, time)))
        | inr i ↦ (let k : IsHolder g log x.class.0 x.time.0 = i.0 in
            let z = holder_declared g log h one marks x.class.0 x.time.0 c.0 c.1.to k in
            let up = subst (λ n. is_down (D (dm_no n)) log ≡ false) (sym i.1) below.up in
            let others = closed.holder r.class x.class.0 k.class w.clear for (held_waits g log h one marks x.class.0 x.time.0 k z) in
            let from = conditions g log k.class k.ts k.conds h one.fits.sound marks z k.reader in
            let q : WaitingRead = read_number g log k.class k.ts k.conds from.0 in
            let b : IsAlong (graph_of g log) q.class k.cond.class.0 k.cond.time.0 q.ts q.p2 =
            cond_along g log k.class k.ts k.conds from.0 k.place k.cond from.1 k.there in
            let held_time = (b.time_is ∙ time_along b.by_own q ∙ ap (λ b. wait_time b q) (sym b.diagonal.own_is)) in
            let o = b.diagonal in
            holder d.place d.diagonal d.at d.reader_is q
            (waiting_number g log Clear k.class k.ts k.conds z k.reader from.0 from.1 up others) o.place o.diagonal o.at
            o.reader_is (o.writer_is ∙ k.names ∙ sym d.writer_is)
            k.write (write_stamp g log x.class.0 k.reader.d k.write k.of k.txn k.changes one.fits.sound h.permitted k.write_is)
            (omega (arith, k.held, held_time)) (omega (arith, k.below, time)))
      ]

  pub none_declared : (c ts : ℕ) (conds : List Cond) → (c == 0) ≡ false → (r : IsReader g log c ts conds) → is_down (D (dm_no r.d)) log ≡ false → Clear c → ⊥
  none_declared c ts conds z r up clear =
      let from = conditions g log c ts conds h one.fits.sound marks z r in
      none_waits (graph_of g log) (fits g log h one marks) (IsWaiting g log Clear) (stamped g log Clear one) waits_on (read_number g log c ts conds from.0)
      (waiting_number g log Clear c ts conds z r from.0 from.1 up clear)

  -- so the pipe of a class that can move has no message that isn't processed

  none_next : (c d : ℕ) (m : Msg) → (c == 0) ≡ false → IsClass g.catalogue c → IsModule g.catalogue d → is_down (D (dm_no d)) log ≡ false
      → CanMove g log Clear c d
      → head (pipe c (at_module g d log)) ≡ Some m → ⊥
  none_next c d m z l w up moves e =
      let below : IsBelow g log c (suc (time_of m)) = record { d = d; module_is = w; message = m; head_is = e; below = omega arith } in
      elim (next_reader g log c (suc (time_of m)) h l below up) [
        | inl x ↦ none_declared c x.0.ts x.0.conds z x.0.reader (subst (λ n. is_down (D (dm_no n)) log ≡ false) (sym x.1) up) moves.own
        | inr x ↦ (let k : IsHolder g log c (suc (time_of m)) = x.0 in
            let declared = holder_declared g log h one marks c (suc (time_of m)) z l k in
            let there = subst (ReadsThere g.catalogue k.class) x.1 (reader_reads g log k.class k.ts k.conds k.reader h.permitted declared) in
            none_declared k.class k.ts k.conds declared k.reader (subst (λ n. is_down (D (dm_no n)) log ≡ false) (sym x.1) up)
            (moves.others k.class there (held_waits g log h one marks c (suc (time_of m)) k declared)))
      ]

  pub none_unprocessed : (c d : ℕ) → (c == 0) ≡ false → IsClass g.catalogue c → IsModule g.catalogue d → is_down (D (dm_no d)) log ≡ false
      → CanMove g log Clear c d
      → (pipe c (at_module g d log)).unprocessed ≡ []
  none_unprocessed c d z l w up moves =
      elim (head (pipe c (at_module g d log))) as (λ o. head (pipe c (at_module g d log)) ≡ o → (pipe c (at_module g d log)).unprocessed ≡ []) [
        | None ↦ λ e. no_head (pipe c (at_module g d log)).unprocessed e
        | Some m ↦ λ e. absurd (none_next c d m z l w up moves e)
      ] refl

-- no attempt is under way of a class whose attempts need nothing that is down

pub none_under_way : (g : Input) (log : Log) (h : IsStill g log) (one : IsSoundList g (redeclares log)) (marks : IsIdleAtRedeclares g log) (c : ℕ)
    → (c == 0) ≡ false → IsClassOf g.catalogue c → NeedsAreUp g log (attempt_task c)
    → active (setting_of g (home g.catalogue c)) c (at_home g c log) ≡ None
none_under_way g log h one marks c z class up =
    elim (active (setting_of g (home g.catalogue c)) c (at_home g c log)) as (λ o. active
    (setting_of g (home g.catalogue c)) c (at_home g c log) ≡ o → o ≡ None) [
      | None ↦ λ e. refl
      | Some a ↦ λ e. (let n = has_unanswered g log c a h one.fits class.to (asks_up g log c one.fits.sound h.permitted z class up) e in
          let u = n.unanswered in
          let here = attempt_reads g log c u.d a h.permitted z e n.asked in
          let empty : slice_get [] u.place ≡ Some u.message =
          subst (λ ms. slice_get ms u.place ≡ Some u.message)
          (none_unprocessed g log h one marks (PassingsUp g log) (passings_closed g log one.fits.sound h.permitted) c u.d z class.to u.module_is n.up
          (attempt_moves g log c u.d up here)) u.there in cc)
    ] refl

-- a READ of class 0 waits at a module that is up because of one that is down, which the passing of a class needs for which it
-- waits

pub undeclared_needs : (g : Input) (log : Log) (h : IsStill g log) (one : IsSoundList g (redeclares log)) (marks : IsIdleAtRedeclares g log)
    (ts : ℕ) (conds : List Cond) (r : IsReader g log 0 ts conds) → is_down (D (dm_no r.d)) log ≡ false → (u : IsUnmet g log r.d conds)
    → ¬ NeedsAreUp g log (passing_task u.cond.class.0)
undeclared_needs g log h one marks ts conds r up u ups =
    let x : Cond = u.cond in
    let closed = passings_closed g log one.fits.sound h.permitted in
    let class = read_classes g (dm_no r.d) log (time_at ts) r.of r.txn r.attempt conds r.uses u.place x h.permitted r.head_is u.there in
    let i = in_range 1 (length g.catalogue.classes) u.place x.class.0 class in
    let z = not_zero x.class.0 i.0 in
    let of : IsClassOf g.catalogue x.class.0 = record { from = i.0; to = omega (arith, i.1) } in
    let attempts = of_passing g log x.class.0 ups in
    let below = next_head g log 0 ts conds r u.place x h one.fits up
    (asks_up g log x.class.0 one.fits.sound h.permitted z of attempts) u.there z of.to u.unmet in
    let declared = none_declared g log h one marks (PassingsUp g log) closed in
    elim (next_reader g log x.class.0 x.time.0 h of.to below.here below.up) [
      | inl e ↦ declared x.class.0 e.0.ts e.0.conds z e.0.reader (subst (λ n. is_down (D (dm_no n)) log ≡ false) (sym e.1) below.up)
          (of_attempt g log x.class.0 attempts)
      | inr k ↦ (let other = holder_declared g log h one marks x.class.0 x.time.0 z of.to k.0 in
          declared k.0.class k.0.ts k.0.conds other k.0.reader (subst (λ n. is_down (D (dm_no n)) log ≡ false) (sym k.1) below.up)
          (of_held g log x.class.0 k.0.class ups (held_waits g log h one marks x.class.0 x.time.0 k.0 other)))
    ]

-- where all modules are up that attempts of declared classes ask, no READ waits at one that is up, also of class 0, and each
-- message there is processed

module _ (g : Input) (log : Log) (h : IsStill g log) (one : IsSoundList g (redeclares log)) (marks : IsIdleAtRedeclares g log)
    (ask : AllAskUp g log) where
  pub none_waits_declared : (c ts : ℕ) (conds : List Cond) → (c == 0) ≡ false → (r : IsReader g log c ts conds) → is_down (D (dm_no r.d)) log ≡ false → ⊥
  none_waits_declared c ts conds z r up = none_declared g log h one marks AnyClass (all_closed g log ask) c ts conds z r up tt

  pub none_undeclared : (ts : ℕ) (conds : List Cond) → (r : IsReader g log 0 ts conds) → is_down (D (dm_no r.d)) log ≡ false → ⊥
  none_undeclared ts conds r up =
      let u = unmet g log 0 ts conds r h up in
      let x : Cond = u.cond in
      let class = read_classes g (dm_no r.d) log (time_at ts) r.of r.txn r.attempt conds r.uses u.place x h.permitted r.head_is u.there in
      let i = in_range 1 (length g.catalogue.classes) u.place x.class.0 class in
      let z = not_zero x.class.0 i.0 in
      let l : IsClass g.catalogue x.class.0 = omega (arith, i.1) in
      let below = next_head g log 0 ts conds r u.place x h one.fits up (ask x.class.0 z l) u.there z l u.unmet in
      elim (next_reader g log x.class.0 x.time.0 h l below.here below.up) [
        | inl e ↦ none_waits_declared x.class.0 e.0.ts e.0.conds z e.0.reader (subst (λ n. is_down (D (dm_no n)) log ≡ false) (sym e.1) below.up)
        | inr k ↦ none_waits_declared k.0.class k.0.ts k.0.conds (holder_declared g log h one marks x.class.0 x.time.0 z l k.0) k.0.reader
            (subst (λ n. is_down (D (dm_no n)) log ≡ false) (sym k.1) below.up)
      ]

  undeclared_next : (d : ℕ) (m : Msg) → IsModule g.catalogue d → is_down (D (dm_no d)) log ≡ false → head (pipe 0 (at_module g d log)) ≡ Some m → ⊥
  undeclared_next d m w up e =
      let r = undeclared_reader g log d m h w up e in
      none_undeclared r.ts r.conds r.reader (subst (λ n. is_down (D (dm_no n)) log ≡ false) (sym r.at) up)

  undeclared_processed : (d : ℕ) → IsModule g.catalogue d → is_down (D (dm_no d)) log ≡ false → (pipe 0 (at_module g d log)).unprocessed ≡ []
  undeclared_processed d w up =
      elim (head (pipe 0 (at_module g d log))) as (λ o. head (pipe 0 (at_module g d log)) ≡ o → (pipe 0 (at_module g d log)).unprocessed ≡ []) [
        | None ↦ λ e. no_head (pipe 0 (at_module g d log)).unprocessed e
        | Some m ↦ λ e. absurd (undeclared_next d m w up e)
      ] refl

  pub processed_where_up : (c d : ℕ) → IsClass g.catalogue c → IsModule g.catalogue d → is_down (D (dm_no d)) log ≡ false
      → (pipe c (at_module g d log)).unprocessed ≡ []
  processed_where_up c d l w up = elim (same_or_not c 0) [
    | inl p ↦ subst (λ k. (pipe k (at_module g d log)).unprocessed ≡ []) (sym p) (undeclared_processed d w up)
    | inr p ↦ none_unprocessed g log h one marks AnyClass (all_closed g log ask) c d p l w up (record { own = tt; others = λ r there w. tt })
  ]

-- where no module is down, no READ waits

module _ (g : Input) (log : Log) (h : IsQuiet g log) (one : IsSoundList g (redeclares log)) (marks : IsIdleAtRedeclares g log) where
  still : IsStill g log
  still = still_of g log h

  ask : AllAskUp g log
  ask j z l = (home_part g j log one.fits.sound l (quiet_tms g log h), λ a e d m q. module_up g log d h m)

  pub none_waits_now : (c ts : ℕ) (conds : List Cond) → ¬ IsReader g log c ts conds
  none_waits_now c ts conds r = elim (same_or_not c 0) [
    | inl p ↦ (let reader = subst (λ k. IsReader g log k ts conds) p r in
        none_undeclared g log still one marks ask ts conds reader (module_up g log reader.d h reader.module_is))
    | inr p ↦ none_waits_declared g log still one marks ask c ts conds p r (module_up g log r.d h r.module_is)
  ]

  -- so no pipe has a message that isn't processed
  all_processed : (c d : ℕ) → IsClass g.catalogue c → IsModule g.catalogue d → (pipe c (at_module g d log)).unprocessed ≡ []
  all_processed c d l w = processed_where_up g log still one marks ask c d l w (module_up g log d h w)

  -- and no attempt is under way
  none_active : (c : ℕ) → IsClass g.catalogue c → active (setting_of g (home g.catalogue c)) c (at_home g c log) ≡ None
  none_active c l =
      elim (active (setting_of g (home g.catalogue c)) c (at_home g c log)) as (λ o. active
      (setting_of g (home g.catalogue c)) c (at_home g c log) ≡ o → o ≡ None) [
        | None ↦ λ e. refl
        | Some a ↦ λ e. (let u = (has_unanswered g log c a still one.fits l
            (home_part g c log one.fits.sound l (quiet_tms g log h), λ b f d m q. module_up g log d h m) e).unanswered in
            let empty : slice_get [] u.place ≡ Some u.message =
            subst (λ ms. slice_get ms u.place ≡ Some u.message) (all_processed c u.d l u.module_is)
            u.there in cc)
      ] refl

  pub is_idle : IsIdle g log
  is_idle = record { processed = all_processed; no_attempt = none_active }
