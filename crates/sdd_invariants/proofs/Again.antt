-- An attempt that isn't its transaction's first follows a Reject of the attempt before it, by a WRITE of a committed
-- transaction; and its time of P2 is above that WRITE's time.
use Rattle.sdd_invariants.proofs.All.{Bool, Change, ClassNo, Cond, D, DmNo, Does, FragNo, Hand, Handed, Input, IsAgain, IsOf, IsOfWrite, IsPermitted, IsReadOf, IsRejectBy, IsWriter, List, Msg, None, Option, Pipe, Queued, Read, Reject, Setting, Site, Some, Ts, TxnNo, Write, [], active, ap, append_assoc, arith, at_class, class_puts, clock, cons_option, dec_le, empty_pipe, filter, filter_map, fold, handed, head, head_of, home, home_of, inl, inr, is_at_least, last_write, last_write_for, length, local_of, next_stamp, number_of, or_zero, pipe, pipe_at, queue, raised, refl, results, setting_of, slice_get, source_of, spoils, subst, suc, sym, time_at, touches, true, view_of, write_time, zero, ℕ, ◌*◌, ◌++◌, ◌+◌, ◌/◌, ◌<◌, ◌∙◌, ◌∷◌, ◌≡◌, ◌≤◌, ◌⊎◌}
use Rattle.sdd_invariants.proofs.Clocks.{clock_grows, clock_number}
use Rattle.sdd_invariants.proofs.Recorded.{start_of_active}
use Rattle.sdd_invariants.proofs.Retried.{was_rejected}
use Rattle.sdd_invariants.proofs.Processed.{matched, zip_at}
use Rattle.sdd_invariants.proofs.Waiting.{processed_in_is}
use Rattle.sdd_invariants.proofs.Answered.{of_attempt, put_in_by_d, read_of}
use Rattle.sdd_invariants.proofs.Installed.{class_number, origin, write_origin}
use Rattle.sdd_invariants.proofs.InPipe.{in_pipe}
use Rattle.sdd_invariants.proofs.Split.{le_is, processed_stays}
use Rattle.sdd_invariants.proofs.AreReadSteps.{class_not_in_view}
use Rattle.sdd_invariants.proofs.Lists.{in_filtered}
use Rattle.sdd_invariants.proofs.Fair.{all_new, d_fair, home_fair}
use Rattle.sdd_invariants.proofs.InOrder.{hand_was_put}
use Rattle.sdd_invariants.proofs.Made.{permitted_before, place_of_hand}
use Rattle.sdd_log.specs.All.{Log}
use Rattle.sdd_log.specs.site_module.SiteLog as site

-- the greatest of numbers is one of them

raised_is : (o : Option ℕ) (x w : ℕ) → raised o x ≡ Some w → (o ≡ Some w) ⊎ (x ≡ w)
raised_is o x w e = grind arith

greatest_from : (o : Option ℕ) (xs : List ℕ) (w : ℕ) → fold raised o xs ≡ Some w → (o ≡ Some w) ⊎ ((k : ℕ) × (slice_get xs k ≡ Some w))
greatest_from o [] w e = inl e
greatest_from o (x ∷ xs) w e = elim (greatest_from (raised o x) xs w e) [
  | inl p ↦ elim (raised_is o x w p) [ inl q ↦ inl q | inr q ↦ inr (0, ap (λ y. Some y) q) ]
  | inr p ↦ inr (suc p.0, p.1)
]

mapped_cons : (f : Msg → Option ℕ) (m : Msg) (ms : List Msg) (ws : List ℕ) (k y w : ℕ)
    → ((j : ℕ) → slice_get ws j ≡ Some w → (i : ℕ) × (x : Msg) × (slice_get ms i ≡ Some x) × (f x ≡ Some w)) → f m ≡ Some y
    → slice_get (y ∷ ws) k ≡ Some w → (i : ℕ) × (x : Msg) × (slice_get (m ∷ ms) i ≡ Some x) × (f x ≡ Some w)
mapped_cons f m ms ws zero y w g p q = (0, m, refl, p ∙ q)
mapped_cons f m ms ws (suc k) y w g p q = let i = g k q in (suc i.0, i.1, i.2, i.3)

pub mapped_in : (f : Msg → Option ℕ) (ms : List Msg) (k w : ℕ) → slice_get (filter_map f ms) k ≡ Some w
    → (j : ℕ) × (m : Msg) × (slice_get ms j ≡ Some m) × (f m ≡ Some w)
mapped_in f [] k w e = cc
mapped_in f (m ∷ ms) k w e =
    elim (f m) as (λ o. f m ≡ o → slice_get (cons_option o (filter_map f ms)) k ≡ Some w → (j : ℕ) × (x : Msg) × (slice_get (m ∷ ms) j ≡ Some x) × (f x ≡ Some w)) [
      | None ↦ λ p q. let i = mapped_in f ms k w q in (suc i.0, i.1, i.2, i.3)
      | Some y ↦ λ p q. mapped_cons f m ms (filter_map f ms) k y w (λ j r. mapped_in f ms j w r) p q
    ] refl e

time_is : (frags : List FragNo) (m : Msg) (w : ℕ) → write_time frags m ≡ Some w
    → (ts : Ts) × (k : ClassNo) × (txn : TxnNo) × (changes : List Change) × (m ≡ Write ts k txn changes) × (ts.0 ≡ w) × (touches frags changes ≡ true)
time_is frags m w e = grind (arith)

pub first_there : (ds : List Cond) (d : Cond) → head_of ds ≡ Some d → slice_get ds 0 ≡ Some d
first_there ds d e = grind arith

pub first_of_filter : (f : Cond → Bool) (ds : List Cond) (d : Cond) → head_of (filter f ds) ≡ Some d → (k : ℕ) × (slice_get ds k ≡ Some d) × (f d ≡ true)
first_of_filter f ds d e = let i = in_filtered f ds 0 d (first_there (filter f ds) d e) in (i.1, i.2, i.0)

-- a condition that is spoilt: by the WRITE that is named

pub record IsSpoilt (log : site.Log) (d : Cond) (w : ℕ) : Type 0 where
  pub at_least : d.time.0 ≤ w
  pub place : ℕ
  pub ts : Ts
  pub of : ClassNo
  pub txn : TxnNo
  pub changes : List Change
  pub there : slice_get (pipe d.class.0 log).processed place ≡ Some (Write ts of txn changes)
  pub ts_is : ts.0 ≡ w
  pub touching : touches d.frags changes ≡ true

spoilt_in : (log : site.Log) (d : Cond) (p : Pipe) → p.processed ≡ (pipe d.class.0 log).processed
    → is_at_least d.time.0 (last_write d.frags p) ≡ true → IsSpoilt log d (or_zero (last_write d.frags p))
spoilt_in log d p e f = grind (arith, le_is, greatest_from, filter_map, mapped_in, time_is, slice_get)

pub is_spoilt : (s : Setting) (log : site.Log) (d : Cond) → spoils (view_of s log) d ≡ true → IsSpoilt log d (or_zero (last_write_for (view_of s log) d))
is_spoilt s log d e = elim (dec_le (suc d.class.0) (suc (length s.catalogue.classes))) [
  | yes l ↦ spoilt_in log d (at_class (view_of s log) d.class.0).pipe (processed_in_is s log d.class.0 l) e
  | no n ↦ grind (arith, is_at_least, last_write, empty_pipe, class_not_in_view)
]

-- a processed WRITE: its Commit and its Apply
pub writer_of : (g : Input) (log : Log) (d : DmNo) (j place : ℕ) (ts : Ts) (of : ClassNo) (txn : TxnNo) (changes : List Change)
    → IsPermitted g log → slice_get (pipe_at g j d log).processed place ≡ Some (Write ts of txn changes) → IsWriter g log d j ts.0
writer_of g log d j place ts of txn changes h e =
    let l : site.Log = local_of g (D d) log in
    let m : Msg = Write ts of txn changes in
    let p = in_pipe g j d log h in
    let there : slice_get (class_puts g j d log) place ≡ Some m = subst (λ ms. slice_get ms place ≡ Some m) (sym p.1)
    (processed_stays (pipe j l) p.0 place m e) in
    let put = origin g j d log place m h there in
    let c : of.0 ≡ j = class_number of.0 j ts.0 put.of_class in
    let w = write_origin g log j d ts of txn changes c put in
    let z = zip_at IsOf (results j l) (pipe j l).processed place m (matched (setting_of g (D d)) j l (d_fair g d log h)).matched e in
    let is2 : IsOfWrite (time_at w.attempt.ts) j txn.0 z.0 = subst (λ t. IsOfWrite (time_at t) j txn.0 z.0) w.ts_is (subst (λ k. IsOfWrite ts k txn.0 z.0) c z.2) in
    record { number = txn.0; commit = w; applied = record { place = place; rec = z.0; there = z.1; is = subst (λ n. IsOfWrite (time_at w.attempt.ts) j n z.0) w.number_is is2 } }

-- the clock after the hand of a REJECT
pushed_above : (clk k w own : ℕ) → w / 64 ≤ k → w ≡ (clk + 1) * 64 + own → own ≤ 62 → w < k * 64 + 63
pushed_above clk k w own a b c = omega arith

-- a timestamp, by ticks
pub stamp_ticks : (s : Setting) (log : site.Log) → next_stamp s log ≡ ((clock s.site log).ticks + 1) * 64 + number_of s.site
stamp_ticks s log = let n = clock_number s.site log in omega (arith, n)

pub le_as : (a b c : ℕ) → a ≤ b → c ≡ b → a ≤ c
le_as a b c l e = omega (arith, l, e)

pub again : (g : Input) (c : ℕ) (log : Log) (q : Queued) → IsPermitted g log → ((j : ℕ) → number_of (home g.catalogue j) ≤ 62)
    → active (setting_of g (home g.catalogue c)) c (local_of g (home g.catalogue c) log) ≡ None
    → head_of (queue (setting_of g (home g.catalogue c)) c (local_of g (home g.catalogue c) log)) ≡ Some q → 0 < q.tries → IsAgain g log c q
again g c log q h small idle e tried_once =
    let at : Site = home g.catalogue c in
    let s : Setting = setting_of g at in
    let r = was_rejected s c (local_of g at log) q (home_fair g c log h) (all_new g at log h) idle e tried_once in
    let m : Msg = Reject r.ts r.class_of r.by r.write in
    let i = place_of_hand g at log r.later (D r.from) m r.before r.is in
    let h2 : IsPermitted g (Hand (D r.from) at i.number m ∷ i.rest) = permitted_before g i.later (Hand (D r.from) at i.number m ∷ i.rest)
    (subst (IsPermitted g) i.is h) in
    let p = put_in_by_d g i.rest r.from at (handed (D r.from) at i.rest) m h2.1 (hand_was_put g i.rest (D r.from) at i.number m h2.0).1 in
    let ds : Setting = setting_of g (D r.from) in
    let l : site.Log = local_of g (D r.from) p.before in
    let b : IsRejectBy ds l at p.act r.ts r.class_of r.by r.write = p.by in
    let h3 : IsPermitted g (Does (D r.from) p.act ∷ p.before) = permitted_before g p.later (Does (D r.from) p.act ∷ p.before)
    (subst (IsPermitted g) p.is h2.1) in
    let ro = read_of g b.class r.from p.before r.ts r.class_of b.txn b.attempt b.conds b.uses h3.1 b.head_is in
    let k : b.class ≡ c = sym ro.0 ∙ r.class_is in
    let front : Log = (i.later ++ Hand (D r.from) at i.number m ∷ []) ++ p.later in
    let whole : log ≡ front ++ Does (D r.from) p.act ∷ p.before =
    i.is ∙ ap (λ x. i.later ++ Hand (D r.from) at i.number m ∷ x) p.is
    ∙ sym (append_assoc i.later (Hand (D r.from) at i.number m ∷ []) (p.later ++ Does (D r.from) p.act ∷ p.before))
    ∙ sym (append_assoc (i.later ++ Hand (D r.from) at i.number m ∷ []) p.later (Does (D r.from) p.act ∷ p.before)) in
    let active_then : active s c (local_of g at i.rest) ≡ Some r.attempt = ap (active s c) i.local_is ∙ r.active_is in
    let o = of_attempt g c i.rest (p.later ++ Does (D r.from) p.act ∷ []) p.before r.attempt b.txn.0 b.attempt r.ts.0 h2.1 active_then
    (p.is ∙ sym (append_assoc p.later (Does (D r.from) p.act ∷ []) p.before)) (subst (λ j. IsReadOf g p.before j b.txn.0 b.attempt r.ts.0) k ro.1) r.ts_is in
    let f = first_of_filter (spoils (view_of ds l)) b.conds b.cond_by b.spoiler_is in
    let z = is_spoilt ds l b.cond_by f.2 in
    let wr = writer_of g p.before r.from b.cond_by.class.0 z.place z.ts z.of z.txn z.changes h3.1 z.there in
    let w_is : z.ts.0 ≡ r.write.0 = z.ts_is ∙ sym b.write_is in
    let wr2 : IsWriter g p.before r.from r.by.0 r.write.0 = subst (λ t. IsWriter g p.before r.from r.by.0 t) w_is
    (subst (λ j. IsWriter g p.before r.from j z.ts.0) (ap (λ (y : ClassNo). y.0) (sym b.by_is)) wr) in
    let cm = wr2.commit in
    let other : Site = home g.catalogue r.by.0 in
    let hb : IsPermitted g cm.before = (permitted_before g cm.later (Does other _ ∷ cm.before) (subst (IsPermitted g) cm.is h3.1)).1 in
    let st = start_of_active (setting_of g other) r.by.0 (local_of g other cm.before) cm.attempt (home_fair g r.by.0 cm.before hb) cm.active_is in
    let grows = clock_grows at r.later (Handed (D r.from) m ∷ r.before) in
    let same : (clock at (local_of g at log)).ticks ≡ (clock at (r.later ++ Handed (D r.from) m ∷ r.before)).ticks = ap (λ x. (clock at x).ticks) r.is in
    let lo : r.write.0 / 64 ≤ (clock at (local_of g at log)).ticks =
    le_as (r.write.0 / 64) _ _ (omega arith) same in
    let stamp : r.write.0 ≡ ((clock other st.before).ticks + 1) * 64 + number_of other = cm.ts_is ∙ st.ts_is ∙ stamp_ticks (setting_of g other) st.before in
    record {
      from = r.from;
      later = front;
      before = p.before;
      txn = b.txn;
      attempt = b.attempt;
      by = r.by;
      write = r.write;
      sends = (source_of (home_of ds) b.class, m) ∷ [];
      is = grind (arith, home_of, source_of);
      number_is = o.0 ∙ r.number_is;
      try_is = o.1 ∙ r.try_is;
      ts = r.ts;
      of = r.class_of;
      conds = b.conds;
      uses = b.uses;
      head_is = subst (λ j. head (pipe j l) ≡ Some (Read r.ts r.class_of b.txn b.attempt b.conds b.uses)) k b.head_is;
      cond_by = b.cond_by;
      place = f.0;
      there = f.1;
      by_is = b.by_is;
      at_least = le_as b.cond_by.time.0 _ r.write.0 z.at_least b.write_is;
      writer = wr2;
      below_p2 = pushed_above (clock other st.before).ticks (clock at (local_of g at log)).ticks r.write.0 (number_of other) lo stamp (small r.by.0);
    }
