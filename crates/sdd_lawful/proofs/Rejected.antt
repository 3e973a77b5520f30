-- A Reject of a data module: the condition that was spoilt, and the WRITE that spoilt it.
use Rattle.sdd_lawful.proofs.All.{Bases, Bool, Change, ChangesOne, ClassNo, Committed, Cond, D, DmNo, Does, FragNo, Input, IsApplied, IsOf, IsOfWrite, IsPermitted, IsReadStep, IsWrite, List, Log, May, Msg, Read, Rec, Records, Rejected, Running, Setting, Site, Some, Ts, TxnNo, Use, View, Write, [], active, any_at, ap, arith, changes_at, changes_to, class_number, class_puts, commit_act, commit_put_is, contains, d_fair, false, head, home, in_filtered, in_pipe, is_spoilt, last_write_for, list_any, local_of, map, matched, not_both, or_zero, origin, pipe, processed_stays, refl, results, same_number, sends_of_act, setting_of, slice_get, spoiler, spoils, subst, sym, time_at, to_site, touches, true, txn_no, view_of, zip_at, ℕ, ◌++◌, ◌==◌, ◌||◌, ◌∙◌, ◌∷◌, ◌≡◌, ◌≤◌}
use Rattle.sdd_lawful.proofs.Classes.{at_home, home_setting}
use Rattle.sdd_lawful.proofs.Touched.{any_there}
use Rattle.sdd_invariants.specs.site_module.SiteLog as site

-- a Reject is of a READ at the head of its pipe, by its first condition that is spoilt

pub record IsRejecting (v : View) (l : site.Log) (k : ℕ) (txn : TxnNo) (attempt : ℕ) (by : ClassNo) (write : Ts) : Type 0 where
  pub ts : Ts
  pub class : ClassNo
  pub conds : List Cond
  pub uses : List Use
  pub head_is : head (pipe k l) ≡ Some (Read ts class txn attempt conds uses)
  pub cond_by : Cond
  pub spoiler_is : spoiler v conds ≡ Some cond_by
  pub by_is : by ≡ cond_by.class
  pub write_is : write.0 ≡ or_zero (last_write_for v cond_by)

reject_may : (v : View) (l : site.Log) (k : ℕ) (w : Bool) (m : Msg) (r : Rec) (txn : TxnNo) (attempt : ℕ) (dm : DmNo) (by : ClassNo) (write : Ts)
    → head (pipe k l) ≡ Some m → May v k w m r → r ≡ Rejected txn attempt dm by write → IsRejecting v l k txn attempt by write
reject_may v l k w (Read t c n i ds us) (Rejected x y dm2 b2 w2) txn attempt dm by write top h e =
    let a : x ≡ txn = cc in let b : y ≡ attempt = cc in let f : b2 ≡ by = cc in let g : w2 ≡ write = cc in
    record {
      ts = t;
      class = c;
      conds = ds;
      uses = us;
      head_is = top ∙ ap (λ z. Some (Read t c z i ds us)) (ap (λ z. txn_no z) (sym h.0) ∙ a) ∙ ap (λ z. Some (Read t c txn z ds us)) (sym h.1 ∙ b);
      cond_by = h.3;
      spoiler_is = h.4;
      by_is = sym f ∙ h.5;
      write_is = ap (λ (z : Ts). z.0) (sym g) ∙ h.6;
    }
reject_may v l k w m (Rejected x y dm2 b2 w2) txn attempt dm by write top h e = absurd h
reject_may v l k w m r txn attempt dm by write top h e = cc

pub rejecting : (s : Setting) (l : site.Log) (k : ℕ) (txn : TxnNo) (attempt : ℕ) (dm : DmNo) (by : ClassNo) (write : Ts) (sends : List (Site × Msg))
    → IsReadStep s l (Records k (Rejected txn attempt dm by write) sends) → IsRejecting (view_of s l) l k txn attempt by write
rejecting s l k txn attempt dm by write sends h10 = grind (arith, not_both, IsRejecting, reject_may)

-- the WRITE that spoilt a condition: its Commit, which changes one of the condition's fragments, and its Apply

pub record IsSpoiler (g : Input) (log : Log) (d : DmNo) (q : Cond) (w : ℕ) : Type 0 where
  pub later : Log
  pub before : Log
  pub bases : Bases
  pub running : Running
  pub is : log ≡ later ++ Does (home g.catalogue q.class.0) (commit_act g.catalogue bases q.class.0 running) ∷ before
  pub active_is : active (home_setting g q.class.0) q.class.0 (at_home g q.class.0 before) ≡ Some running
  pub ts_is : running.ts ≡ w
  pub touching : touches q.frags (changes_to g bases running d) ≡ true
  pub applied : IsApplied g log d q.class.0 running
  pub at_least : q.time.0 ≤ w

abbrev changes_in : Msg → List Change
changes_in (Write ts class txn changes) = changes
changes_in m = []

pub spoilt_by : (g : Input) (log : Log) (d : DmNo) (q : Cond) → IsPermitted g log → spoils (view_of (setting_of g (D d)) (local_of g (D d) log)) q ≡ true
    → IsSpoiler g log d q (or_zero (last_write_for (view_of (setting_of g (D d)) (local_of g (D d) log)) q))
spoilt_by g log d q h e =
    let j : ℕ = q.class.0 in
    let l : site.Log = local_of g (D d) log in
    let z = is_spoilt (setting_of g (D d)) l q e in
    let m : Msg = Write z.ts z.of z.txn z.changes in
    let p = in_pipe g j d log h in
    let there : slice_get (class_puts g j d log) z.place ≡ Some m = subst (λ ms. slice_get ms z.place ≡ Some m) (sym p.1)
    (processed_stays (pipe j l) p.0 z.place m z.there) in
    let put = origin g j d log z.place m h there in
    let c : z.of.0 ≡ j = class_number z.of.0 j z.ts.0 put.of_class in
    let w : IsWrite (home_setting g j) (at_home g j put.before) put.act j z.ts.0 z.txn.0 = subst
    (λ k. IsWrite (home_setting g j) (at_home g j put.before) put.act k z.ts.0 z.txn.0) c put.by in
    let sent : slice_get (to_site (D d) (sends_of_act (commit_act g.catalogue w.bases j w.attempt))) put.place ≡ Some m = subst
    (λ y. slice_get (to_site (D d) (sends_of_act y)) put.place ≡ Some m) w.act_is put.there in
    let r = zip_at IsOf (results j l) (pipe j l).processed z.place m (matched (setting_of g (D d)) j l (d_fair g d log h)).matched z.there in
    let is1 : IsOfWrite z.ts j z.txn.0 r.0 = subst (λ k. IsOfWrite z.ts k z.txn.0 r.0) c r.2 in
    let is2 : IsOfWrite (time_at w.attempt.ts) j z.txn.0 r.0 = subst (λ t. IsOfWrite (time_at t) j z.txn.0 r.0) w.time_is is1 in
    record {
      later = put.later;
      before = put.before;
      bases = w.bases;
      running = w.attempt;
      is = put.is ∙ ap (λ y. put.later ++ Does (home g.catalogue j) y ∷ put.before) w.act_is;
      active_is = w.active_is;
      ts_is = sym w.time_is ∙ z.ts_is;
      touching = subst (λ xs. touches q.frags xs ≡ true) (ap changes_in (commit_put_is (home_setting g j) j w.bases w.attempt d put.place m sent).0) z.touching;
      applied = record { place = z.place; rec = r.0; there = r.1; is = subst (λ n. IsOfWrite (time_at w.attempt.ts) j n r.0) w.number_is is2 };
      at_least = z.at_least;
    }

-- a WRITE that touches some fragments changes one of them

named_back : (frags : List FragNo) (f : ℕ) → list_any (λ (g : FragNo). g.0 == f) frags ≡ true → contains (map (λ g. g.0) frags) f ≡ true
named_back [] f e = e
named_back (g ∷ frags) f e =
    elim (g.0 == f) as (λ b. (b || list_any (λ (g : FragNo). g.0 == f) frags) ≡ true → (b || contains
    (map (λ g. g.0) frags) f) ≡ true) [ true ↦ λ h. refl | false ↦ λ h. named_back frags f h ] e

pub touched_one : (g : Input) (t : Committed) (xs : List Change) (frags : List FragNo) (d : ℕ) → t.changes ≡ xs
    → touches frags (changes_at g.catalogue d xs) ≡ true → ChangesOne t frags
touched_one g t xs frags d same e =
    let i = any_at (λ (x : Change). list_any (λ (f : FragNo). f.0 == x.frag.0) frags) (changes_at g.catalogue d xs) e in
    record {
      fragment = i.1.frag.0;
      changed = grind (arith, list_any, any_there, same_number, in_filtered _ xs i.0 i.1 i.2);
      named = named_back frags i.1.frag.0 i.3;
    }
