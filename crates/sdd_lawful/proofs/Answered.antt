-- The Answers of a history, as acts of data modules, each with the READ that it answers and the Start that sent it.
use Rattle.sdd_lawful.proofs.All.{Act, Answer, Attempt, Bool, ClassNo, Cond, D, DmNo, Does, Entry, Input, IsAnswered, IsAttempt, IsMadeAt, IsPermitted, IsRead, IsReadStep, IsRecordAt, IsSoundCatalogue, List, Log, May, Msg, Read, Rec, Records, Setting, Site, Some, Ts, TxnNo, Use, View, [], allowed_act, ap, arith, ascending, bound, by_record, by_wait, class_no, class_number, conditions, conditions_at, contains, current_era, d_step, dm_no, filter_map, fragments_in, head, head_put, history, home, in_passing, inl, inr, length, local_of, map, modules_asked, modules_of, next_stamp, not_both, or_left, or_right, p2_time, pipe, pipe_at, record_of, refl, same_number, same_or_not, sends_of_act, setting_of, slice_get, start_at, start_read, subst, sym, time_at, to_site, true, txn_no, use_there, uses_of, view_of, waits, ℕ, ◌++◌, ◌<◌, ◌==◌, ◌∙◌, ◌∷◌, ◌≡◌}
use Rattle.sdd_lawful.proofs.Applied.{IsDataIn, data_in}
use Rattle.sdd_lawful.proofs.Classes.{at_home, further_back, home_setting}
use Rattle.sdd_lawful.proofs.Commits.{begun_as}
use Rattle.sdd_lawful.proofs.Committed.{same_attempt}
use Rattle.sdd_lawful.proofs.Places.{place_rises, recorded_there}
use Rattle.sdd_lawful.proofs.Started.{start_of}
use Rattle.sdd_invariants.specs.protocol.declared.entry.Entry as line
use Rattle.sdd_invariants.specs.site_module.SiteLog as site

-- an Answer is of a READ at the head of its pipe
pub record IsReadMsg (txn : TxnNo) (attempt : ℕ) (m : Msg) : Type 0 where
  pub ts : Ts
  pub class : ClassNo
  pub conds : List Cond
  pub uses : List Use
  pub is : m ≡ Read ts class txn attempt conds uses

answer_may : (v : View) (k : ℕ) (w : Bool) (m : Msg) (r : Rec) (txn : TxnNo) (attempt : ℕ) (dm : DmNo) → May v k w m r
    → r ≡ Answer txn attempt dm → IsReadMsg txn attempt m
answer_may v k w (Read t c n i ds us) (Answer x y dm2) txn attempt dm h e =
    let a : x ≡ txn = cc in let b : y ≡ attempt = cc in
    let q : i ≡ attempt = sym h.1 ∙ b in
    record { ts = t; class = c; conds = ds; uses = us; is = ap (λ z. Read t c z i ds us) (ap (λ z. txn_no z) (sym h.0) ∙ a) ∙ ap (λ z. Read t c txn z ds us) q }
answer_may v k w m (Answer x y dm2) txn attempt dm h e = absurd h
answer_may v k w m r txn attempt dm h e = cc

pub record IsReadHead (k : ℕ) (l : site.Log) (txn : TxnNo) (attempt : ℕ) : Type 0 where
  pub ts : Ts
  pub class : ClassNo
  pub conds : List Cond
  pub uses : List Use
  pub is : head (pipe k l) ≡ Some (Read ts class txn attempt conds uses)

pub answer_head : (s : Setting) (l : site.Log) (k : ℕ) (txn : TxnNo) (attempt : ℕ) (dm : DmNo) (sends : List (Site × Msg))
    → IsReadStep s l (Records k (Answer txn attempt dm) sends) → IsReadHead k l txn attempt
answer_head s l k txn attempt dm sends (in_passing e) = cc
answer_head s l k txn attempt dm sends (by_wait j ds r ss lt p w i q e) = grind (arith, not_both)
answer_head s l k txn attempt dm sends (by_record j m r ss lt p i may e) =
    let x = answer_may (view_of s l) j (waits j l) m r txn attempt dm may (sym cc) in
    record { ts = x.ts; class = x.class; conds = x.conds; uses = x.uses; is = subst (λ y. head (pipe y l) ≡ Some (Read x.ts x.class txn attempt x.conds x.uses)) (sym cc) (i ∙ ap (λ y. Some y) x.is) }

-- a Start sends one READ to each module that it asks

abbrev reads_to : (ℕ → Msg) → List ℕ → List (Site × Msg)
reads_to f dms = map (λ d. (D (dm_no d), f d)) dms

read_here : (f : ℕ → Msg) (x d : ℕ) (dms : List ℕ) (k : ℕ) (m : Msg) → x ≡ d
    → ((j : ℕ) → slice_get (to_site (D (dm_no x)) (reads_to f dms)) j ≡ Some m → (contains dms x ≡ true) × (f x ≡ m))
    → slice_get (f d ∷ to_site (D (dm_no x)) (reads_to f dms)) k ≡ Some m → (contains (d ∷ dms) x ≡ true) × (f x ≡ m)
read_here f x d dms k m p i e = grind (arith, or_left, same_number, or_right)

pub in_reads : (f : ℕ → Msg) (x : ℕ) (dms : List ℕ) (k : ℕ) (m : Msg) → slice_get (to_site (D (dm_no x)) (reads_to f dms)) k ≡ Some m
    → (contains dms x ≡ true) × (f x ≡ m)
in_reads f x [] k m e = cc
in_reads f x (d ∷ dms) k m e = elim (same_or_not x d) [
  | inl p ↦ read_here f x d dms k m p (λ j r. in_reads f x dms j m r) (rw (ap (λ y. x == y) (sym p) ∙ same_number x) at e)
  | inr p ↦ (let i = in_reads f x dms k m (rw p at e) in (or_right (d == x) (contains dms x) i.0, i.1))
]

abbrev conds_of : Msg → List Cond
conds_of (Read ts class txn attempt conds uses) = conds
conds_of m = []

abbrev pub read_msg : Attempt → List Cond → List Use → Msg
read_msg a conds uses = Read (time_at a.ts) (class_no a.class) (txn_no a.txn) a.number conds uses

-- the conditions of an attempt's READ to module d, where its Start stands after this log
abbrev pub conds_sent : Input → Attempt → Log → ℕ → List Cond
conds_sent g a log d =
    conditions_at g.catalogue (current_era (home_setting g a.class) (at_home g a.class log)).table a.class (ascending (fragments_in a.uses)) a.ts (p2_time a) d

-- the READ of an attempt at module d stands at the head of its pipe, and its Start stands in the log
pub record IsReadIn (g : Input) (before : Log) (a : Attempt) (d : ℕ) : Type 0 where
  pub conds : List Cond
  pub uses : List Use
  pub head_is : head (pipe_at g a.class (dm_no d) before) ≡ Some (read_msg a conds uses)
  pub between : Log
  pub start : Act
  pub start_log : Log
  pub start_is : before ≡ between ++ Does (home g.catalogue a.class) start ∷ start_log
  pub start_makes : record_of (Does (home g.catalogue a.class) start) ≡ Some (start_of a)
  pub start_place : length (history start_log) ≡ a.place
  pub start_before : a.place < length (history before)
  pub conds_are : conds ≡ conds_sent g a start_log d
  pub uses_are : uses ≡ filter_map (use_there g.catalogue a.class d) a.uses
  pub asked : contains (modules_of g.catalogue a.class (ascending (fragments_in a.uses))) d ≡ true

pub record IsReadOfSome (g : Input) (log before : Log) (c n number d : ℕ) (ds : List Cond) : Type 0 where
  pub attempt : Attempt
  pub started : IsAttempt (history log) attempt
  pub txn_is : attempt.txn ≡ n
  pub number_is : attempt.number ≡ number
  pub class_is : attempt.class ≡ c
  pub read : IsReadIn g before attempt d
  pub same_conds : read.conds ≡ ds

pub read_of_some : (g : Input) (log later before : Log) (e : Entry) (c n number d : ℕ) (ts : Ts) (of : ClassNo) (ds : List Cond) (us : List Use)
    → IsPermitted g before → log ≡ later ++ e ∷ before
    → head (pipe_at g c (dm_no d) before) ≡ Some (Read ts of (txn_no n) number ds us) → IsReadOfSome g log before c n number d ds
read_of_some g log later before e c n number d ts of ds us h is top =
    let m : Msg = Read ts of (txn_no n) number ds us in
    let at : Site = home g.catalogue c in
    let p = head_put g c (dm_no d) before m h top in
    let z : of.0 ≡ c = class_number of.0 c ts.0 p.of_class in
    let l : site.Log = at_home g c p.before in
    let r : IsRead (home_setting g c) l p.act c ts.0 n number = subst (λ j. IsRead (home_setting g c) l p.act j ts.0 n number) z p.by in
    let start : Act = start_at (home_setting g c) c l r.queued in
    let b : Attempt = begun_as g c l r.queued (length (history p.before)) in
    let i = in_reads (start_read (home_setting g c) c l r.queued) d (modules_asked (home_setting g c) c r.queued.text) p.place m
    (subst (λ y. slice_get (to_site (D (dm_no d)) (sends_of_act y)) p.place ≡ Some m) r.act_is p.there) in
    let start_is : before ≡ p.later ++ Does at start ∷ p.before = p.is ∙ ap (λ y. p.later ++ Does at y ∷ p.before) r.act_is in
    let f = further_back log later before e (Does at start) p.later p.before is start_is in
    let size : length (history before) ≡ length (history (p.later ++ Does at start ∷ p.before)) = ap (λ y. length (history y)) start_is in
    record {
      attempt = b;
      started = subst (λ y. IsAttempt (history y) b) (sym f.1) (recorded_there f.0 (Does at start) p.before (start_of b) refl);
      txn_is = sym r.number_is;
      number_is = sym r.try_is;
      class_is = refl;
      read = record {
        conds = conds_of (start_read (home_setting g c) c l r.queued d);
        uses = filter_map (use_there g.catalogue c d) (uses_of g.catalogue r.queued.text);
        head_is = top ∙ ap (λ y. Some y) (sym i.1);
        between = p.later;
        start = start;
        start_log = p.before;
        start_is = start_is;
        start_makes = refl;
        start_place = refl;
        start_before = omega (arith, place_rises p.later (Does at start) p.before (start_of b) refl);
        conds_are = grind (arith, conditions, current_era, home_setting, ascending, fragments_in, uses_of, next_stamp, bound);
        uses_are = refl;
        asked = i.0;
      };
      same_conds = ap conds_of i.1;
    }

-- the Answer of an attempt at a module

abbrev pub answer_rec : Attempt → ℕ → Rec
answer_rec a d = Answer (txn_no a.txn) a.number (dm_no d)

pub record IsAnswerIn (g : Input) (log : Log) (a : Attempt) (d k : ℕ) : Type 0 where
  pub later : Log
  pub sends : List (Site × Msg)
  pub before : Log
  pub is : log ≡ later ++ Does (D (dm_no d)) (Records a.class (answer_rec a d) sends) ∷ before
  pub place_is : length (history before) ≡ k
  pub permitted : IsPermitted g (Does (D (dm_no d)) (Records a.class (answer_rec a d) sends) ∷ before)
  pub read : IsReadIn g before a d

pub record IsAnswerOfSome (g : Input) (log : Log) (n number d k : ℕ) : Type 0 where
  pub attempt : Attempt
  pub started : IsAttempt (history log) attempt
  pub txn_is : attempt.txn ≡ n
  pub number_is : attempt.number ≡ number
  pub answer : IsAnswerIn g log attempt d k

pub answer_of_some : (g : Input) (log : Log) (n number d k : ℕ) → IsPermitted g log
    → IsRecordAt (history log) k (Answer (txn_no n) number (dm_no d)) → IsAnswerOfSome g log n number d k
answer_of_some g log n number d k h st =
    let x : IsDataIn g log k (Answer (txn_no n) number (dm_no d)) (dm_no d) = data_in g log k (Answer (txn_no n) number (dm_no d)) (dm_no d) h refl refl
    (λ e p. sym p) st in
    let act : Act = Records x.class (Answer (txn_no n) number (dm_no d)) x.sends in
    let s : Setting = setting_of g (D (dm_no d)) in
    let w = answer_head s (local_of g (D (dm_no d)) x.before) x.class (txn_no n) number (dm_no d) x.sends
    (d_step s (local_of g (D (dm_no d)) x.before) act (allowed_act g x.before (Does (D (dm_no d)) act) x.permitted.0)) in
    let r = read_of_some g log x.later x.before (Does (D (dm_no d)) act) x.class n number d w.ts w.class w.conds w.uses x.permitted.1 x.is w.is in
    record {
      attempt = r.attempt;
      started = r.started;
      txn_is = r.txn_is;
      number_is = r.number_is;
      answer = (grind (arith, answer_rec));
    }

pub answer_in : (g : Input) (log : Log) (a : Attempt) (d k : ℕ) → IsSoundCatalogue g.catalogue → IsPermitted g log → IsAttempt (history log) a
    → IsAnswered (history log) a d k → IsAnswerIn g log a d k
answer_in g log a d k sound h s e =
    let x = answer_of_some g log a.txn a.number d k h e in
    subst (λ b. IsAnswerIn g log b d k) (same_attempt g log sound h x.attempt a x.started s x.txn_is x.number_is) x.answer

abbrev pub answer_made : (g : Input) (log : Log) (a : Attempt) (d k : ℕ) → IsAnswerIn g log a d k → IsMadeAt log k (answer_rec a d)
answer_made g log a d k x =
    record { later = x.later; entry = Does (D (dm_no d)) (Records a.class (answer_rec a d) x.sends); before = x.before; is = x.is; makes = refl; place_is = x.place_is }
