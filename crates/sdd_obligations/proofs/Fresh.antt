-- No WRITE that was handed to a data module has the timestamp of the one that is next.
use Rattle.sdd_obligations.proofs.All.{Act, Change, ClassNo, D, Did, DmNo, Does, Hand, Handed, Input, IsApplyOf, IsLawful, IsNumbered, IsPermitted, IsRunner, IsSmall, List, Log, Msg, Queued, Records, Sends, Setting, Site, Some, T, Ts, TxnNo, U, Write, [], all_of, all_there, ap, append_assoc, arith, at_seam, class_puts, clock, commit_act, contains, eqb-true, false, goes_through, home, home_fair, in_left, in_pipe, inl, inr, length, local_grows, local_of, next_stamp, number_of, one_of_key, only_right, origin, permitted_before, pipe, pipe_at, place_within, refl, same_number, setting_of, sites, slice_get, start_at, start_of_active, subst, sym, true, true_or_false, with_time, write_at, write_origin, write_time_of, write_times, writes_strict, ℕ, ◌*◌, ◌++◌, ◌+◌, ◌<◌, ◌==◌, ◌∙◌, ◌∷◌, ◌≡◌, ◌≤◌}
use Rattle.sdd_obligations.proofs.SitesAndLinks.{t_of_sites}
use Rattle.sdd_needs.proofs.OfNext.{IsThere, of_next}
use Rattle.sdd_obligations.proofs.Piping.{pipe_with}
use Rattle.sdd_obligations.proofs.Stamped.{same_start, stamp_ticks}
use Rattle.sdd_obligations.proofs.Linking.{lawful_part}
use Rattle.sdd_invariants.proofs.dm.Prefix.{all_handed}
use Rattle.sdd_invariants.specs.site_module.SiteLog as site

-- an attempt of class c was started with the timestamp t

pub record WasStarted (s : Setting) (c t : ℕ) (l : site.Log) : Type 0 where
  pub later : site.Log
  pub before : site.Log
  pub queued : Queued
  pub is : l ≡ later ++ Did (start_at s c before queued) ∷ before
  pub ts_is : t ≡ next_stamp s before

started_on : (s : Setting) (c t : ℕ) (x l all : site.Log) → all ≡ x ++ l → WasStarted s c t l → WasStarted s c t all
started_on s c t x l all e w = record {
  later = x ++ w.later;
  before = w.before;
  queued = w.queued;
  is = e ∙ ap (λ y. x ++ y) w.is ∙ sym (append_assoc x w.later (Did (start_at s c w.before w.queued) ∷ w.before));
  ts_is = w.ts_is;
}

-- by the site of a Commit
started_of : (g : Input) (log : Log) (d : DmNo) (c n t : ℕ) → IsPermitted g log → IsApplyOf g log d c n t
    → WasStarted (setting_of g (home g.catalogue c)) c t (local_of g (home g.catalogue c) log)
started_of g log d c n t h a =
    let at : Site = home g.catalogue c in
    let act : Act = commit_act g.catalogue a.bases c a.attempt in
    let hb = (permitted_before g a.later (Does at act ∷ a.before) (subst (IsPermitted g) a.is h)).1 in
    let st = start_of_active (setting_of g at) c (local_of g at a.before) a.attempt (home_fair g c a.before hb) a.active_is in
    let here : WasStarted (setting_of g at) c t (local_of g at a.before) =
    record {
      later = st.later;
      before = st.before;
      queued = st.queued;
      is = st.is;
      ts_is = a.ts_is ∙ st.ts_is;
    } in
    let front : log ≡ (a.later ++ Does at act ∷ []) ++ a.before = a.is ∙ sym (append_assoc a.later (Does at act ∷ []) a.before) in
    let x = local_grows g at (a.later ++ Does at act ∷ []) a.before in
    started_on (setting_of g at) c t x.0 (local_of g at a.before) (local_of g at log) (ap (local_of g at) front ∙ x.1) here

pub record IsOfNetwork (a : Site) : Type 0 where
  pub numbered : IsNumbered a
  pub small : number_of a ≤ 63
  pub runs : IsRunner a

of_network : (g : Input) (a : Site) → IsSmall g → IsRunner a → IsThere (sites g.catalogue.tms g.catalogue.dms) a → IsOfNetwork a
of_network g U s r k = record { numbered = tt; small = omega arith; runs = tt }
of_network g (T t) s r k =
    let i = t_of_sites g.catalogue.tms g.catalogue.dms t k in let m = s.few_tms in
    record { numbered = i.0; small = omega (arith, i.1, m); runs = tt }
of_network g (D d) s r k = absurd r

act_of_network : (g : Input) (log : Log) (d : DmNo) (c n t : ℕ) → IsSmall g → IsLawful g log → IsApplyOf g log d c n t → IsOfNetwork (home g.catalogue c)
act_of_network g log d c n t s l a =
    let at : Site = home g.catalogue c in
    let act : Act = commit_act g.catalogue a.bases c a.attempt in
    let p = lawful_part g a.later (Does at act ∷ a.before) (subst (IsLawful g) a.is l) in
    of_network g at s (grind arith) (of_next g a.before (Does at act) s.few_ticks p.1 p.0).0

numbers_by : (x y n m t : ℕ) → t ≡ (x + 1) * 64 + n → t ≡ (y + 1) * 64 + m → n ≤ 63 → m ≤ 63 → n ≡ m
numbers_by x y n m t e f a b = omega (arith, e, f, a, b)

number_is : (g : Input) (c t : ℕ) (log : Log) → WasStarted (setting_of g (home g.catalogue c)) c t (local_of g (home g.catalogue c) log)
    → (x : ℕ) × (t ≡ (x + 1) * 64 + number_of (home g.catalogue c))
number_is g c t log w = ((clock (setting_of g (home g.catalogue c)).site w.before).ticks, w.ts_is ∙ stamp_ticks (setting_of g (home g.catalogue c)) w.before)

abbrev class_of_act : Act → ℕ
class_of_act (Records c r sends) = c
class_of_act (Sends to m hand) = 0

-- so two attempts with the same timestamp are of the same class
pub same_class : (g : Input) (c k t : ℕ) (log : Log) → IsOfNetwork (home g.catalogue c) → IsOfNetwork (home g.catalogue k)
    → WasStarted (setting_of g (home g.catalogue c)) c t (local_of g (home g.catalogue c) log)
    → WasStarted (setting_of g (home g.catalogue k)) k t (local_of g (home g.catalogue k) log) → c ≡ k
same_class g c k t log i j v w =
    let a = number_is g c t log v in
    let b = number_is g k t log w in
    let at : home g.catalogue c ≡ home g.catalogue k =
    (grind arith) in
    let u : WasStarted (setting_of g (home g.catalogue k)) c t (local_of g (home g.catalogue k) log) =
    subst (λ x. WasStarted (setting_of g x) c t (local_of g x log)) at v in
    let same = same_start (setting_of g (home g.catalogue k)) c k u.later w.later u.before w.before u.queued
    w.queued (sym u.ts_is ∙ w.ts_is) (sym u.is ∙ w.is) in
    ap class_of_act same.1

-- a WRITE among those that were handed

record HasWrite (l : site.Log) (t : ℕ) : Type 0 where
  pub later : site.Log
  pub before : site.Log
  pub from : Site
  pub ts : Ts
  pub class : ClassNo
  pub txn : TxnNo
  pub changes : List Change
  pub is : l ≡ later ++ Handed from (Write ts class txn changes) ∷ before
  pub ts_is : ts.0 ≡ t

more_write : (e : site.Entry) (l : site.Log) (t : ℕ) → HasWrite l t → HasWrite (e ∷ l) t
more_write e l t h = record {
  later = e ∷ h.later;
  before = h.before;
  from = h.from;
  ts = h.ts;
  class = h.class;
  txn = h.txn;
  changes = h.changes;
  is = ap (λ x. e ∷ x) h.is;
  ts_is = h.ts_is;
}

one_write : (from : Site) (m : Msg) (l : site.Log) (t : ℕ) → (contains (write_times l) t ≡ true → HasWrite l t)
    → contains (with_time (write_time_of m) (write_times l)) t ≡ true → HasWrite (Handed from m ∷ l) t
one_write from (Write ts class txn changes) l t f e = elim (true_or_false (ts.0 == t)) [
  | inl p ↦ record { later = []; before = l; from = from; ts = ts; class = class; txn = txn; changes = changes; is = refl; ts_is = eqb-true ts.0 t p }
  | inr p ↦ more_write (Handed from (Write ts class txn changes)) l t (f (only_right (ts.0 == t) (contains (write_times l) t) p e))
]
one_write from m l t f e = more_write (Handed from m) l t (f e)

has_write : (l : site.Log) (t : ℕ) → contains (write_times l) t ≡ true → HasWrite l t
has_write [] t e = cc
has_write (Handed from m ∷ l) t e = one_write from m l t (λ p. has_write l t p) e
has_write (x ∷ l) t e = more_write x l t (has_write l t e)

-- it is in its pipe

in_handed : (c : ℕ) (later : site.Log) (from : Site) (m : Msg) (before : site.Log) → goes_through c m ≡ true
    → (k : ℕ) × (slice_get (all_handed c (later ++ Handed from m ∷ before)) k ≡ Some m)
in_handed c [] from m before e = (length (all_handed c before), rw e (at_seam (all_handed c before) [] m))
in_handed c (Handed a x ∷ later) from m before e = grind (arith, in_left, all_handed, in_handed c later from m before e)
in_handed c (_ ∷ later) from m before e = in_handed c later from m before e

in_its_pipe : (c : ℕ) (l later : site.Log) (from : Site) (m : Msg) (before : site.Log) → l ≡ later ++ Handed from m ∷ before
    → goes_through c m ≡ true → (k : ℕ) × (slice_get (all_of (pipe c l)) k ≡ Some m)
in_its_pipe c l later from m before e f =
    let i = in_handed c later from m before f in
    (i.0, subst (λ xs. slice_get xs i.0 ≡ Some m) (sym (all_there c l ∙ ap (all_handed c) e)) i.1)

not_twice : (g : Input) (log : Log) (a : Site) (n : ℕ) (d : DmNo) (ts : Ts) (k : ClassNo) (txn : TxnNo) (xs : List Change) → IsSmall g
    → IsLawful g (Hand a (D d) n (Write ts k txn xs) ∷ log) → IsPermitted g (Hand a (D d) n (Write ts k txn xs) ∷ log)
    → HasWrite (local_of g (D d) log) ts.0 → ⊥
not_twice g log a n d ts k txn xs s l h w =
    let m : Msg = Write ts k txn xs in
    let now : Log = Hand a (D d) n m ∷ log in
    let old : Msg = Write w.ts w.class w.txn w.changes in
    let c : ℕ = k.0 in
    let j : ℕ = w.class.0 in
    let i = in_pipe g c d now h in
    let is : class_puts g c d now ≡ (all_of (pipe_at g c d log) ++ m ∷ []) ++ i.0 = i.1 ∙ ap (λ x. x ++ i.0) (pipe_with g c d a n m log (same_number k.0)) in
    let place : slice_get (class_puts g c d now) (length (all_of (pipe_at g c d log))) ≡ Some m =
    subst (λ x. slice_get x (length (all_of (pipe_at g c d log))) ≡ Some m) (sym is)
    (in_left (all_of (pipe_at g c d log) ++ m ∷ []) i.0 (length (all_of (pipe_at g c d log))) m (at_seam (all_of (pipe_at g c d log)) [] m)) in
    let new = write_origin g now c d ts k txn xs refl (origin g c d now (length (all_of (pipe_at g c d log))) m h place) in
    let p = in_its_pipe j (local_of g (D d) log) w.later w.from old w.before w.is (same_number w.class.0) in
    let r = in_pipe g j d log h.1 in
    let there : slice_get (class_puts g j d log) p.0 ≡ Some old =
    subst (λ x. slice_get x p.0 ≡ Some old) (sym r.1) (in_left (all_of (pipe_at g j d log)) r.0 p.0 old p.1) in
    let was = write_origin g log j d w.ts w.class w.txn w.changes refl (origin g j d log p.0 old h.1 there) in
    let x = local_grows g (home g.catalogue j) (Hand a (D d) n m ∷ []) log in
    let first = started_on (setting_of g (home g.catalogue j)) j w.ts.0 x.0 (local_of g (home g.catalogue j) log) (local_of g (home g.catalogue j) now) x.1
    (started_of g log d j w.txn.0 w.ts.0 h.1 was) in
    let mine = started_of g now d c txn.0 ts.0 h new in
    let at_c = act_of_network g now d c txn.0 ts.0 s l new in
    let at_j = act_of_network g log d j w.txn.0 w.ts.0 s l.1 was in
    let same : c ≡ j = same_class g c j ts.0 now at_c at_j mine
    (grind (arith, WasStarted, setting_of, home, local_of)) in
    let q : slice_get (all_of (pipe_at g c d log)) p.0 ≡ Some old = subst (λ y. slice_get (all_of (pipe_at g y d log)) p.0 ≡ Some old) (sym same) p.1 in
    let before : slice_get (class_puts g c d now) p.0 ≡ Some old =
    subst (λ y. slice_get y p.0 ≡ Some old) (sym is)
    (in_left (all_of (pipe_at g c d log) ++ m ∷ []) i.0 p.0 old (in_left (all_of (pipe_at g c d log)) (m ∷ []) p.0 old q)) in
    let one = one_of_key (write_at c) (class_puts g c d now) p.0 (length (all_of (pipe_at g c d log))) old m
    ts.0 (writes_strict g c d now h at_c.small) before place (let q : (w.class.0 == c) ≡ true =
    subst (λ x. (w.class.0 == x) ≡ true) (sym same) (same_number w.class.0) in rw q (ap (λ y. Some y) w.ts_is))
    (let q : (k.0 == c) ≡ true = subst (λ x. (k.0 == x) ≡ true) refl (same_number k.0) in rw q (ap (λ y. Some y) refl)) in
    let less = place_within (all_of (pipe_at g c d log)) p.0 old q in
    omega (arith, one, less)

pub is_fresh : (g : Input) (log : Log) (a : Site) (n : ℕ) (d : DmNo) (ts : Ts) (k : ClassNo) (txn : TxnNo) (xs : List Change) → IsSmall g
    → IsLawful g (Hand a (D d) n (Write ts k txn xs) ∷ log) → IsPermitted g (Hand a (D d) n (Write ts k txn xs) ∷ log)
    → contains (write_times (local_of g (D d) log)) ts.0 ≡ false
is_fresh g log a n d ts k txn xs s l h = elim (true_or_false (contains (write_times (local_of g (D d) log)) ts.0)) [
  | inl e ↦ absurd (not_twice g log a n d ts k txn xs s l h (has_write (local_of g (D d) log) ts.0 e))
  | inr e ↦ e
]

-- and its timestamp is above 0
pub is_above : (g : Input) (log : Log) (a : Site) (n : ℕ) (d : DmNo) (ts : Ts) (k : ClassNo) (txn : TxnNo) (xs : List Change)
    → IsPermitted g (Hand a (D d) n (Write ts k txn xs) ∷ log) → 0 < ts.0
is_above g log a n d ts k txn xs h =
    let m : Msg = Write ts k txn xs in
    let now : Log = Hand a (D d) n m ∷ log in
    let c : ℕ = k.0 in
    let i = in_pipe g c d now h in
    let place : slice_get (class_puts g c d now) (length (all_of (pipe_at g c d log))) ≡ Some m =
    subst (λ x. slice_get x (length (all_of (pipe_at g c d log))) ≡ Some m) (sym (i.1 ∙ ap (λ x. x ++ i.0) (pipe_with g c d a n m log (same_number k.0))))
    (in_left (all_of (pipe_at g c d log) ++ m ∷ []) i.0 (length (all_of (pipe_at g c d log))) m (at_seam (all_of (pipe_at g c d log)) [] m)) in
    let new = write_origin g now c d ts k txn xs refl (origin g c d now (length (all_of (pipe_at g c d log))) m h place) in
    let w = started_of g now d c txn.0 ts.0 h new in
    let e = stamp_ticks (setting_of g (home g.catalogue c)) w.before in let t = w.ts_is in
    omega (arith, e, t)
