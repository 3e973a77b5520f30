-- H5's Applies, and that a READ of an undeclared transaction is never spoilt.
use Rattle.sdd_invariants.proofs.All.{Act, Answer, Attempt, Bases, ClassNo, Cond, D, Did, DmNo, Does, HasAnswer, HasApply, Input, IsApplied, IsCommitT, IsHigh, IsPermitted, IsRead, IsWriter, List, Msg, Queued, Read, Records, Setting, Site, Some, T, Ts, TxnNo, U, Use, Write, [], active, ap, append_assoc, arith, at_map, changes_to, clock, commit_act, contains, dm_no, dones_of, drawn_so_far, false, head, home, home_of, in_left, in_mapped, inl, inr, length, local_of, next_stamp, number_of, numbers_to, or_left, or_right, pipe_at, place_within, refl, runs, sends_of_act, setting_of, slice_get, spoils, start_at, start_read, start_u, starts, subst, suc, sym, tm_no, to_site, touches, true, u_stamp, undeclared_conditions, view_of, zero, zero_cond, ℕ, ◌++◌, ◌<◌, ◌==◌, ◌∙◌, ◌∷◌, ◌≡◌, ◌≢◌, ◌≤◌}
use Rattle.sdd_invariants.proofs.Apart.{at_start, drawn_grow, end_at, low_or_high}
use Rattle.sdd_invariants.proofs.Dones.{all_applied}
use Rattle.sdd_invariants.proofs.HoldChain.{hold_chain, u_table}
use Rattle.sdd_invariants.proofs.Releases.{serving}
use Rattle.sdd_invariants.proofs.Clocks.{clock_grows}
use Rattle.sdd_invariants.proofs.ReadsPut.{start_puts}
use Rattle.sdd_invariants.proofs.Recorded.{start_of_active}
use Rattle.sdd_invariants.proofs.Again.{is_spoilt, le_as, stamp_ticks, writer_of}
use Rattle.sdd_invariants.proofs.Answered.{read_of}
use Rattle.sdd_invariants.proofs.Installed.{class_number, head_put, write_origin}
use Rattle.sdd_invariants.proofs.Once.{answered_there}
use Rattle.sdd_invariants.proofs.Starting.{commit_answered}
use Rattle.sdd_invariants.proofs.Applied.{split_applied}
use Rattle.sdd_invariants.proofs.Bools.{same_number}
use Rattle.sdd_invariants.proofs.Lists.{in_none, in_one}
use Rattle.sdd_invariants.proofs.Fair.{home_fair}
use Rattle.sdd_invariants.proofs.Made.{local_grows, own_act, permitted_before}
use Rattle.sdd_log.specs.All.{Log}
use Rattle.sdd_graph.specs.Graph.{classes_of}
use Rattle.sdd_log.specs.Entries.{Entry}
use Rattle.sdd_log.specs.site_module.SiteLog as site

-- first parts of a log
abbrev pub Part : Log → Log → Type 0
Part l m = (f : Log) × (l ≡ f ++ m)

pub part_of : (l f : Log) (x : Entry) (m : Log) → l ≡ f ++ x ∷ m → Part l m
part_of l f x m e = (f ++ x ∷ [], e ∙ sym (append_assoc f (x ∷ []) m))

pub part_join : (a b c : Log) → Part a b → Part b c → Part a c
part_join a b c p q = (p.0 ++ q.0, p.1 ∙ ap (λ l. p.0 ++ l) q.1 ∙ sym (append_assoc p.0 q.0 c))

pub permitted_part : (g : Input) (a b : Log) → IsPermitted g a → Part a b → IsPermitted g b
permitted_part g a b h p = permitted_before g p.0 b (subst (IsPermitted g) p.1 h)

-- an Apply of an undeclared transaction follows its Answer at the module
pub has_number : (ns : List ℕ) (k d : ℕ) → slice_get ns k ≡ Some d → contains ns d ≡ true
has_number [] k d e = cc
has_number (x ∷ ns) zero d e = let p : x ≡ d = cc in let q : (x == d) ≡ true = ap (λ y. x == y) (sym p) ∙ same_number x in or_left (x == d) (contains ns d) q
has_number (x ∷ ns) (suc k) d e = or_right (x == d) (contains ns d) (has_number ns k d e)

pub answered_before : (g : Input) (k : ℕ) (d : DmNo) (log : Log) (x : ℕ) → IsPermitted g log
    → slice_get (numbers_to g.catalogue.dms) k ≡ Some d.0 → HasApply g log d x
    → (a : Attempt) × (before : Log) × Part log before × HasAnswer g before d 0 a × (a.ts ≡ x)
answered_before g k d log x h i p =
    let p1 = part_of log p.later _ p.before p.is in
    let h1 = permitted_part g log p.before h p1 in
    let put = head_put g 0 d p.before (Write p.ts p.of p.txn p.changes) h1 p.head_is in
    let z : p.of.0 ≡ 0 = class_number p.of.0 0 p.ts.0 put.of_class in
    let w = write_origin g p.before 0 d p.ts p.of p.txn p.changes z put in
    let h2 : IsPermitted g (Does U (commit_act g.catalogue w.bases 0 w.attempt) ∷ w.before) = permitted_before g w.later
    (Does U (commit_act g.catalogue w.bases 0 w.attempt) ∷ w.before) (subst (IsPermitted g) w.is h1) in
    let ans = commit_answered g 0 w.before w.bases w.attempt d h2 w.active_is (has_number (numbers_to g.catalogue.dms) k d.0 i) in
    (w.attempt, w.before, part_join log p.before w.before p1 (part_of p.before w.later _ w.before w.is), ans, sym w.ts_is ∙ p.ts_is)

-- so its READ doesn't stand at the head again
pub not_again : (g : Input) (d : DmNo) (log : Log) (a : Attempt) (ts : Ts) (k : ClassNo) (txn : TxnNo) (n : ℕ) (ds : List Cond) (us : List Use) (before : Log)
    → IsPermitted g log → head (pipe_at g 0 d log) ≡ Some (Read ts k txn n ds us) → Part log before → HasAnswer g before d 0 a → a.ts ≡ ts.0 → ⊥
not_again g d log a ts k txn n ds us before h e p w same =
    let ans : Act = Records 0 (Answer w.txn w.attempt (home_of (setting_of g (D d))).dm) w.sends in
    grind (arith, answered_there, head, p.1 ∙ ap (λ l. p.0 ++ l) w.is ∙ sym (append_assoc p.0 w.later (Does (D d) ans ∷ w.before)))

-- of an undeclared transaction's READ: its conditions are on each class, at its timestamp, with all fragments

abbrev conds_in : Msg → List Cond
conds_in (Read ts k txn n ds us) = ds
conds_in m = []

conds_put : (g : Input) (d : DmNo) (l : site.Log) (q : Queued) (k : ℕ) (m : Msg)
    → slice_get (to_site (D d) (sends_of_act (start_at (setting_of g U) 0 l q))) k ≡ Some m
    → conds_in m ≡ undeclared_conditions g.catalogue (next_stamp (setting_of g U) l)
conds_put g d l q k m there = elim (start_puts (setting_of g U) 0 (D d) l q) [
  | inl e ↦ in_none _ k m e there
  | inr p ↦ ap conds_in (sym (in_one _ (start_read (setting_of g U) 0 l q p.0) k m p.1 there))
]

zero_conds : (g : Input) (d : DmNo) (log : Log) (ts : Ts) (k : ClassNo) (txn : TxnNo) (n : ℕ) (ds : List Cond) (us : List Use)
    → IsPermitted g log → head (pipe_at g 0 d log) ≡ Some (Read ts k txn n ds us) → ds ≡ undeclared_conditions g.catalogue ts.0
zero_conds g d log ts k txn n ds us h e =
    let m : Msg = Read ts k txn n ds us in
    let p = head_put g 0 d log m h e in
    let r : IsRead (setting_of g U) (local_of g U p.before) p.act 0 ts.0 txn.0 n = subst
    (λ j. IsRead (setting_of g U) (local_of g U p.before) p.act j ts.0 txn.0 n) (class_number k.0 0 ts.0 p.of_class) p.by in
    conds_put g d (local_of g U p.before) r.queued p.place m (subst (λ y. slice_get (to_site (D d) (sends_of_act y)) p.place ≡ Some m) r.act_is p.there)
    ∙ ap (undeclared_conditions g.catalogue) (sym r.time_is)

pub read_times : (g : Input) (d : DmNo) (log : Log) (ts : Ts) (k : ClassNo) (txn : TxnNo) (n : ℕ) (ds : List Cond) (us : List Use) (j : ℕ) (q : Cond)
    → IsPermitted g log → head (pipe_at g 0 d log) ≡ Some (Read ts k txn n ds us) → slice_get ds j ≡ Some q → q.time.0 ≡ ts.0
read_times g d log ts k txn n ds us j q h e f = grind (arith, in_mapped, slice_get, zero_conds)

pub read_classes : (g : Input) (d : DmNo) (log : Log) (ts : Ts) (k : ClassNo) (txn : TxnNo) (n : ℕ) (ds : List Cond) (us : List Use) (j : ℕ) (q : Cond)
    → IsPermitted g log → head (pipe_at g 0 d log) ≡ Some (Read ts k txn n ds us) → slice_get ds j ≡ Some q
    → slice_get (classes_of g.catalogue) j ≡ Some q.class.0
read_classes g d log ts k txn n ds us j q h e f = grind (arith, in_mapped, slice_get, zero_conds)

pub has_cond : (g : Input) (d : DmNo) (log : Log) (ts : Ts) (k : ClassNo) (txn : TxnNo) (n : ℕ) (ds : List Cond) (us : List Use) (j c : ℕ)
    → IsPermitted g log → head (pipe_at g 0 d log) ≡ Some (Read ts k txn n ds us) → slice_get (classes_of g.catalogue) j ≡ Some c
    → slice_get ds j ≡ Some (zero_cond g ts.0 c)
has_cond g d log ts k txn n ds us j c h e f = grind (arith, zero_conds, at_map)

-- a Commit at the site of its class, as H5 takes it
pub commit_t : (g : Input) (t c : ℕ) (log later before : Log) (bases : Bases) (a : Attempt) → IsPermitted g log
    → home g.catalogue c ≡ T (tm_no t) → log ≡ later ++ Does (home g.catalogue c) (commit_act g.catalogue bases c a) ∷ before
    → active (setting_of g (home g.catalogue c)) c (local_of g (home g.catalogue c) before) ≡ Some a → IsCommitT g t c log a
commit_t g t c log later before bases a h hm e act =
    let hb : IsPermitted g before = permitted_part g log before h (part_of log later _ before e) in
    let st = start_of_active (setting_of g (home g.catalogue c)) c (local_of g (home g.catalogue c) before) a (home_fair g c before hb) act in
    let x = local_grows g (home g.catalogue c) later (Does (home g.catalogue c) (commit_act g.catalogue bases c a) ∷ before) in
    let is : local_of g (home g.catalogue c) log ≡ x.0 ++ Did (commit_act g.catalogue bases c a) ∷ local_of g (home g.catalogue c) before = ap
    (local_of g (home g.catalogue c)) e ∙ x.1 ∙ ap (λ l. x.0 ++ l) (own_act g (home g.catalogue c) (commit_act g.catalogue bases c a) before) in
    grind (arith, active, T (tm_no t))

-- class 0 is never spoilt
spoilt_not : (g : Input) (k t c j kd : ℕ) (d : DmNo) (log : Log) (ts : Ts) (of : ClassNo) (txn : TxnNo) (n : ℕ) (ds : List Cond) (us : List Use) (q : Cond) (w : ℕ)
    → IsPermitted g log → slice_get (numbers_to g.catalogue.tms) k ≡ Some t
    → slice_get (runs (setting_of g (T (tm_no t)))) j ≡ Some c → number_of (T (tm_no t)) ≤ 63
    → home g.catalogue c ≡ T (tm_no t) → slice_get (numbers_to g.catalogue.dms) kd ≡ Some d.0
    → head (pipe_at g 0 d log) ≡ Some (Read ts of txn n ds us) → ts.0 ≤ w → IsWriter g log d c w → ⊥
spoilt_not g k t c j kd d log ts of txn n ds us q w h i run small hm id e le wr =
    let r = (read_of g 0 d log ts of txn n ds us h e).1 in
    let cm = wr.commit in
    let ct = commit_t g t c log cm.later cm.before cm.bases cm.attempt h hm cm.is cm.active_is in
    elim (low_or_high g k t c j log r.later r.before r.queued cm.attempt ct i run small h r.is) [
      | inl lo ↦ (let b = lo.below in omega (arith, b, le, r.ts_is, cm.ts_is))
      | inr hi ↦ (let p1 = part_of log hi.start.later _ hi.start.rest hi.start.is in
          let h1 = permitted_part g log hi.start.rest h p1 in
          let an = answered_before g kd d hi.start.rest (u_stamp g r.before) h1 id (all_applied g hi.start.rest (u_stamp g r.before) kd d.0 h1 hi.dones id) in
          not_again g d log an.0 ts of txn n ds us an.1 h e (part_join log hi.start.rest an.1 p1 an.2) an.3 (an.4 ∙ sym r.ts_is))
    ]

pub never_spoilt : (g : Input) (k t j kd m : ℕ) (d : DmNo) (log : Log) (ts : Ts) (of : ClassNo) (txn : TxnNo) (n : ℕ) (ds : List Cond) (us : List Use) (q : Cond)
    → IsPermitted g log → slice_get (numbers_to g.catalogue.tms) k ≡ Some t
    → slice_get (runs (setting_of g (T (tm_no t)))) j ≡ Some q.class.0 → number_of (T (tm_no t)) ≤ 63
    → home g.catalogue q.class.0 ≡ T (tm_no t) → slice_get (numbers_to g.catalogue.dms) kd ≡ Some d.0
    → head (pipe_at g 0 d log) ≡ Some (Read ts of txn n ds us) → slice_get ds m ≡ Some q
    → spoils (view_of (setting_of g (D d)) (local_of g (D d) log)) q ≡ false
never_spoilt g k t j kd m d log ts of txn n ds us q h i run small hm id e f =
    let s : Setting = setting_of g (D d) in
    let l : site.Log = local_of g (D d) log in
    elim (spoils (view_of s l) q) as (λ b. spoils (view_of s l) q ≡ b → b ≡ false) [
      | true ↦ λ p. (let z = is_spoilt s l q p in
          let wr = writer_of g log d q.class.0 z.place z.ts z.of z.txn z.changes h z.there in
          absurd (spoilt_not g k t q.class.0 j kd d log ts of txn n ds us q z.ts.0 h i run small hm id e
          (subst (λ y. y ≤ z.ts.0) (read_times g d log ts of txn n ds us m q h e f) (le_as q.time.0 _ z.ts.0 z.at_least z.ts_is)) wr))
      | false ↦ λ p. refl
    ] refl

-- H5, the low case: at each Answer of the undeclared transaction the declared one is applied where it touches the module
pub low_applied : (g : Input) (d : DmNo) (c j : ℕ) (later log later2 log2 : Log) (k : ClassNo) (txn reader : TxnNo) (attempt tries : ℕ) (no_of : DmNo) (sends : List (Site × Msg)) (ts : Ts) (ds : List Cond) (us : List Use) (bases : Bases) (a : Attempt)
    → IsPermitted g (later ++ Does (D d) (Records 0 (Answer txn attempt no_of) sends) ∷ log) → number_of (home g.catalogue c) ≤ 63
    → 1 ≤ d.0 → d.0 ≤ g.catalogue.dms → c ≢ 0 → head (pipe_at g 0 d log) ≡ Some (Read ts k reader tries ds us) → slice_get (classes_of g.catalogue) j ≡ Some c
    → later ++ Does (D d) (Records 0 (Answer txn attempt no_of) sends) ∷ log ≡ later2 ++ Does (home g.catalogue c) (commit_act g.catalogue bases c a) ∷ log2
    → touches (zero_cond g ts.0 c).frags (changes_to g bases a d) ≡ true → (IsApplied g log d c a → a.ts < ts.0) × (a.ts < ts.0 → IsApplied g log d c a)
low_applied g d c j later log later2 log2 k txn reader attempt tries no_of sends ts ds us bases a h small lo hi declared e i same t =
    let act : Act = Records 0 (Answer txn attempt no_of) sends in
    let hl : IsPermitted g log = (permitted_before g later (Does (D d) act ∷ log) h).1 in
    split_applied g d (zero_cond g ts.0 c) act later log later2 log2 bases a h small lo hi
    (record { class = 0; txn = txn; attempt = attempt; module_no = no_of; sends = sends; act_is = refl; ts = ts; of = k; reader = reader; tries = tries; conds = ds; uses = us; head_is = e; place = j; there = has_cond g d log ts k reader tries ds us j c hl e i })
    declared same t

-- H5 of a declared and an undeclared transaction, the high case: the undeclared one is applied everywhere before the declared one's Start
pub high_applied : (g : Input) (t c : ℕ) (full log : Log) (a : Attempt) (cm : IsCommitT g t c full a) (ts n k d : ℕ) (hi : IsHigh g t c full log a cm ts n)
    → IsPermitted g full → slice_get (numbers_to g.catalogue.dms) k ≡ Some d → HasApply g hi.start.rest (dm_no d) ts
high_applied g t c full log a cm ts n k d hi h e =
    all_applied g hi.start.rest ts k d (permitted_part g full hi.start.rest h (part_of full hi.start.later _ hi.start.rest hi.start.is)) hi.dones e

-- H5 of two undeclared transactions
pub zero_pair : (g : Input) (k t : ℕ) (log later log2 : Log) (q q2 : Queued) → slice_get (numbers_to g.catalogue.tms) k ≡ Some t
    → IsPermitted g (Does U (start_u g log q) ∷ log) → log ≡ later ++ Does U (start_u g log2 q2) ∷ log2
    → (g.catalogue.dms ≤ dones_of (u_stamp g log2) (local_of g U log)) × (u_stamp g log2 < u_stamp g log)
zero_pair g k t log later log2 q q2 i h e =
    let lu : site.Log = local_of g U log in
    let l2 : site.Log = local_of g U log2 in
    let ts : ℕ = u_stamp g log2 in
    let su = at_start g k t log q i h in
    let c = hold_chain g k t log i h.1 in
    let sv = serving (setting_of g U) k t lu i (u_table g log h.1) in
    let sv2 = serving (setting_of g U) k t l2 i (u_table g log2 (permitted_part g log log2 h.1 (part_of log later _ log2 e))) in
    let x = local_grows g U later (Does U (start_u g log2 q2) ∷ log2) in
    let is : lu ≡ x.0 ++ Did (start_u g log2 q2) ∷ l2 = ap (local_of g U) e ∙ x.1 ∙ ap (λ l. x.0 ++ l) (own_act g U (start_u g log2 q2) log2) in
    let dg = drawn_grow x.0 (Did (start_u g log2 q2) ∷ l2) in
    let there : slice_get (drawn_so_far lu) (starts l2) ≡ Some ts = subst (λ l. slice_get l (starts l2) ≡ Some ts) (sym (ap drawn_so_far is ∙ dg.1))
    (in_left (drawn_so_far (Did (start_u g log2 q2) ∷ l2)) dg.0 (starts l2) ts (end_at (drawn_so_far l2) (starts l2) ts sv2.counted)) in
    let lt : starts l2 < length (drawn_so_far lu) = place_within (drawn_so_far lu) (starts l2) ts there in
    let grew = clock_grows U x.0 (Did (start_u g log2 q2) ∷ l2) in
    let clk : (clock U lu).ticks ≡ (clock U (x.0 ++ Did (start_u g log2 q2) ∷ l2)).ticks = ap (λ l. (clock U l).ticks) is in
    let s1 = stamp_ticks (setting_of g U) lu in
    let s2 = stamp_ticks (setting_of g U) l2 in
    (sv.done (starts l2) ts (omega (arith, lt, sv.counted, su.sent, c.got_hold, c.one_open, c.released)) there, omega (arith, s1, s2, grew, clk))

pub zero_applied : (g : Input) (k t kd d : ℕ) (log later log2 : Log) (q q2 : Queued)
    → slice_get (numbers_to g.catalogue.tms) k ≡ Some t → IsPermitted g (Does U (start_u g log q) ∷ log)
    → log ≡ later ++ Does U (start_u g log2 q2) ∷ log2 → slice_get (numbers_to g.catalogue.dms) kd ≡ Some d → HasApply g log (dm_no d) (u_stamp g log2)
zero_applied g k t kd d log later log2 q q2 i h e f = all_applied g log (u_stamp g log2) kd d h.1 (zero_pair g k t log later log2 q q2 i h e).0 f
