-- A READY or REJECT goes to the site that runs its class; no REJECT and no ASK goes to U.
use Rattle.sdd_obligations.proofs.All.{All-get_or, Bool, Catalogue, ClassNo, Cond, D, DmNo, Does, Input, IsClassHere, IsPermitted, IsReadyBy, IsRejectBy, IsServedClass, IsWhole, List, Log, Msg, Read, Ready, Reject, Setting, Site, Some, T, Ts, TxnNo, U, Use, View, [], ap, arith, class_at, class_number, cond, false, filter, head, home, home_of, in_filtered, in_range, is_verdict, length, local_of, never_spoilt, not_both, not_zero, numbers_to, permitted_before, pipe_at, put_in_by_d, puts_to, read_classes, refl, runs, same_number, same_or_not, setting_of, slice_get, source_of, spoiler, spoils, subst, suc, sym, tm_no, true, view_of, zero, ℕ, ◌-◌, ◌==◌, ◌∙◌, ◌∷◌, ◌≡◌, ◌≤◌}
use Rattle.sdd_obligations.proofs.HoldsFit.{at_place}
use Rattle.sdd_obligations.proofs.Piping.{source_is_home}
use Rattle.sdd_obligations.proofs.Verdicts.{in_class, two_same}
use Rattle.sdd_invariants.proofs.Again.{first_there}

-- to the site that runs its class

of_source : (s : Setting) (j c : ℕ) (b : Site) → IsClassHere s j → b ≡ source_of (home_of s) j → j ≡ c → b ≡ home s.catalogue c
of_source s j c b l e q = e ∙ source_is_home s j (omega (arith, l)) ∙ ap (home s.catalogue) q

pub verdict_home : (g : Input) (d : DmNo) (log : Log) (k : ℕ) (m : Msg) (b : Site) (ts c : ℕ) → IsPermitted g log
    → slice_get (puts_to b (local_of g (D d) log)) k ≡ Some m → is_verdict ts c m ≡ true → b ≡ home g.catalogue c
verdict_home g d log k (Ready t kc counts) b ts c h e f =
    let p = put_in_by_d g log d b k (Ready t kc counts) h e in
    let hb = (permitted_before g p.later (Does (D d) p.act ∷ p.before) (subst (IsPermitted g) p.is h)).1 in
    let by : IsReadyBy (setting_of g (D d)) (local_of g (D d) p.before) b p.act t kc counts = p.by in
    let own : kc.0 ≡ by.class = class_number kc.0 by.class t.0 (in_class g d p.before hb by.class (Read t kc by.txn by.attempt by.conds by.uses) by.head_is) in
    of_source (setting_of g (D d)) by.class c b by.here by.to_is (sym own ∙ (two_same t.0 ts kc.0 c f).1)
verdict_home g d log k (Reject t kc by_class write) b ts c h e f =
    let p = put_in_by_d g log d b k (Reject t kc by_class write) h e in
    let hb = (permitted_before g p.later (Does (D d) p.act ∷ p.before) (subst (IsPermitted g) p.is h)).1 in
    let by : IsRejectBy (setting_of g (D d)) (local_of g (D d) p.before) b p.act t kc by_class write = p.by in
    let own : kc.0 ≡ by.class = class_number kc.0 by.class t.0 (in_class g d p.before hb by.class (Read t kc by.txn by.attempt by.conds by.uses) by.head_is) in
    of_source (setting_of g (D d)) by.class c b by.here by.to_is (sym own ∙ (two_same t.0 ts kc.0 c f).1)
verdict_home g d log k m b ts c h e f = cc

-- of U only class 0 is

home_zero : (cat : Catalogue) (j : ℕ) → U ≡ home cat j → j ≡ 0
home_zero cat j e = grind (arith, same_or_not, class_at)

-- a declared class's T and its place there

pub kept_place : (f : ℕ → Bool) (xs : List ℕ) (i x : ℕ) → slice_get xs i ≡ Some x → f x ≡ true → (j : ℕ) × (slice_get (filter f xs) j ≡ Some x)
kept_place f [] i x e h = cc
kept_place f (y ∷ xs) zero x e h = let p : y ≡ x = cc in let q : f y ≡ true = subst (λ z. f z ≡ true) (sym p) h in (0, rw q e)
kept_place f (y ∷ xs) (suc i) x e h =
    let k = kept_place f xs i x e h in
    elim (f y) as (λ b. (j : ℕ) × (slice_get (cond b (y ∷ filter f xs) (filter f xs)) j ≡ Some x)) [ true ↦ (suc k.0, k.1) | false ↦ k ]

runs_place : (g : Input) (c : ℕ) → 1 ≤ c → c ≤ length g.catalogue.classes
    → (j : ℕ) × (slice_get (runs (setting_of g (T (tm_no (class_at g.catalogue c).tm.0)))) j ≡ Some c)
runs_place g c l m =
    kept_place (λ k. (class_at g.catalogue k).tm.0 == (class_at g.catalogue c).tm.0)
    (numbers_to (length g.catalogue.classes)) (c - 1) c (at_place (length g.catalogue.classes) c l m) (same_number (class_at g.catalogue c).tm.0)

class_served : (cat : Catalogue) (c : ℕ) → IsWhole cat → 1 ≤ c → c ≤ length cat.classes → IsServedClass cat (class_at cat c)
class_served cat c w l m = grind (arith, All-get_or)

-- so no REJECT goes to U

not_spoilt : (g : Input) (d : DmNo) (log : Log) (ts : Ts) (k : ClassNo) (txn : TxnNo) (n : ℕ) (ds : List Cond) (us : List Use) (q : Cond) → IsWhole g.catalogue
    → 1 ≤ d.0 → d.0 ≤ g.catalogue.dms → IsPermitted g log → head (pipe_at g 0 d log) ≡ Some (Read ts k txn n ds us)
    → spoiler (view_of (setting_of g (D d)) (local_of g (D d) log)) ds ≡ Some q → ⊥
not_spoilt g d log ts k txn n ds us q w l m h e f =
    let v : View = view_of (setting_of g (D d)) (local_of g (D d) log) in
    let i = in_filtered (spoils v) ds 0 q (first_there _ q f) in
    let c = in_range 1 (length g.catalogue.classes) i.1 q.class.0 (read_classes g d log ts k txn n ds us i.1 q h e i.2) in
    let up : q.class.0 ≤ length g.catalogue.classes = omega (arith, c.1) in
    let s = class_served g.catalogue q.class.0 w c.0 up in
    let t : ℕ = (class_at g.catalogue q.class.0).tm.0 in
    let p = runs_place g q.class.0 c.0 up in
    let hm : home g.catalogue q.class.0 ≡ T (tm_no t) = rw (not_zero q.class.0 c.0) refl in
    let a = s.module_to in let b = w.few_tms in
    let no = never_spoilt g (t - 1) t p.0 (d.0 - 1) i.1 d log ts k txn n ds us q h
    (at_place g.catalogue.tms t s.module_from s.module_to) p.1 (omega (arith, a, b)) hm (at_place g.catalogue.dms d.0 l m) e i.2 in
    not_both (spoils v q) i.0 no

pub u_not_rejected : (g : Input) (d : DmNo) (log : Log) (n : ℕ) (ts : Ts) (k by_class : ClassNo) (write : Ts) → IsWhole g.catalogue → 1 ≤ d.0
    → d.0 ≤ g.catalogue.dms → IsPermitted g log → slice_get (puts_to U (local_of g (D d) log)) n ≡ Some (Reject ts k by_class write) → ⊥
u_not_rejected g d log n ts k by_class write w l m h e =
    let p = put_in_by_d g log d U n (Reject ts k by_class write) h e in
    let hb = (permitted_before g p.later (Does (D d) p.act ∷ p.before) (subst (IsPermitted g) p.is h)).1 in
    let by : IsRejectBy (setting_of g (D d)) (local_of g (D d) p.before) U p.act ts k by_class write = p.by in
    let z : by.class ≡ 0 = (home_zero (setting_of g (D d)).catalogue by.class (by.to_is ∙ source_is_home (setting_of g (D d)) by.class (omega (arith, by.here)))) in
    let hd : head (pipe_at g 0 d p.before) ≡ Some (Read ts k by.txn by.attempt by.conds by.uses) =
    subst (λ j. head (pipe_at g j d p.before) ≡ Some (Read ts k by.txn by.attempt by.conds by.uses)) z
    by.head_is in
    not_spoilt g d p.before ts k by.txn by.attempt by.conds by.uses by.cond_by w l m hb hd by.spoiler_is
