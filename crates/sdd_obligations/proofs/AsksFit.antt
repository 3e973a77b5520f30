-- An ASK that is next to be handed over is for a class that the module runs.
use Rattle.sdd_obligations.proofs.All.{Ask, Bool, Catalogue, Class, ClassNo, D, DmNo, Does, Input, IsAskBy, IsPermitted, IsRead, List, Log, Msg, Read, Setting, Some, T, TmNo, Ts, U, [], ap, arith, class_at, cond, contains, filter, head_put, home, length, local_of, map, numbers_to, or_left, or_right, permitted_before, put_in_by_d, puts_to, range_with_len, runs, same_number, setting_of, slice_get, slice_index_or, subst, suc, sym, tm_no, true, zero, ℕ, ◌-◌, ◌<◌, ◌∷◌, ◌≡◌, ◌≤◌}
use Rattle.sdd_obligations.proofs.Conditions.{act_within, one_within}
use Rattle.sdd_obligations.proofs.Sums.{range_at}

-- the class of a data module's question to a T

t_source : (ks : List Class) (i : ℕ) (t : TmNo) → T t ≡ slice_index_or (map (λ k. T k.tm) ks) i U
    → (i < length ks) × ((slice_index_or ks i (record { name = []; tm = tm_no 0; reads = []; writes = [] })).tm.0 ≡ t.0)
t_source [] i t e = cc
t_source (k ∷ ks) zero t e = (omega arith, (let p : t ≡ k.tm = cc in ap (λ (n : TmNo). n.0) (sym p)))
t_source (k ∷ ks) (suc i) t e = let r = t_source ks i t e in (omega (arith, r.0), r.1)

pub source_t : (cat : Catalogue) (c : ℕ) (t : TmNo) → T t ≡ slice_index_or (U ∷ map (λ k. T k.tm) cat.classes) c U
    → (1 ≤ c) × (c ≤ length cat.classes) × ((class_at cat c).tm.0 ≡ t.0)
source_t cat c t e = grind (arith, t_source)

contains_kept : (f : ℕ → Bool) (xs : List ℕ) (j c : ℕ) → slice_get xs j ≡ Some c → f c ≡ true → contains (filter f xs) c ≡ true
contains_kept f [] j c e h = cc
contains_kept f (x ∷ xs) zero c e h = grind (arith, same_number, or_left)
contains_kept f (x ∷ xs) (suc j) c e h = grind (arith, cond, or_right, contains_kept f xs j c e h)

pub runs_it : (g : Input) (t : TmNo) (c : ℕ) → 1 ≤ c → c ≤ length g.catalogue.classes → (class_at g.catalogue c).tm.0 ≡ t.0
    → contains (runs (setting_of g (T t))) c ≡ true
runs_it g t c l m e =
    let there : slice_get (numbers_to (length g.catalogue.classes)) (c - 1) ≡ Some c =
    subst (λ x. slice_get (range_with_len 1 (length g.catalogue.classes)) (c - 1) ≡ Some x) (omega (arith, l))
    (range_at 1 (length g.catalogue.classes) (c - 1) (omega (arith, l, m))) in
    grind (arith, contains_kept, class_at, same_number)

pub asked_class : (g : Input) (d : DmNo) (t : TmNo) (log : Log) (n : ℕ) (k : ClassNo) (time : Ts) → IsPermitted g log
    → slice_get (puts_to (T t) (local_of g (D d) log)) n ≡ Some (Ask k time) → contains (runs (setting_of g (T t))) k.0 ≡ true
asked_class g d t log n k time h e =
    let p = put_in_by_d g log d (T t) n (Ask k time) h e in
    let r = source_t g.catalogue k.0 t p.by.to_is in
    runs_it g t k.0 r.0 r.1 r.2

-- and none is for class 0, so none goes to U

u_source : (ks : List Class) (i : ℕ) → i < length ks → U ≡ slice_index_or (map (λ k. T k.tm) ks) i U → ⊥
u_source [] i l e = omega (arith, l)
u_source (k ∷ ks) zero l e = cc
u_source (k ∷ ks) (suc i) l e = u_source ks i (omega (arith, l)) e

pub asks_not_u : (g : Input) (d : DmNo) (log : Log) (n : ℕ) (k : ClassNo) (time : Ts) → IsPermitted g log
    → slice_get (puts_to U (local_of g (D d) log)) n ≡ Some (Ask k time) → ⊥
asks_not_u g d log n k time h e =
    let p = put_in_by_d g log d U n (Ask k time) h e in
    let by : IsAskBy (setting_of g (D d)) (local_of g (D d) p.before) U k time = p.by in
    let m : Msg = Read by.ts by.of by.txn by.attempt by.conds by.uses in
    let put = head_put g by.class d p.before m ((permitted_before g p.later (Does (D d) p.act ∷ p.before) (subst (IsPermitted g) p.is h)).1) by.head_is in
    let s : Setting = setting_of g (home g.catalogue by.class) in
    let r : IsRead s (local_of g (home g.catalogue by.class) put.before) put.act by.of.0 by.ts.0 by.txn.0 by.attempt = put.by in
    let w = act_within s (D d) (local_of g (home g.catalogue by.class) put.before) put.act put.place by.ts
    by.of by.txn by.attempt by.conds by.uses r put.there in
    let i = one_within (length g.catalogue.classes) by.conds by.place by.cond_at w by.there in
    let z : by.cond_at.class.0 ≡ k.0 = ap (λ (c : ClassNo). c.0) (sym by.class_is) in
    (grind (arith, u_source))
