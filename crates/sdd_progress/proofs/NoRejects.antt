-- An attempt of an undeclared transaction is never rejected, so where none is under way as many are committed as were started.
use Rattle.sdd_progress.proofs.All.{AllNear, AllZero, ClassNo, Cond, D, DmNo, Does, Hand, Input, IsModule, IsNear, IsPermitted, IsRejectBy, IsWhole, List, Log, Msg, None, Queued, Read, Some, StartedHead, Ts, TxnNo, U, Use, [], active, all_new, arith, ascending, class_number, contains, eqb-true, fragments_in, hand_was_put, handed, head, head_of, head_put, home, in_none, inl, inr, is_tried, last_served, local_of, modules_asked, modules_near, permitted_before, pipe_at, place_of_hand, put_in_by_d, puts_to, queue, refl, sends_of_act, sent_to_each, setting_of, slice_get, start_at, start_read, starts, strict_asked, subst, to_site, true, true_or_false, u_fair, u_not_rejected, u_table, uses_of, was_rejected, ℕ, ◌<◌, ◌==◌, ◌∷◌, ◌≡◌}
use Rattle.sdd_progress.proofs.Lists.{either}
use Rattle.sdd_obligations.specs.All.{IsRead}
use Rattle.sdd_obligations.specs.wire.declared.msg.Msg.TheVariants.{Reject}

-- a module that has a READ exists

near_one : (n d : ℕ) (dms : List ℕ) → AllNear n dms → contains dms d ≡ true → IsNear n d
near_one n d [] h e = cc
near_one n d (x ∷ dms) h e = elim (either (x == d) (contains dms d) e) [
  | inl p ↦ subst (IsNear n) (eqb-true x d p) h.0
  | inr p ↦ near_one n d dms h.1 p
]

read_module : (g : Input) (c : ℕ) (d : DmNo) (log : Log) (ts : Ts) (k : ClassNo) (txn : TxnNo) (n : ℕ) (conds : List Cond) (uses : List Use)
    → IsWhole g.catalogue → IsPermitted g log → head (pipe_at g c d log) ≡ Some (Read ts k txn n conds uses) → IsModule g.catalogue d.0
read_module g c d log ts k txn n conds uses whole h e =
    let s = setting_of g (home g.catalogue c) in
    let m : Msg = Read ts k txn n conds uses in
    let p = head_put g c d log m h e in
    let l = local_of g (home g.catalogue c) p.before in
    let r : IsRead s l p.act c ts.0 txn.0 n = subst (λ j. IsRead s l p.act j ts.0 txn.0 n) (class_number k.0 c ts.0 p.of_class) p.by in
    let there : slice_get (to_site (D d) (sends_of_act (start_at s c l r.queued))) p.place ≡ Some m =
    subst (λ y. slice_get (to_site (D d) (sends_of_act y)) p.place ≡ Some m) r.act_is p.there in
    let sent = sent_to_each (start_read s c l r.queued) (modules_asked s c r.queued.text) d.0 (strict_asked s c r.queued) in
    elim (true_or_false (contains (modules_asked s c r.queued.text) d.0)) [
      | inl q ↦ near_one g.catalogue.dms d.0 (modules_asked s c r.queued.text)
          (modules_near g.catalogue c (ascending (fragments_in (uses_of g.catalogue r.queued.text))) whole) q
      | inr q ↦ grind (arith, in_none, to_site, sends_of_act, start_at, start_read)
    ]

-- no REJECT was handed to U
pub never_rejected : (g : Input) (log : Log) (d : DmNo) (k : ℕ) (ts : Ts) (class by : ClassNo) (write : Ts) → IsWhole g.catalogue → IsPermitted g log
    → slice_get (puts_to U (local_of g (D d) log)) k ≡ Some (Reject ts class by write) → ⊥
never_rejected g log d k ts class by write whole h e =
    let p = put_in_by_d g log d U k (Reject ts class by write) h e in
    let hb = (permitted_before g p.later (Does (D d) p.act ∷ p.before) (subst (IsPermitted g) p.is h)).1 in
    let r : IsRejectBy (setting_of g (D d)) (local_of g (D d) p.before) U p.act ts class by write = p.by in
    let m = read_module g r.class d p.before ts class r.txn r.attempt r.conds r.uses whole hb r.head_is in
    u_not_rejected g d log k ts class by write whole m.0 m.1 h e

not_tried_again : (g : Input) (log : Log) (q : Queued) → IsWhole g.catalogue → IsPermitted g log → active (setting_of g U) 0 (local_of g U log) ≡ None
    → head_of (queue (setting_of g U) 0 (local_of g U log)) ≡ Some q → 0 < q.tries → ⊥
not_tried_again g log q whole h idle e tried =
    let r = was_rejected (setting_of g U) 0 (local_of g U log) q (u_fair g log h) (all_new g U log h) idle e tried in
    let p = place_of_hand g U log r.later (D r.from) (Reject r.ts r.class_of r.by r.write) r.before r.is in
    let here = permitted_before g p.later (Hand (D r.from) U p.number (Reject r.ts r.class_of r.by r.write) ∷ p.rest) (subst (IsPermitted g) p.is h) in
    let put = (hand_was_put g p.rest (D r.from) U p.number (Reject r.ts r.class_of r.by r.write) here.0).1 in
    never_rejected g p.rest r.from (handed (D r.from) U p.rest) r.ts r.class_of r.by r.write whole here.1 put

head_started : (n : ℕ) (qs : List Queued) → StartedHead n qs → (q : Queued) × (head_of qs ≡ Some q) × (0 < q.tries)
head_started n [] h = absurd h
head_started n (q ∷ qs) h = (q, refl, h.1)

pub all_served : (g : Input) (log : Log) → IsWhole g.catalogue → IsPermitted g log → active (setting_of g U) 0 (local_of g U log) ≡ None
    → (starts (local_of g U log) ≡ (last_served (setting_of g U) (local_of g U log)).commits) × AllZero (queue (setting_of g U) 0 (local_of g U log))
all_served g log whole h idle = elim (is_tried (setting_of g U) (local_of g U log) (u_table g log h)) [
  | inl p ↦ p
  | inr p ↦ (let q = head_started p.0 (queue (setting_of g U) 0 (local_of g U log)) p.2 in absurd (not_tried_again g log q.0 whole h idle q.1 q.2))
]
