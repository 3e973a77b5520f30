-- The copies of a data module, by its own log, are those that the history gives.
use Rattle.sdd_lawful.proofs.All.{Act, AppliedBefore, Apply, Change, ClassNo, Committed, Contains, Contains-append_cases, Contains-append_right, Contains-filter, Contains-from_filter, Contains-from_map, Contains-map, Contains-nil, D, Did, DmNo, Does, Input, IsCommitted, IsMadeAt, IsPermitted, IsRecordAt, IsSoundCatalogue, IsWrite, List, Log, Msg, Rec, Records, Site, SiteLog, Some, Ts, TxnNo, Write, [], and_left, and_right, ap, append_assoc, applied, applied_if, apply_of_head, arith, changes_at, changes_in, class_no, class_number, commit_act, commit_put_is, dm_no, eqb-true, has_copy, head, head_put, history, home, inl, inr, is_apply, length, local_of, map, permitted_before, pipe, pipe_at, place_of_act, refl, same_number, sends_of_act, slice_get, subst, sym, time_at, to_site, true, true_or_false, txn_no, ℕ, ◌&&◌, ◌++◌, ◌==◌, ◌∙◌, ◌∷◌, ◌≡◌}
use Rattle.sdd_lawful.proofs.Applied.{IsApplyIn, apply_made, apply_rec}
use Rattle.sdd_lawful.proofs.Applies.{apply_of_committed}
use Rattle.sdd_lawful.proofs.Classes.{at_home, further_back, home_setting}
use Rattle.sdd_lawful.proofs.Committed.{commit_of_log, same_committed}
use Rattle.sdd_lawful.proofs.Makers.{act_kind}
use Rattle.sdd_lawful.proofs.Places.{entries_in_order, place_rises, recorded_there}
use Rattle.sdd_lawful.proofs.Started.{act_local}
use Rattle.sdd_invariants.specs.site_module.SiteLog as site

-- a change with its date
abbrev pub at_date : ℕ → Change → ℕ × Change
at_date t c = (t, c)

-- a WRITE at the head of a pipe is of a committed transaction: its changes of which the module has a copy

pub record IsWriteOf (g : Input) (log : Log) (c n ts : ℕ) (d : ℕ) (changes : List Change) : Type 0 where
  pub writer : Committed
  pub is_committed : IsCommitted (history log) writer
  pub txn_is : writer.start.txn ≡ n
  pub class_is : writer.start.class ≡ c
  pub ts_is : writer.start.ts ≡ ts
  pub changes_are : changes ≡ changes_at g.catalogue d writer.changes

abbrev written : Msg → List Change
written (Write ts class txn changes) = changes
written m = []

pub head_commit : (g : Input) (log front rest : Log) (c : ℕ) (d : ℕ) (ts : Ts) (of : ClassNo) (txn : TxnNo) (changes : List Change) → IsSoundCatalogue g.catalogue
    → IsPermitted g log → log ≡ front ++ rest → head (pipe_at g c (dm_no d) rest) ≡ Some (Write ts of txn changes) → IsWriteOf g log c txn.0 ts.0 d changes
head_commit g log front rest c d ts of txn changes sound h is top =
    let m : Msg = Write ts of txn changes in
    let hr = permitted_before g front rest (subst (IsPermitted g) is h) in
    let put = head_put g c (dm_no d) rest m hr top in
    let z : of.0 ≡ c = class_number of.0 c ts.0 put.of_class in
    let r : IsWrite (home_setting g c) (at_home g c put.before) put.act c ts.0 txn.0 = subst
    (λ j. IsWrite (home_setting g c) (at_home g c put.before) put.act j ts.0 txn.0) z put.by in
    let sent = subst (λ y. slice_get (to_site (D (dm_no d)) (sends_of_act y)) put.place ≡ Some m) r.act_is put.there in
    let same = commit_put_is (home_setting g c) c r.bases r.attempt (dm_no d) put.place m sent in
    let whole : log ≡ (front ++ put.later) ++ Does (home g.catalogue c) (commit_act g.catalogue r.bases c r.attempt) ∷ put.before =
    is ∙ ap (λ k. front ++ k) (put.is ∙ ap (λ y. put.later ++ Does (home g.catalogue c) y ∷ put.before) r.act_is)
    ∙ sym (append_assoc front put.later (Does (home g.catalogue c) (commit_act g.catalogue r.bases c r.attempt) ∷ put.before)) in
    let o = commit_of_log g log (front ++ put.later) put.before c r.bases r.attempt sound h whole r.active_is in
    record {
      writer = o.committed;
      is_committed = o.is_committed;
      txn_is = o.txn_is ∙ sym r.number_is;
      class_is = o.class_is;
      ts_is = o.ts_is ∙ sym r.time_is;
      changes_are = ap written same.0 ∙ ap (changes_at g.catalogue d) (sym o.changes_are);
    }

-- which changes are applied

pub record IsAppliedFrom (c : ℕ) (l : SiteLog) (x : ℕ × Change) : Type 0 where
  pub later : SiteLog
  pub rec : Rec
  pub sends : List (Site × Msg)
  pub before : SiteLog
  pub is : l ≡ later ++ Did (Records c rec sends) ∷ before
  pub applies : is_apply rec ≡ true
  pub there : Contains (changes_in (head (pipe c before))) x

applied_past : (c : ℕ) (e : site.Entry) (l : SiteLog) (x : ℕ × Change) → IsAppliedFrom c l x → IsAppliedFrom c (e ∷ l) x
applied_past c e l x i =
    record { later = e ∷ i.later; rec = i.rec; sends = i.sends; before = i.before; is = ap (λ k. e ∷ k) i.is; applies = i.applies; there = i.there }

pub applied_from : (c : ℕ) (l : SiteLog) (x : ℕ × Change) → Contains (applied c l) x → IsAppliedFrom c l x
applied_from c [] x h = absurd (Contains-nil x h)
applied_from c (Did (Records k r sends) ∷ l) x h = elim (true_or_false ((k == c) && is_apply r)) [
  | inl p ↦ elim (Contains-append_cases (applied c l) (changes_in (head (pipe c l))) x (rw p at h)) [
    | inl i ↦ applied_past c (Did (Records k r sends)) l x (applied_from c l x i)
    | inr i ↦ (let e : k ≡ c = eqb-true k c (and_left (k == c) (is_apply r) p) in
        record { later = []; rec = r; sends = sends; before = l; is = ap (λ j. Did (Records j r sends) ∷ l) e; applies = and_right (k == c) (is_apply r) p; there = i })
  ]
  | inr p ↦ applied_past c (Did (Records k r sends)) l x (applied_from c l x (rw p at h))
]
applied_from c (y ∷ l) x h = applied_past c y l x (applied_from c l x h)

applied_has : (c : ℕ) (later before : SiteLog) (r : Rec) (sends : List (Site × Msg)) (x : ℕ × Change) → is_apply r ≡ true
    → Contains (changes_in (head (pipe c before))) x → Contains (applied c (later ++ Did (Records c r sends) ∷ before)) x
applied_has c [] before r sends x a h = rw (same_number c, a) (Contains-append_right (applied c before) (changes_in (head (pipe c before))) x h)
applied_has c (Did (Records k q ss) ∷ later) before r sends x a h =
    applied_if ((k == c) && is_apply q) (applied c (later ++ Did (Records c r sends) ∷ before))
    (changes_in (head (pipe c (later ++ Did (Records c r sends) ∷ before)))) x (applied_has c later before r sends x a h)
applied_has c (_ ∷ later) before r sends x a h = applied_has c later before r sends x a h

-- in the history: a change of a committed transaction that is applied before the place
pub record IsChangeOf (g : Input) (log : Log) (d k : ℕ) (x : ℕ × Change) : Type 0 where
  pub writer : Committed
  pub is_committed : IsCommitted (history log) writer
  pub applied : AppliedBefore (history log) writer.start.txn d k
  pub date_is : x.0 ≡ writer.start.ts
  pub change : Contains writer.changes x.1

pub record IsApplyRec (r : Rec) : Type 0 where
  pub txn : TxnNo
  pub class : ClassNo
  pub dm : DmNo
  pub ts : Ts
  pub is : r ≡ Apply txn class dm ts

pub apply_is : (r : Rec) → is_apply r ≡ true → IsApplyRec r
apply_is (Apply txn class dm ts) e = record { txn = txn; class = class; dm = dm; ts = ts; is = refl }
apply_is r e = cc

pub change_of : (g : Input) (log : Log) (d k : ℕ) (q : Rec) (m : IsMadeAt log k q) (c : ℕ) (x : ℕ × Change) → IsSoundCatalogue g.catalogue → IsPermitted g log
    → (i : IsAppliedFrom c (local_of g (D (dm_no d)) m.before) x) → IsApplyRec i.rec → IsChangeOf g log d k x
change_of g log d k q m c x sound h i r =
    let act : Act = Records c (Apply r.txn r.class r.dm r.ts) i.sends in
    let is : local_of g (D (dm_no d)) m.before ≡ i.later ++ Did act ∷ i.before = i.is ∙ ap (λ y. i.later ++ Did (Records c y i.sends) ∷ i.before) r.is in
    let p = place_of_act g (D (dm_no d)) m.before i.later act i.before is in
    let f = further_back log m.later m.before m.entry (Does (D (dm_no d)) act) p.later p.rest m.is p.is in
    let now = permitted_before g f.0 (Does (D (dm_no d)) act ∷ p.rest) (subst (IsPermitted g) f.1 h) in
    let w = apply_of_head g p.rest (dm_no d) c r.txn r.class r.dm r.ts i.sends now in
    let o = head_commit g log (f.0 ++ Does (D (dm_no d)) act ∷ []) p.rest c d r.ts r.class r.txn w.0 sound h
    (f.1 ∙ sym (append_assoc f.0 (Does (D (dm_no d)) act ∷ []) p.rest)) w.1 in
    let dm : r.dm ≡ dm_no d = act_kind g (D (dm_no d)) act p.rest now in
    let there : IsRecordAt (history log) (length (history p.rest)) (Apply r.txn r.class r.dm r.ts) = subst
    (λ l. IsRecordAt (history l) (length (history p.rest)) (Apply r.txn r.class r.dm r.ts)) (sym f.1)
    (recorded_there f.0 (Does (D (dm_no d)) act) p.rest (Apply r.txn r.class r.dm r.ts) refl) in
    let at_d : IsRecordAt (history log) (length (history p.rest)) (Apply r.txn r.class (dm_no d) r.ts) = subst
    (λ y. IsRecordAt (history log) (length (history p.rest)) (Apply r.txn r.class y r.ts)) dm there in
    let rises = place_rises p.later (Does (D (dm_no d)) act) p.rest (Apply r.txn r.class r.dm r.ts) refl in
    let size : length (history m.before) ≡ length (history (p.later ++ Does (D (dm_no d)) act ∷ p.rest)) = ap (λ l. length (history l)) p.is in
    let place = m.place_is in
    let top : head (pipe c i.before) ≡ Some (Write r.ts r.class r.txn w.0) = subst
    (λ l. head (pipe c l) ≡ Some (Write r.ts r.class r.txn w.0)) p.local_is w.1 in
    let in_write : Contains (map (λ y. at_date r.ts.0 y) w.0) x = subst (λ t. Contains (changes_in t) x) top i.there in
    let z = Contains-from_map (λ y. at_date r.ts.0 y) w.0 x in_write in
    let in_all = Contains-from_filter (λ (y : Change). has_copy g.catalogue d y.frag.0) o.writer.changes z.0
    (subst (λ ys. Contains ys z.0) o.changes_are z.1) in
    record {
      writer = o.writer;
      is_committed = o.is_committed;
      applied = record {
        place = length (history p.rest);
        applied = record { class = r.class.0; ts = r.ts.0; is_recorded = subst (λ n. IsRecordAt (history log) (length (history p.rest)) (Apply (txn_no n) r.class (dm_no d) r.ts)) (sym o.txn_is) at_d };
        before = omega arith;
      };
      date_is = ap (λ (y : ℕ × Change). y.0) z.2 ∙ sym o.ts_is;
      change = subst (Contains o.writer.changes) (ap (λ (y : ℕ × Change). y.1) (sym z.2)) in_all.0;
    }

-- and the other way round
pub change_there : (g : Input) (log : Log) (d k : ℕ) (q : Rec) (m : IsMadeAt log k q) (t : Committed) (y : Change) → IsSoundCatalogue g.catalogue → IsPermitted g log
    → IsCommitted (history log) t → AppliedBefore (history log) t.start.txn d k → Contains t.changes y → has_copy g.catalogue d y.frag.0 ≡ true
    → Contains (applied t.start.class (local_of g (D (dm_no d)) m.before)) (at_date t.start.ts y)
change_there g log d k q m t y sound h ct b in_it copied =
    let a : IsApplyIn g log t.start.txn t.start.class d t.start.ts b.place = (apply_of_committed g log t d b.place sound h ct b.applied).apply in
    let act : Act = Records t.start.class (apply_rec t.start.txn t.start.class d t.start.ts) a.sends in
    let o = head_commit g log (a.later ++ Does (D (dm_no d)) act ∷ []) a.before t.start.class d (time_at t.start.ts) (class_no t.start.class)
    (txn_no t.start.txn) a.changes sound h (a.is ∙ sym (append_assoc a.later (Does (D (dm_no d)) act ∷ []) a.before)) a.head_is in
    let same : o.writer ≡ t = same_committed g log sound h o.writer t o.is_committed ct o.txn_is in
    let changes : a.changes ≡ changes_at g.catalogue d t.changes = o.changes_are ∙ ap (λ (z : Committed). changes_at g.catalogue d z.changes) same in
    let some = Contains-filter (λ (z : Change). has_copy g.catalogue d z.frag.0) t.changes y in_it copied in
    let dated_one = Contains-map (λ z. at_date t.start.ts z) a.changes y (subst (λ ys. Contains ys y) (sym changes) some) in
    let z = entries_in_order log b.place k (apply_rec t.start.txn t.start.class d t.start.ts) q
    (apply_made g log t.start.txn t.start.class d t.start.ts b.place a) m b.before in
    let l = act_local g (D (dm_no d)) act z.between a.before in
    let here : local_of g (D (dm_no d)) m.before ≡ l.0 ++ Did act ∷ local_of g (D (dm_no d)) a.before = ap (local_of g (D (dm_no d))) z.is ∙ l.1 in
    let there = subst (λ w. Contains (changes_in w) (at_date t.start.ts y)) (sym a.head_is) dated_one in
    subst (λ w. Contains (applied t.start.class w) (at_date t.start.ts y)) (sym here)
    (applied_has t.start.class l.0 (local_of g (D (dm_no d)) a.before) (apply_rec t.start.txn t.start.class d t.start.ts) a.sends (at_date t.start.ts y) refl there)
