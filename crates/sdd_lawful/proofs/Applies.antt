-- The history of a permitted log keeps the law of Applies.
use Rattle.sdd_lawful.proofs.All.{AppliedBefore, Committed, D, Does, GoesTo, Input, IsAnswered, IsApplied, IsCommitted, IsEarlier, IsMadeAt, IsOfCommit, IsPermitted, IsRecordAt, IsSoundCatalogue, KeepsApplies, Log, Msg, Rec, Records, Some, Touches, Write, [], ap, append_assoc, applied_below, arith, around_applied, by_change, changes_to, class_no, commit_act, dm_no, head, history, home, inl, inr, length, lower_same_higher, pipe_at, record_at, refl, subst, sym, time_at, time_of, txn_no, ℕ, ◌++◌, ◌<◌, ◌∙◌, ◌∷◌, ◌≡◌}
use Rattle.sdd_lawful.proofs.Answered.{IsAnswerIn, answer_in, answer_made, answer_rec, read_msg}
use Rattle.sdd_lawful.proofs.Applied.{IsApplyIn, applied_before, applied_there, apply_in, apply_made, apply_rec}
use Rattle.sdd_lawful.proofs.Classes.{further_back}
use Rattle.sdd_lawful.proofs.Committed.{IsCommittedIn, commit_of_log, committed_in, same_committed}
use Rattle.sdd_lawful.proofs.Homes.{home_small}
use Rattle.sdd_lawful.proofs.Places.{entries_in_order, place_rises}
use Rattle.sdd_lawful.proofs.Touched.{goes_module, goes_some, some_goes}
use Rattle.sdd_laws.specs.Deeds as deeds

-- an Apply is of a committed transaction
pub of_commit : (g : Input) (log : Log) → IsSoundCatalogue g.catalogue → IsPermitted g log → (n class d ts k : ℕ)
    → IsRecordAt (history log) k (apply_rec n class d ts) → IsOfCommit g.catalogue (history log) n class d ts k
of_commit g log sound h n class d ts k s =
    let x = apply_in g log n class d ts k h s in
    let y = x.of in
    let f = further_back log x.later x.before (Does (D (dm_no d)) (Records class (apply_rec n class d ts) x.sends))
    (Does (home g.catalogue class) (commit_act g.catalogue y.bases class y.attempt)) y.later y.before x.is y.is in
    let c = commit_of_log g log f.0 y.before class y.bases y.attempt sound h f.1 y.active_is in
    let rises = place_rises y.later (Does (home g.catalogue class) (commit_act g.catalogue y.bases class y.attempt)) y.before _ refl in
    let place = x.place_is in
    let at = c.place_is in
    record {
      committed = c.committed;
      is_committed = c.is_committed;
      txn_is = c.txn_is ∙ sym y.number_is;
      class_is = c.class_is;
      ts_is = c.ts_is ∙ sym y.ts_is;
      before = omega (arith, ap (λ l. length (history l)) y.is);
      goes = grind (arith, some_goes, changes_to, dm_no);
    }

-- of a committed transaction
pub record IsApplyOfCommitted (g : Input) (log : Log) (t : Committed) (d k : ℕ) : Type 0 where
  pub apply : IsApplyIn g log t.start.txn t.start.class d t.start.ts k
  pub goes : GoesTo g.catalogue t d

pub apply_of_committed : (g : Input) (log : Log) (t : Committed) (d k : ℕ) → IsSoundCatalogue g.catalogue → IsPermitted g log
    → IsCommitted (history log) t → deeds.IsApplied (history log) t.start.txn d k → IsApplyOfCommitted g log t d k
apply_of_committed g log t d k sound h c a =
    let o = of_commit g log sound h t.start.txn a.class d a.ts k a.is_recorded in
    let same : o.committed ≡ t = same_committed g log sound h o.committed t o.is_committed c o.txn_is in
    let there : IsRecordAt (history log) k (apply_rec t.start.txn t.start.class d t.start.ts) = subst
    (λ j. IsRecordAt (history log) k (apply_rec t.start.txn t.start.class d j)) (sym o.ts_is ∙ ap (λ (y : Committed). y.start.ts) same)
    (subst (λ j. IsRecordAt (history log) k (apply_rec t.start.txn j d a.ts)) (sym o.class_is ∙ ap (λ (y : Committed). y.start.class) same) a.is_recorded) in
    record { apply = apply_in g log t.start.txn t.start.class d t.start.ts k h there; goes = subst (λ y. GoesTo g.catalogue y d) same o.goes }

-- what is applied before a place of the history is applied in the log up to there
pub seen_applied : (g : Input) (full : Log) (t : Committed) (c : IsCommittedIn g full t) (d j k : ℕ) (r : Rec) (m : IsMadeAt full k r)
    → IsApplyIn g full t.start.txn t.start.class d t.start.ts j → j < k → IsApplied g m.before (dm_no d) t.start.class c.running
seen_applied g full t c d j k r m x l =
    let z = entries_in_order full j k (apply_rec t.start.txn t.start.class d t.start.ts) r (apply_made g full t.start.txn t.start.class d t.start.ts j x) m l in
    let named : apply_rec t.start.txn t.start.class d t.start.ts ≡ apply_rec c.running.txn t.start.class d c.running.ts = ap
    (λ y. apply_rec y t.start.class d t.start.ts) (sym c.txn_is) ∙ ap (λ y. apply_rec c.running.txn t.start.class d y) (sym c.ts_is) in
    grind (arith, applied_there)

-- and the other way round
pub applied_seen : (g : Input) (full : Log) (t : Committed) (c : IsCommittedIn g full t) (d k : ℕ) (r : Rec) (m : IsMadeAt full k r)
    → IsPermitted g full → IsApplied g m.before (dm_no d) t.start.class c.running → AppliedBefore (history full) t.start.txn d k
applied_seen g full t c d k r m h x =
    let front : Log = m.later ++ m.entry ∷ [] in
    let b = applied_before g full front m.before (dm_no d) t.start.class c.running (m.is ∙ sym (append_assoc m.later (m.entry ∷ []) m.before)) h x in
    subst (λ j. AppliedBefore (history full) t.start.txn d j) m.place_is (subst (λ n. AppliedBefore (history full) n d (length (history m.before))) c.txn_is b)

-- where a class's message is next at a module, its transactions with smaller times are applied, and none with a greater one
pub record IsSplitAt (g : Input) (full : Log) (t : Committed) (c : IsCommittedIn g full t) (d k : ℕ) (r : Rec) (m : IsMadeAt full k r) (time : ℕ) : Type 0 where
  pub smaller : t.start.ts < time → AppliedBefore (history full) t.start.txn d k
  pub greater : time < t.start.ts → IsApplied g m.before (dm_no d) t.start.class c.running → ⊥

pub split_at : (g : Input) (full : Log) (t : Committed) (c : IsCommittedIn g full t) (d k : ℕ) (r : Rec) (m : IsMadeAt full k r) (msg : Msg)
    → IsSoundCatalogue g.catalogue → IsPermitted g full → GoesTo g.catalogue t d → head (pipe_at g t.start.class (dm_no d) m.before) ≡ Some msg
    → IsSplitAt g full t c d k r m (time_of msg)
split_at g full t c d k r m msg sound h goes e =
    let front : Log = m.later ++ m.entry ∷ [] in
    let is : full ≡ front ++ m.before = m.is ∙ sym (append_assoc m.later (m.entry ∷ []) m.before) in
    let at = goes_module g.catalogue sound t d goes in
    let w = around_applied g t.start.class (dm_no d) front m.before c.later c.before msg c.bases c.running (subst (IsPermitted g) is h)
    (omega (arith, home_small g.catalogue sound t.start.class)) at.0 at.1 e (sym is ∙ c.is) (goes_some g full t c d goes) in
    record { smaller = λ l. applied_seen g full t c d k r m h (w.0 (omega (arith, c.ts_is))); greater = λ l x. w.1 (omega arith) x }

-- one Apply of a transaction at a module
not_twice : {A : Type 0} (g : Input) (log : Log) (t : Committed) (c : IsCommittedIn g log t) (d j k : ℕ) → IsSoundCatalogue g.catalogue → IsPermitted g log
    → IsApplyIn g log t.start.txn t.start.class d t.start.ts j → IsApplyIn g log t.start.txn t.start.class d t.start.ts k → j < k → A
not_twice g log t c d j k sound h x y l =
    let i = seen_applied g log t c d j k (apply_rec t.start.txn t.start.class d t.start.ts) (apply_made g log t.start.txn t.start.class d t.start.ts k y) x l in
    let b = applied_below g y.before (dm_no d) t.start.class (time_at t.start.ts) (class_no t.start.class)
    (txn_no t.start.txn) y.changes c.running y.permitted.1 (omega (arith, home_small g.catalogue sound t.start.class)) y.head_is i in
    let ts = c.ts_is in
    absurd (omega arith)

pub one_apply : (g : Input) (log : Log) → IsSoundCatalogue g.catalogue → IsPermitted g log → (n d j k : ℕ) → deeds.IsApplied (history log) n d j
    → deeds.IsApplied (history log) n d k → j ≡ k
one_apply g log sound h n d j k a b =
    let o = of_commit g log sound h n a.class d a.ts j a.is_recorded in
    let t : Committed = o.committed in
    let c = committed_in g log t sound h o.is_committed in
    let x = (apply_of_committed g log t d j sound h o.is_committed (subst (λ m. deeds.IsApplied (history log) m d j) (sym o.txn_is) a)).apply in
    let y = (apply_of_committed g log t d k sound h o.is_committed (subst (λ m. deeds.IsApplied (history log) m d k) (sym o.txn_is) b)).apply in
    elim (lower_same_higher j k) [
      | inl l ↦ not_twice g log t c d j k sound h x y l
      | inr l ↦ elim l [
        | inl e ↦ e
        | inr l ↦ not_twice g log t c d k j sound h y x l
      ]
    ]

-- two Applies of a class at a module
no_earlier_after : {A : Type 0} (g : Input) (log : Log) (x y : Committed) (cy : IsCommittedIn g log y) (d j k : ℕ) → IsSoundCatalogue g.catalogue → IsPermitted g log
    → x.start.class ≡ y.start.class → x.start.ts < y.start.ts → IsApplyIn g log x.start.txn x.start.class d x.start.ts j
    → IsApplyIn g log y.start.txn y.start.class d y.start.ts k → k < j → A
no_earlier_after g log x y cy d j k sound h e time p q l =
    let r : Rec = apply_rec x.start.txn x.start.class d x.start.ts in
    let i = seen_applied g log y cy d k j r (apply_made g log x.start.txn x.start.class d x.start.ts j p) q l in
    let small = home_small g.catalogue sound x.start.class in
    let b = applied_below g p.before (dm_no d) x.start.class (time_at x.start.ts) (class_no x.start.class)
    (txn_no x.start.txn) p.changes cy.running p.permitted.1 (omega arith) p.head_is (subst (λ c. IsApplied g p.before (dm_no d) c cy.running) (sym e) i) in
    absurd (omega (arith, cy.ts_is))

rise : (g : Input) (log : Log) → IsSoundCatalogue g.catalogue → IsPermitted g log → (x y : Committed) (d j k : ℕ) → IsEarlier (history log) x y
    → deeds.IsApplied (history log) x.start.txn d j → deeds.IsApplied (history log) y.start.txn d k → j < k
rise g log sound h x y d j k e a b =
    let p = (apply_of_committed g log x d j sound h e.first a).apply in
    let q = (apply_of_committed g log y d k sound h e.second b).apply in
    elim (lower_same_higher j k) [
      | inl l ↦ l
      | inr l ↦ elim l [
        | inl same ↦ grind (arith, same_committed)
        | inr l ↦ no_earlier_after g log x y (committed_in g log y sound h e.second) d j k sound h e.class e.time p q l
      ]
    ]

-- what is left out nowhere
none_left_out : (g : Input) (log : Log) → IsSoundCatalogue g.catalogue → IsPermitted g log → (x y : Committed) (d k : ℕ) → IsEarlier (history log) x y
    → Touches g.catalogue x d → deeds.IsApplied (history log) y.start.txn d k → AppliedBefore (history log) x.start.txn d k
none_left_out g log sound h x y d k e t b =
    let q = (apply_of_committed g log y d k sound h e.second b).apply in
    let m = apply_made g log y.start.txn y.start.class d y.start.ts k q in
    let head_is : head (pipe_at g x.start.class (dm_no d) q.before) ≡ Some
    (Write (time_at y.start.ts) (class_no y.start.class) (txn_no y.start.txn) q.changes) = subst
    (λ c. head (pipe_at g c (dm_no d) q.before) ≡ Some (Write (time_at y.start.ts) (class_no y.start.class) (txn_no y.start.txn) q.changes))
    (sym e.class) q.head_is in
    (split_at g log x (committed_in g log x sound h e.first) d k (apply_rec y.start.txn y.start.class d y.start.ts) m
    (Write (time_at y.start.ts) (class_no y.start.class) (txn_no y.start.txn) q.changes) sound h (by_change t) head_is).smaller e.time

-- at the Answer of a committed attempt

at_answer : (g : Input) (log : Log) → (sound : IsSoundCatalogue g.catalogue) (h : IsPermitted g log) (x y : Committed) (d k : ℕ) (c : IsCommittedIn g log x)
    → x.start.class ≡ y.start.class → GoesTo g.catalogue x d → (w : IsAnswerIn g log y.start d k)
    → IsSplitAt g log x c d k (answer_rec y.start d) (answer_made g log y.start d k w) y.start.ts
at_answer g log sound h x y d k c e goes w =
    split_at g log x c d k (answer_rec y.start d) (answer_made g log y.start d k w) (read_msg y.start w.read.conds w.read.uses) sound h goes
    (subst (λ k. head (pipe_at g k (dm_no d) w.before) ≡ Some (read_msg y.start w.read.conds w.read.uses)) (sym e) w.read.head_is)

has_earlier : (g : Input) (log : Log) → IsSoundCatalogue g.catalogue → IsPermitted g log → (x y : Committed) (d k : ℕ) → IsEarlier (history log) x y
    → GoesTo g.catalogue x d → IsAnswered (history log) y.start d k → AppliedBefore (history log) x.start.txn d k
has_earlier g log sound h x y d k e goes s =
    (at_answer g log sound h x y d k (committed_in g log x sound h e.first) e.class goes (answer_in g log y.start d k sound h e.second.started s)).smaller e.time

after_earlier : (g : Input) (log : Log) → IsSoundCatalogue g.catalogue → IsPermitted g log → (x y : Committed) (d j k : ℕ) → IsEarlier (history log) x y
    → deeds.IsApplied (history log) x.start.txn d j → IsAnswered (history log) y.start d k → j < k
after_earlier g log sound h x y d j k e a s =
    let b = has_earlier g log sound h x y d k e (apply_of_committed g log x d j sound h e.first a).goes s in
    let l = b.before in omega (arith, one_apply g log sound h x.start.txn d b.place j b.applied a)

before_later : (g : Input) (log : Log) → IsSoundCatalogue g.catalogue → IsPermitted g log → (x y : Committed) (d j k : ℕ) → IsEarlier (history log) x y
    → IsAnswered (history log) x.start d j → deeds.IsApplied (history log) y.start.txn d k → j < k
before_later g log sound h x y d j k e s b =
    let w = answer_in g log x.start d j sound h e.first.started s in
    let c = committed_in g log y sound h e.second in
    let q = apply_of_committed g log y d k sound h e.second b in
    elim (lower_same_higher j k) [
      | inl l ↦ l
      | inr l ↦ elim l [
        | inl same ↦ (let z : Some (answer_rec x.start d) ≡ Some (apply_rec y.start.txn b.class d b.ts) = sym s ∙ ap (record_at (history log)) same ∙ b.is_recorded in cc)
        | inr l ↦ (let i = seen_applied g log y c d k j (answer_rec x.start d) (answer_made g log x.start d j w) q.apply l in
            absurd ((at_answer g log sound h y x d j c (sym e.class) q.goes w).greater e.time i))
      ]
    ]

pub keeps_applies : (g : Input) (log : Log) → IsSoundCatalogue g.catalogue → IsPermitted g log → KeepsApplies g.catalogue (history log)
keeps_applies g log sound h = record {
  of_commit = of_commit g log sound h;
  one_apply = one_apply g log sound h;
  rise = rise g log sound h;
  none_left_out = none_left_out g log sound h;
  after_earlier = after_earlier g log sound h;
  has_earlier = λ x y d k e t s. has_earlier g log sound h x y d k e (by_change t) s;
  before_later = before_later g log sound h;
}
