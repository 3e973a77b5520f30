-- An Answer to the READ of an active attempt: of its class, at a module that it asked, for the uses that are read there.
use Rattle.sdd_obligations.proofs.All.{Act, Answer, Attempt, D, DmNo, Does, Input, IsPermitted, IsRead, IsReadOf, IsSoundCatalogue, List, Log, Msg, None, Option, Queued, Read, Records, Site, Some, Use, [], active, ap, append_assoc, arith, contains, dm_no, eqb-true, false, head, head_put, home, home_fair, if◌then◌else◌, length, local_of, map, modules_asked, next_stamp, or_left, or_right, permitted_before, pipe, pipe_at, place_of_act, read_of, refl, same_number, sends_of_act, setting_of, slice_get, start_of_active, start_read, subst, sym, to_site, true, ℕ, ◌++◌, ◌==◌, ◌∙◌, ◌∷◌, ◌≡◌, ◌≤◌}
use Rattle.sdd_obligations.proofs.Places.{IsAnswerAt, class_here, read_at_head}
use Rattle.sdd_obligations.proofs.Starts.{StartAt, drawn_already, one_start, read_later, start_here}
use Rattle.sdd_serving.specs.Freezing.{uses_at}

-- of messages that go one to each module, one that goes to a module is its

one_each : (f : ℕ → Msg) (x d : ℕ) (dms : List ℕ) (ms : List Msg) (k : ℕ) (m : Msg) → x ≡ d
    → ((j : ℕ) → slice_get ms j ≡ Some m → (contains dms x ≡ true) × (m ≡ f x)) → slice_get (f d ∷ ms) k ≡ Some m → (contains (d ∷ dms) x ≡ true) × (m ≡ f x)
one_each f x d dms ms k m q g e = grind (arith, or_left, same_number, or_right)

pub in_each : (f : ℕ → Msg) (x : ℕ) (dms : List ℕ) (k : ℕ) (m : Msg) → slice_get (to_site (D (dm_no x)) (map (λ d. (D (dm_no d), f d)) dms)) k ≡ Some m
    → (contains dms x ≡ true) × (m ≡ f x)
in_each f x [] k m e = cc
in_each f x (d ∷ dms) k m e =
    elim (x == d) as (λ b. (x == d) ≡ b
    → slice_get (if b then f d ∷ to_site (D (dm_no x)) (map (λ d. (D (dm_no d), f d)) dms) else to_site
    (D (dm_no x)) (map (λ d. (D (dm_no d), f d)) dms)) k ≡ Some m → (contains (d ∷ dms) x ≡ true)
    × (m ≡ f x)) [
      | true ↦ λ p q. one_each f x d dms (to_site (D (dm_no x)) (map (λ d. (D (dm_no d), f d)) dms)) k m (eqb-true x d p) (λ j r. in_each f x dms j m r) q
      | false ↦ λ p q. let r = in_each f x dms k m q in (or_right (d == x) (contains dms x) r.0, r.1)
    ] refl e

abbrev pub uses_in_read : Msg → List Use
uses_in_read (Read ts class txn attempt conds uses) = uses
uses_in_read _ = []

abbrev pub uses_at_head : Option Msg → List Use
uses_at_head None = []
uses_at_head (Some m) = uses_in_read m

-- what such an Answer is
pub record IsAnswerTo (g : Input) (c : ℕ) (log : Log) (a : Attempt) (d : DmNo) (x : IsAnswerAt a.ts (local_of g (D d) log)) : Type 0 where
  pub class_is : x.class ≡ c
  pub asked : contains (modules_asked (setting_of g (home g.catalogue c)) c a.text) d.0 ≡ true
  pub uses_are : uses_at_head (head (pipe x.class x.before)) ≡ uses_at g.catalogue c a.text d.0

-- the Start of the active attempt
active_start : (g : Input) (c : ℕ) (log : Log) (a : Attempt) → IsPermitted g log
    → active (setting_of g (home g.catalogue c)) c (local_of g (home g.catalogue c) log) ≡ Some a
    → (q : Queued) × StartAt g c log (home g.catalogue c) a.ts q × (q.text ≡ a.text)
active_start g c log a h e =
    let st = start_of_active (setting_of g (home g.catalogue c)) c (local_of g (home g.catalogue c) log) a (home_fair g c log h) e in
    (st.queued, record { later = st.later; before = st.before; is = st.is; head_is = st.head; ts_is = st.ts_is }, sym st.text_is)

-- the Start of the attempt to whose READ an Answer is
pub record IsStartedRead (g : Input) (log : Log) (ts : ℕ) (d : DmNo) (x : IsAnswerAt ts (local_of g (D d) log)) : Type 0 where
  pub queued : Queued
  pub start : StartAt g x.class log (home g.catalogue x.class) ts queued
  pub within : x.class ≤ length g.catalogue.classes
  pub asked : contains (modules_asked (setting_of g (home g.catalogue x.class)) x.class queued.text) d.0 ≡ true
  pub uses_are : uses_at_head (head (pipe x.class x.before)) ≡ uses_at g.catalogue x.class queued.text d.0

pub read_started : (g : Input) (log : Log) (ts : ℕ) (d : DmNo) → IsPermitted g log → (x : IsAnswerAt ts (local_of g (D d) log)) → IsStartedRead g log ts d x
read_started g log ts d h x =
    let act : Act = Records x.class (Answer x.txn x.attempt x.dm) x.sends in
    let p = place_of_act g (D d) log x.later act x.before x.is in
    let front : Log = p.later ++ Does (D d) act ∷ [] in
    let log_is : front ++ p.rest ≡ log = append_assoc p.later (Does (D d) act ∷ []) p.rest ∙ sym p.is in
    let hr : IsPermitted g p.rest = (permitted_before g p.later (Does (D d) act ∷ p.rest) (subst (IsPermitted g) p.is h)).1 in
    let r = read_at_head ts (head (pipe x.class x.before)) x.at in
    let m : Msg = Read r.t r.of r.txn r.attempt r.conds r.uses in
    let hd : head (pipe_at g x.class d p.rest) ≡ Some m = ap (λ l. head (pipe x.class l)) p.local_is ∙ r.is in
    let at : Site = home g.catalogue x.class in
    let z = read_of g x.class d p.rest r.t r.of r.txn r.attempt r.conds r.uses hr hd in
    let put = head_put g x.class d p.rest m hr hd in
    let by : IsRead (setting_of g at) (local_of g at put.before) put.act x.class r.t.0 r.txn.0 r.attempt =
    subst (λ j. IsRead (setting_of g at) (local_of g at put.before) put.act j r.t.0 r.txn.0 r.attempt) z.0
    put.by in
    let start : IsReadOf g p.rest x.class r.txn.0 r.attempt r.t.0 = record {
      later = put.later;
      before = put.before;
      queued = by.queued;
      is = put.is ∙ ap (λ y. put.later ++ Does at y ∷ put.before) by.act_is;
      idle = by.idle;
      head_is = by.head;
      number_is = by.number_is;
      try_is = by.try_is;
      ts_is = by.time_is;
    } in
    let whole : IsReadOf g (front ++ p.rest) x.class r.txn.0 r.attempt r.t.0 = read_later g x.class front p.rest r.txn.0 r.attempt r.t.0 start in
    let there = in_each (start_read (setting_of g at) x.class (local_of g at put.before) by.queued) d.0
    (modules_asked (setting_of g at) x.class by.queued.text) put.place m
    (subst (λ y. slice_get (to_site (D d) (sends_of_act y)) put.place ≡ Some m) by.act_is put.there) in
    record {
      queued = by.queued;
      start = subst (λ t. StartAt g x.class log at t by.queued) r.ts_is
          (subst (λ l. StartAt g x.class l at r.t.0 by.queued) log_is (start_here g x.class (front ++ p.rest) r.txn.0 r.attempt r.t.0 whole));
      within = class_here g d log x.later x.before x.class x.txn x.attempt x.dm x.sends h x.is;
      asked = there.0;
      uses_are = ap uses_at_head r.is ∙ ap uses_in_read there.1;
    }

pub answer_to : (g : Input) → IsSoundCatalogue g.catalogue → (c : ℕ) → c ≤ length g.catalogue.classes → (log : Log) (a : Attempt) (d : DmNo) → IsPermitted g log
    → active (setting_of g (home g.catalogue c)) c (local_of g (home g.catalogue c) log) ≡ Some a
    → (x : IsAnswerAt a.ts (local_of g (D d) log)) → IsAnswerTo g c log a d x
answer_to g sound c lc log a d h e x =
    let r = read_started g log a.ts d h x in
    let own = active_start g c log a h e in
    let one = one_start g sound x.class c log a.ts r.queued own.0 r.within lc r.start own.1 in
    let text : r.queued.text ≡ a.text = ap (λ (q : Queued). q.text) one.1 ∙ own.2 in
    record {
      class_is = one.0;
      asked = subst (λ t. contains (modules_asked (setting_of g (home g.catalogue c)) c t) d.0 ≡ true) text
          (subst (λ j. contains (modules_asked (setting_of g (home g.catalogue j)) j r.queued.text)
          d.0 ≡ true) one.0 r.asked);
      uses_are = r.uses_are ∙ ap (λ j. uses_at g.catalogue j r.queued.text d.0) one.0 ∙ ap (λ t. uses_at g.catalogue c t d.0) text;
    }

-- a timestamp that is still to be drawn has no Answer
pub not_before : (g : Input) → IsSoundCatalogue g.catalogue → (c : ℕ) → c ≤ length g.catalogue.classes → (log : Log) (d : DmNo) → IsPermitted g log
    → IsAnswerAt (next_stamp (setting_of g (home g.catalogue c)) (local_of g (home g.catalogue c) log)) (local_of g (D d) log) → ⊥
not_before g sound c lc log d h x =
    let r = read_started g log (next_stamp (setting_of g (home g.catalogue c)) (local_of g (home g.catalogue c) log)) d h x in
    drawn_already g sound c x.class log r.queued lc r.within r.start
