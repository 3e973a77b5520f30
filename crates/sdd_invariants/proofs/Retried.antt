-- A transaction that is tried again is still its queue's head, and the REJECT of its last attempt was handed after that attempt's Start.
use Rattle.sdd_invariants.proofs.All.{Act, AllZero, Attempt, Bool, ClassNo, D, Did, DmNo, Each, Entry, Handed, IsFair, IsNew, IsRejected, IsServed, IsStep, List, Log, Msg, None, Option, Queued, Reject, Sends, Setting, Site, Some, Submits, Ts, Txn, ZeroBut, [], active, active_handed, active_sent, ap, arith, commit_act, current_era, eqb-true, false, filter, head_of, if◌then◌else◌, inl, inr, is_for, is_recorded, map, next_stamp, not, queue, refl, rejects, sends_of_act, start_at, started, subst, suc, sym, tried, true, ℕ, ◌++◌, ◌<◌, ◌==◌, ◌∷◌, ◌≡◌, ◌⊎◌}
use Rattle.sdd_invariants.proofs.Queues.{queue_is}
use Rattle.sdd_invariants.proofs.Active.{sent_way, step_way}
use Rattle.sdd_invariants.proofs.Bools.{same_number, same_or_not}
use Rattle.sdd_invariants.proofs.Serving.{zero_push, but_push, zero_left, zero_head}

abbrev pub IsHead : ℕ → ℕ → List Queued → Type 0
IsHead n k [] = ⊥
IsHead n k (q ∷ qs) = (q.number ≡ n) × (q.tries ≡ k)

-- at most the queue's head was started; where the class is idle, its REJECT was handed
pub record IsTriedHead (s : Setting) (c : ℕ) (log : Log) (qs : List Queued) (o : Option Attempt) : Type 0 where
  pub number : ℕ
  pub tries : ℕ
  pub head : IsHead number tries qs
  pub others : ZeroBut number qs
  pub rejected : o ≡ None → IsRejected s c log number tries

abbrev pub IsTriedAt : Setting → ℕ → Log → List Queued → Option Attempt → Type 0
IsTriedAt s c log qs o = AllZero qs ⊎ IsTriedHead s c log qs o

rejected_more : (s : Setting) (c : ℕ) (e : Entry) (log : Log) (n k : ℕ) → is_recorded c e ≡ false → IsRejected s c log n k → IsRejected s c (e ∷ log) n k
rejected_more s c e log n k p h = record {
  later = e ∷ h.later;
  before = h.before;
  from = h.from;
  ts = h.ts;
  class_of = h.class_of;
  by = h.by;
  write = h.write;
  is = ap (λ l. e ∷ l) h.is;
  none_since = (p, h.none_since);
  attempt = h.attempt;
  active_is = h.active_is;
  ts_is = h.ts_is;
  class_is = h.class_is;
  number_is = h.number_is;
  try_is = h.try_is;
}

tried_more : (s : Setting) (c : ℕ) (e : Entry) (log : Log) (qs : List Queued) (o p : Option Attempt) → is_recorded c e ≡ false
    → (p ≡ None → o ≡ None) → IsTriedAt s c log qs o → IsTriedAt s c (e ∷ log) qs p
tried_more s c e log qs o p r f h = grind (arith, rejected_more)

but_tried : (n : ℕ) (qs : List Queued) → ZeroBut n qs → ZeroBut n (map (tried n) qs)
but_tried n [] h = tt
but_tried n (q ∷ qs) h = grind (arith, (but_tried n qs h.1))

but_zero : (n : ℕ) (qs : List Queued) → AllZero qs → ZeroBut n qs
but_zero n [] h = tt
but_zero n (q ∷ qs) h = (inr h.0, but_zero n qs h.1)

is_head : (qs : List Queued) (q : Queued) → head_of qs ≡ Some q → IsHead q.number q.tries qs
is_head qs q e = grind arith

-- the active attempt, where there is one, is the head's
head_served : (a : Attempt) (qs : List Queued) (n k : ℕ) → IsServed (Some a) qs → IsHead n k qs → (a.txn ≡ n) × (a.attempt ≡ k)
head_served a qs n k h i = grind arith

-- a hand that ends it is a REJECT
reject_by : (m : Msg) (ts c : ℕ) → rejects m ts c ≡ true → (t : Ts) × (k : ClassNo) × (by : ClassNo) × (w : Ts) × (m ≡ Reject t k by w) × (t.0 ≡ ts) × (k.0 ≡ c)
reject_by m ts c e = grind (arith, eqb-true)

ends_by : (s : Setting) (c : ℕ) (log : Log) (d : DmNo) (m : Msg) (a : Attempt) (n k : ℕ) → active s c log ≡ Some a
    → (a.txn ≡ n) × (a.attempt ≡ k) → rejects m a.ts c ≡ true → IsRejected s c (Handed (D d) m ∷ log) n k
ends_by s c log d m a n k e f r =
    let p = reject_by m a.ts c r in
    record { later = []; before = log; from = d; ts = p.0; class_of = p.1; by = p.2; write = p.3; is = ap (λ x. Handed (D d) x ∷ log) p.4; none_since = tt; attempt = a; active_is = e; ts_is = p.5; class_is = p.6; number_is = f.0; try_is = f.1 }

tried_hand : (s : Setting) (c : ℕ) (log : Log) (from : Site) (m : Msg) → IsServed (active s c log) (queue s c log)
    → IsTriedAt s c log (queue s c log) (active s c log) → IsTriedAt s c (Handed from m ∷ log) (queue s c log) (active_handed c from m (active s c log))
tried_hand s c log from m v h = elim h [
  | inl z ↦ inl z
  | inr t ↦ inr (record { number = t.number; tries = t.tries; head = t.head; others = t.others; rejected = λ x. (grind (arith, ends_by, head_served, rejected_more)) })
]

tried_submit : (s : Setting) (c : ℕ) (log : Log) (k : ℕ) (txn : Txn) (b : Bool) → IsTriedAt s c log (queue s c log) (active s c log)
    → IsTriedAt s c (Submits k txn ∷ log) (if b then queue s c log ++ record { number = k; text = txn; tries = 0 } ∷ [] else queue s c log) (active s c log)
tried_submit s c log k txn b h = grind (arith, tried_more, zero_push, but_push, rejected_more)

tried_start : (s : Setting) (c : ℕ) (log : Log) (q : Queued) → head_of (queue s c log) ≡ Some q → IsTriedAt s c log (queue s c log) (active s c log)
    → IsTriedAt s c (Did (start_at s c log q) ∷ log) (map (tried q.number) (queue s c log))
    (started (next_stamp s log) (sends_of_act (start_at s c log q)) (head_of (queue s c log)))
tried_start s c log q e h =
    let but : ZeroBut q.number
    (queue s c log) = elim h [
      | inl z ↦ but_zero q.number (queue s c log) z
      | inr t ↦ grind (arith, queue)
    ] in
    inr (record {
      number = q.number;
      tries = suc q.tries;
      head = (grind (arith, same_number));
      others = but_tried q.number (queue s c log) but;
      rejected = λ x. absurd (grind arith);
    })

tried_commit : (s : Setting) (c : ℕ) (log more : Log) (a : Attempt) (o : Option Attempt) → active s c log ≡ Some a
    → IsServed (active s c log) (queue s c log) → IsTriedAt s c log (queue s c log) (active s c log)
    → IsTriedAt s c more (filter (λ q. not (q.number == a.txn)) (queue s c log)) o
tried_commit s c log more a o e v h = elim h [
  | inl z ↦ inl (zero_left a.txn (queue s c log) (but_zero a.txn (queue s c log) z))
  | inr t ↦ (let r = head_served a (queue s c log) t.number t.tries (subst (λ o. IsServed o (queue s c log)) e v) t.head in
      inl (zero_left a.txn (queue s c log) (subst (λ n. ZeroBut n (queue s c log)) (sym r.0) t.others)))
]

sent_none : (c : ℕ) (m : Msg) (o : Option Attempt) → active_sent c m o ≡ None → o ≡ None
sent_none c m o e = grind (arith, sent_way)

tried_act : (s : Setting) (c : ℕ) (log : Log) (act : Act) → IsStep s log act → IsServed (active s c log) (queue s c log)
    → IsTriedAt s c log (queue s c log) (active s c log) → IsTriedAt s c (Did act ∷ log) (queue s c (Did act ∷ log)) (active s c (Did act ∷ log))
tried_act s c log act i v h =
    step_way s log act (λ x. IsTriedAt s c (Did x ∷ log) (queue s c (Did x ∷ log)) (active s c (Did x ∷ log)))
    (grind (arith, same_or_not, IsTriedAt, start_at, queue, active, same_number, tried_start, tried_more))
    (λ k bases a at f. elim (same_or_not k c) [
      | inl p ↦ subst (λ j. IsTriedAt s c (Did (commit_act s.catalogue bases j a) ∷ log) (queue s c (Did (commit_act s.catalogue bases j a) ∷ log))
          (active s c (Did (commit_act s.catalogue bases j a) ∷ log))) (sym p)
          (rw (same_number c) (tried_commit s c log (Did (commit_act s.catalogue bases c a) ∷ log) a None (rw p at f) v h))
      | inr p ↦ rw p (tried_more s c (Did (commit_act s.catalogue bases k a)) log (queue s c log) (active s c log) (active s c log) p (λ x. x) h)
    ])
    (λ to m hand f. tried_more s c (Did (Sends to m hand)) log (queue s c log) (active s c log) (active_sent c m (active s c log)) refl (sent_none c m (active s c log)) h) i

pub tried_at : (s : Setting) (c : ℕ) (log : Log) → Each (IsFair s) log → Each IsNew log → IsTriedAt s c log (queue s c log) (active s c log)
tried_at s c [] h n = inl tt
tried_at s c (Handed from m ∷ log) h n = tried_hand s c log from m (queue_is s c log h.1 n.1).served (tried_at s c log h.1 n.1)
tried_at s c (Submits k txn ∷ log) h n = tried_submit s c log k txn (is_for c (current_era s log).catalogue txn) (tried_at s c log h.1 n.1)
tried_at s c (Did act ∷ log) h n = tried_act s c log act h.0 (queue_is s c log h.1 n.1).served (tried_at s c log h.1 n.1)
tried_at s c (y ∷ log) h n = tried_more s c y log (queue s c log) (active s c log) (active s c log) refl (λ x. x) (tried_at s c log h.1 n.1)

-- the head of an idle class that was started before: its last attempt was rejected
pub was_rejected : (s : Setting) (c : ℕ) (log : Log) (q : Queued) → Each (IsFair s) log → Each IsNew log → active s c log ≡ None
    → head_of (queue s c log) ≡ Some q → 0 < q.tries → IsRejected s c log q.number q.tries
was_rejected s c log q h n idle e l = grind (arith, tried_at, zero_head)
