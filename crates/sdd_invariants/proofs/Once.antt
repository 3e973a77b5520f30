-- An attempt has at most one Answer at a module.
use Rattle.sdd_invariants.proofs.All.{Act, Answer, ClassNo, Cond, D, Did, DmNo, Does, Each, Input, IsFair, IsNew, IsPermitted, List, Msg, Pipe, Queued, Read, Records, Setting, Site, Some, Ts, TxnNo, Use, [], ap, append_assoc, arith, class_puts, head, head_of, home, inl, inr, length, length-append, local_of, next_stamp, number_of, pipe, pipe_at, queue, read_at, refl, setting_of, slice_get, start_at, start_more, starts_of, subst, suc, sym, true, ℕ, ◌++◌, ◌==◌, ◌∙◌, ◌∷◌, ◌≡◌, ◌≤◌}
use Rattle.sdd_invariants.proofs.Places.{compare}
use Rattle.sdd_invariants.proofs.Recorded.{head_left}
use Rattle.sdd_invariants.proofs.Processed.{own_record, processed_handed, processed_more}
use Rattle.sdd_invariants.proofs.Answered.{read_of}
use Rattle.sdd_invariants.proofs.Applied.{one_of_key, reads_strict}
use Rattle.sdd_invariants.proofs.ClassOrder.{head_place}
use Rattle.sdd_invariants.proofs.Bools.{if_way, same_number}
use Rattle.sdd_invariants.proofs.Fair.{all_new, home_fair}
use Rattle.sdd_invariants.proofs.Made.{local_grows, own_act, permitted_before}
use Rattle.sdd_log.specs.All.{Log}
use Rattle.sdd_log.specs.site_module.SiteLog as site

-- how often a transaction was started only grows
more_up : (c n : ℕ) (act : Act) (x : ℕ) → x ≤ start_more c n act x
more_up c n act x = grind (arith, if_way)

starts_grow : (c n : ℕ) (later log : site.Log) → starts_of c n log ≤ starts_of c n (later ++ log)
starts_grow c n [] log = omega arith
starts_grow c n (Did act ∷ later) log = let i = starts_grow c n later log in let j = more_up c n act (starts_of c n (later ++ log)) in omega arith
starts_grow c n (_ ∷ later) log = starts_grow c n later log

-- so no two Starts of a class have one transaction and one attempt
later_try : (s : Setting) (c : ℕ) (z b1 b2 : site.Log) (q1 q2 : Queued) → Each (IsFair s) b1 → Each IsNew b1 → Each (IsFair s) b2
    → Each IsNew b2 → head_of (queue s c b1) ≡ Some q1 → head_of (queue s c b2) ≡ Some q2 → q1.number ≡ q2.number
    → q1.tries ≡ q2.tries → b2 ≡ z ++ Did (start_at s c b1 q1) ∷ b1 → ⊥
later_try s c z b1 b2 q1 q2 f1 n1 f2 n2 e1 e2 n t p =
    let h2 = (head_left s c b2 q2 f2 n2 e2).tries_are in
    let one : starts_of c q1.number (Did (start_at s c b1 q1) ∷ b1) ≡ suc (starts_of c q1.number b1) = rw (same_number c, same_number q1.number) refl in
    let g = starts_grow c q1.number z (Did (start_at s c b1 q1) ∷ b1) in
    let same : starts_of c q2.number b2 ≡ starts_of c q1.number (z ++ Did (start_at s c b1 q1) ∷ b1) = (λ i. starts_of c (sym n i) (p i)) in
    omega (arith, (head_left s c b1 q1 f1 n1 e1).tries_are)

same_try : (s : Setting) (c : ℕ) (l1 l2 b1 b2 : site.Log) (q1 q2 : Queued) → Each (IsFair s) b1 → Each IsNew b1
    → Each (IsFair s) b2 → Each IsNew b2 → head_of (queue s c b1) ≡ Some q1 → head_of (queue s c b2) ≡ Some q2 → q1.number ≡ q2.number → q1.tries ≡ q2.tries
    → l1 ++ Did (start_at s c b1 q1) ∷ b1 ≡ l2 ++ Did (start_at s c b2 q2) ∷ b2 → b1 ≡ b2
same_try s c l1 l2 b1 b2 q1 q2 f1 n1 f2 n2 e1 e2 n t p = elim (compare l1 l2 (Did (start_at s c b1 q1)) (Did (start_at s c b2 q2)) b1 b2 p) [
  | inl r ↦ r.0
  | inr r ↦ grind (arith, later_try)
]

-- what is processed only grows

pub processed_grows : (c : ℕ) (later log : site.Log) → length (pipe c log).processed ≤ length (pipe c (later ++ log)).processed
processed_grows c [] log = omega arith
processed_grows c (e ∷ later) log = grind (arith, processed_handed, length-append, head, pipe, (processed_grows c later log))

-- a READ that is answered doesn't stand at the head again: an Answer, and after it a READ with the same timestamp
pub answered_there : (g : Input) (c : ℕ) (d : DmNo) (later before : Log) (dm : DmNo) (sends : List (Site × Msg))
    (ts1 ts2 : Ts) (k1 k2 : ClassNo) (txn txn1 txn2 : TxnNo) (n n1 n2 : ℕ) (ds1 ds2 : List Cond) (us1 us2 : List Use)
    → IsPermitted g (later ++ Does (D d) (Records c (Answer txn n dm) sends) ∷ before) → number_of (home g.catalogue c) ≤ 63
    → head (pipe_at g c d before) ≡ Some (Read ts1 k1 txn1 n1 ds1 us1)
    → head (pipe_at g c d (later ++ Does (D d) (Records c (Answer txn n dm) sends) ∷ before)) ≡ Some (Read ts2 k2 txn2 n2 ds2 us2) → ts1.0 ≡ ts2.0 → ⊥
answered_there g c d later before dm sends ts1 ts2 k1 k2 txn txn1 txn2 n n1 n2 ds1 ds2 us1 us2 h small e1 e2 ts =
    let ans : Act = Records c (Answer txn n dm) sends in
    let log : Log = later ++ Does (D d) ans ∷ before in
    let m1 : Msg = Read ts1 k1 txn1 n1 ds1 us1 in
    let m2 : Msg = Read ts2 k2 txn2 n2 ds2 us2 in
    let front : Log = later ++ Does (D d) ans ∷ [] in
    let part : log ≡ front ++ before = sym (append_assoc later (Does (D d) ans ∷ []) before) in
    let hb : IsPermitted g before = (permitted_before g later (Does (D d) ans ∷ before) h).1 in
    let r1 = read_of g c d before ts1 k1 txn1 n1 ds1 us1 hb e1 in
    let r2 = read_of g c d log ts2 k2 txn2 n2 ds2 us2 h e2 in
    let at1 : slice_get (class_puts g c d log) (length (pipe_at g c d before).processed) ≡ Some m1 = subst
    (λ l. slice_get (class_puts g c d l) (length (pipe_at g c d before).processed) ≡ Some m1) (sym part) (head_place g c d front before m1 hb e1) in
    let at2 : slice_get (class_puts g c d log) (length (pipe_at g c d log).processed) ≡ Some m2 = head_place g c d [] log m2 h e2 in
    let one = one_of_key (read_at c) (class_puts g c d log) (length (pipe_at g c d before).processed) (length (pipe_at g c d log).processed) m1 m2 ts2.0
    (reads_strict g c d log h small) at1 at2 (let q : (k1.0 == c) ≡ true = ap (λ y. y == c) r1.0 ∙ same_number c in
    rw q (ap (λ y. Some y) ts)) (let q : (k2.0 == c) ≡ true = ap (λ y. y == c) r2.0 ∙ same_number c in
    rw q (ap (λ y. Some y) refl)) in
    let x = local_grows g (D d) later (Does (D d) ans ∷ before) in
    let b : site.Log = local_of g (D d) before in
    let l : local_of g (D d) log ≡ x.0 ++ Did ans ∷ b = x.1 ∙ ap (λ y. x.0 ++ y) (own_act g (D d) ans before) in
    let grows = processed_grows c x.0 (Did ans ∷ b) in
    let more = length-append (pipe c b).processed (m1 ∷ []) in
    let now : length (pipe c (local_of g (D d) log)).processed ≡ length (pipe c (x.0 ++ Did ans ∷ b)).processed = ap (λ y. length (pipe c y).processed) l in
    omega (arith, ap (λ (p : Pipe). length p.processed) (own_record c (Answer txn n dm) sends b refl).0 ∙ ap length (processed_more (pipe c b) m1 e1))

-- an Answer to a READ, and after it a head with the READ of the same transaction and attempt
pub answered_once : (g : Input) (c : ℕ) (d : DmNo) (later before : Log) (dm : DmNo) (sends : List (Site × Msg))
    (ts1 ts2 : Ts) (k1 k2 : ClassNo) (txn1 txn2 : TxnNo) (n1 n2 : ℕ) (ds1 ds2 : List Cond) (us1 us2 : List Use)
    → IsPermitted g (later ++ Does (D d) (Records c (Answer txn1 n1 dm) sends) ∷ before) → number_of (home g.catalogue c) ≤ 63
    → head (pipe_at g c d before) ≡ Some (Read ts1 k1 txn1 n1 ds1 us1)
    → head (pipe_at g c d (later ++ Does (D d) (Records c (Answer txn1 n1 dm) sends) ∷ before)) ≡ Some (Read ts2 k2 txn2 n2 ds2 us2)
    → txn1.0 ≡ txn2.0 → n1 ≡ n2 → ⊥
answered_once g c d later before dm sends ts1 ts2 k1 k2 txn1 txn2 n1 n2 ds1 ds2 us1 us2 h small e1 e2 t n =
    let at : Site = home g.catalogue c in
    let s : Setting = setting_of g at in
    let ans : Act = Records c (Answer txn1 n1 dm) sends in
    let log : Log = later ++ Does (D d) ans ∷ before in
    let front : Log = later ++ Does (D d) ans ∷ [] in
    let hb : IsPermitted g before = (permitted_before g later (Does (D d) ans ∷ before) h).1 in
    let r1 = read_of g c d before ts1 k1 txn1 n1 ds1 us1 hb e1 in
    let r2 = read_of g c d log ts2 k2 txn2 n2 ds2 us2 h e2 in
    let o1 = r1.1 in
    let o2 = r2.1 in
    let a1 : Act = start_at s c (local_of g at o1.before) o1.queued in
    let a2 : Act = start_at s c (local_of g at o2.before) o2.queued in
    let w1 : log ≡ (front ++ o1.later) ++ Does at a1 ∷ o1.before = (sym (append_assoc later (Does (D d) ans ∷ []) before)) ∙ ap (λ l. front ++ l) o1.is
    ∙ sym (append_assoc front o1.later (Does at a1 ∷ o1.before)) in
    let x1 = local_grows g at (front ++ o1.later) (Does at a1 ∷ o1.before) in
    let x2 = local_grows g at o2.later (Does at a2 ∷ o2.before) in
    let l1 : local_of g at log ≡ x1.0 ++ Did a1 ∷ local_of g at o1.before = ap (local_of g at) w1 ∙ x1.1 ∙ ap (λ l. x1.0 ++ l) (own_act g at a1 o1.before) in
    let l2 : local_of g at log ≡ x2.0 ++ Did a2 ∷ local_of g at o2.before = ap (local_of g at) o2.is ∙ x2.1 ∙ ap (λ l. x2.0 ++ l) (own_act g at a2 o2.before) in
    let h1 : IsPermitted g o1.before = (permitted_before g (front ++ o1.later) (Does at a1 ∷ o1.before) (subst (IsPermitted g) w1 h)).1 in
    let h2 : IsPermitted g o2.before = (permitted_before g o2.later (Does at a2 ∷ o2.before) (subst (IsPermitted g) o2.is h)).1 in
    let number : o1.queued.number ≡ o2.queued.number = sym o1.number_is ∙ t ∙ o2.number_is in
    let tries : o1.queued.tries ≡ o2.queued.tries = omega (arith, n, o1.try_is, o2.try_is) in
    let same = same_try s c x1.0 x2.0 (local_of g at o1.before) (local_of g at o2.before) o1.queued o2.queued (home_fair g c o1.before h1)
    (all_new g at o1.before h1) (home_fair g c o2.before h2) (all_new g at o2.before h2) o1.head_is o2.head_is number tries (sym l1 ∙ l2) in
    let ts : ts1.0 ≡ ts2.0 = o1.ts_is ∙ ap (next_stamp s) same ∙ sym o2.ts_is in
    answered_there g c d later before dm sends ts1 ts2 k1 k2 txn1 txn1 txn2 n1 n1 n2 ds1 ds2 us1 us2 h small e1 e2 ts
