-- What a data module puts, and why; an Answer follows its attempt's Start, and a Commit an Answer of its attempt at each
-- module that it reads.
use Rattle.sdd_invariants.proofs.All.{Act, Ask, Attempt, Bool, ClassNo, Cond, D, Did, DmNo, Does, Done, Each, Hand, Handed, HasAnswer, Input, IsDueEach, IsFair, IsFetch, IsHonest, IsPermitted, IsPutByD, IsRead, IsReadOf, IsReadyBy, IsReduce, IsShip, IsStep, List, Msg, Queued, Read, Ready, Reduced, Reject, Rows, Setting, Site, Some, Ts, TxnNo, Use, Values, WasAsked, [], active, ap, append_assoc, arith, asks_in, asks_rows, contains, counts, each_local, eqb-true, false, handed, head, head_of, home, home_of, if◌then◌else◌, is_answer, is_over, is_ready, list_any, local_of, modules_asked, next_stamp, or_left, or_right, pipe_at, puts_to, queue, refl, same_site, sends_of_act, setting_of, slice_get, source_of, start_at, subst, suc, sym, to_site, true, was_asked, was_ready, ℕ, ◌&&◌, ◌++◌, ◌==◌, ◌||◌, ◌∙◌, ◌∷◌, ◌≡◌}
use Rattle.sdd_invariants.proofs.Clocks.{clock_grows, clock_number}
use Rattle.sdd_invariants.proofs.Origins.{was_put}
use Rattle.sdd_invariants.proofs.ReadsPut.{start_puts}
use Rattle.sdd_invariants.proofs.Recorded.{start_of_active}
use Rattle.sdd_invariants.proofs.WritesPut.{commit_puts}
use Rattle.sdd_invariants.proofs.PutBy.{put_by_d}
use Rattle.sdd_invariants.proofs.Installed.{class_number, head_put}
use Rattle.sdd_invariants.proofs.Readied.{all_ready, over_reads}
use Rattle.sdd_invariants.proofs.Active.{each_at, step_way}
use Rattle.sdd_invariants.proofs.Bools.{and_left, and_right, not_both}
use Rattle.sdd_invariants.proofs.Lists.{in_none, in_one}
use Rattle.sdd_invariants.proofs.Sites.{site_is, the_one}
use Rattle.sdd_invariants.proofs.Fair.{d_fair, home_fair, t_fair, u_fair}
use Rattle.sdd_invariants.proofs.InOrder.{hand_was_put}
use Rattle.sdd_invariants.proofs.Made.{local_grows, own_act, permitted_before, place_of_act, place_of_hand}
use Rattle.sdd_log.specs.All.{Log}
use Rattle.sdd_log.specs.site_module.SiteLog as site

-- the kinds of messages that a data module puts
abbrev pub is_from_d : Msg → Bool
is_from_d (Ready ts c counts) = true
is_from_d (Reject ts c by w) = true
is_from_d (Values ts c u vs) = true
is_from_d (Reduced ts c u n) = true
is_from_d (Rows ts c rows) = true
is_from_d (Ask c t) = true
is_from_d (Done ts) = true
is_from_d _ = false

-- what T and U put is of other kinds

step_not_d : (s : Setting) (b : Site) (log : site.Log) (act : Act) (k : ℕ) (m : Msg) → IsStep s log act
    → slice_get (to_site b (sends_of_act act)) k ≡ Some m → is_from_d m ≡ false
step_not_d s b log act k m i = grind (arith, step_way, slice_get, is_from_d, start_puts, in_none, in_one, commit_puts, the_one)

-- the act that put a message, in the log of everything
pub record IsPutIn (g : Input) (log : Log) (from at : Site) (m : Msg) (P : site.Log → Act → Type 0) : Type 0 where
  pub later : Log
  pub act : Act
  pub before : Log
  pub is : log ≡ later ++ Does from act ∷ before
  pub by : P (local_of g from before) act

put_in : (g : Input) (log : Log) (from at : Site) (k : ℕ) (m : Msg) (P : site.Log → Act → Type 0) (Q : site.Log → site.Entry → Type 0)
    → Each Q (local_of g from log) → ((l : site.Log) (act : Act) (j : ℕ) → Q l (Did act) → slice_get (to_site at (sends_of_act act)) j ≡ Some m → P l act)
    → slice_get (puts_to at (local_of g from log)) k ≡ Some m → IsPutIn g log from at m P
put_in g log from at k m P Q h f e =
    let p = was_put at (local_of g from log) k m e in
    let q = each_at Q p.later (Did p.act) p.before (subst (Each Q) p.is h) in
    let l = place_of_act g from log p.later p.act p.before p.is in
    record { later = l.later; act = p.act; before = l.rest; is = l.is; by = subst (λ b. P b p.act) (sym l.local_is) (f p.before p.act p.place q.0 p.there) }

pub put_in_by_d : (g : Input) (log : Log) (d : DmNo) (at : Site) (k : ℕ) (m : Msg) → IsPermitted g log
    → slice_get (puts_to at (local_of g (D d) log)) k ≡ Some m → IsPutIn g log (D d) at m (λ l act. IsPutByD (setting_of g (D d)) l at act m)
put_in_by_d g log d at k m h e =
    put_in g log (D d) at k m (λ l act. IsPutByD (setting_of g (D d)) l at act m) (IsDueEach (setting_of g (D d))) (d_fair g d log h)
    (λ l act j q there. put_by_d (setting_of g (D d)) l act q at j m there) e

-- what only D puts comes from a D
not_from_d : (g : Input) (log : Log) (from at : Site) (k : ℕ) (m : Msg) → Each (IsFair (setting_of g from)) (local_of g from log)
    → slice_get (puts_to at (local_of g from log)) k ≡ Some m → is_from_d m ≡ false
not_from_d g log from at k m h e =
    (put_in g log from at k m (λ l act. is_from_d m ≡ false) (IsFair (setting_of g from)) h (λ l act j q there. step_not_d (setting_of g from) at l act j m q there) e).by

pub from_a_d : (g : Input) (log : Log) (from at : Site) (k : ℕ) (m : Msg) → IsPermitted g log
    → slice_get (puts_to at (local_of g from log)) k ≡ Some m → is_from_d m ≡ true → (d : DmNo) × (from ≡ D d)
from_a_d g log from at k m h e f = grind (arith, not_both, is_from_d, not_from_d, u_fair, t_fair)

-- an answer of an exchange was asked for

any_cons : (f : Msg → Bool) (x : Msg) (ms : List Msg) (k : ℕ) (m : Msg) (b : Bool)
    → ((j : ℕ) → slice_get ms j ≡ Some m → b ≡ true) → f m ≡ true → slice_get (x ∷ ms) k ≡ Some m → (f x || b) ≡ true
any_cons f x ms k m b h g e = grind (arith, or_left, or_right)

any_sent : (f : Msg → Bool) (b : Site) (sends : List (Site × Msg)) (k : ℕ) (m : Msg) → slice_get (to_site b sends) k ≡ Some m
    → f m ≡ true → list_any (λ (p : Site × Msg). f p.1) sends ≡ true
any_sent f b [] k m e g = cc
any_sent f b (p ∷ sends) k m e g = elim (same_site b p.0) as
    (λ c. slice_get (if c then p.1 ∷ to_site b sends else to_site b sends) k ≡ Some m → (f p.1 || list_any
    (λ (p : Site × Msg). f p.1) sends) ≡ true) [
      | true ↦ λ q. any_cons f p.1 (to_site b sends) k m (list_any (λ (p : Site × Msg). f p.1) sends) (λ j r. any_sent f b sends j m r g) g q
      | false ↦ λ q. or_right (f p.1) _ (any_sent f b sends k m q g)
    ] e

asked_more : (ts c : ℕ) (later l : site.Log) → was_asked ts c l ≡ true → was_asked ts c (later ++ l) ≡ true
asked_more ts c [] l e = e
asked_more ts c (Did act ∷ later) l e = or_right (asks_in ts c (sends_of_act act)) (was_asked ts c (later ++ l)) (asked_more ts c later l e)
asked_more ts c (_ ∷ later) l e = asked_more ts c later l e

asked_of_put : (ts c : ℕ) (b : Site) (l : site.Log) (k : ℕ) (m : Msg) → slice_get (puts_to b l) k ≡ Some m → asks_rows ts c m ≡ true → was_asked ts c l ≡ true
asked_of_put ts c b l k m e f =
    let p = was_put b l k m e in
    subst (λ x. was_asked ts c x ≡ true) (sym p.is)
    (asked_more ts c p.later (Did p.act ∷ p.before)
    (or_left (asks_in ts c (sends_of_act p.act)) (was_asked ts c p.before)
    (any_sent (asks_rows ts c) b (sends_of_act p.act) p.place m p.there f)))

asked_then : (g : Input) (log : Log) (at : Site) (d : DmNo) (ts c : ℕ) (later log2 : Log) (P : Msg → Type 0) → IsPermitted g log
    → log ≡ later ++ log2 → WasAsked (local_of g (D d) log2) at P → ((m : Msg) → P m → asks_rows ts c m ≡ true) → was_asked ts c (local_of g at log) ≡ true
asked_then g log at d ts c later log2 P h e w f =
    let i = place_of_hand g (D d) log2 w.later at w.asked w.before w.is in
    let h2 : IsPermitted g (Hand at (D d) i.number w.asked ∷ i.rest) = permitted_before g i.later (Hand at (D d) i.number w.asked ∷ i.rest)
    (subst (IsPermitted g) i.is (permitted_before g later log2 (subst (IsPermitted g) e h))) in
    let put = hand_was_put g i.rest at (D d) i.number w.asked h2.0 in
    let a = asked_of_put ts c (D d) (local_of g at i.rest) (handed at (D d) i.rest) w.asked put.1 (f w.asked w.fits) in
    let x = local_grows g at (i.later ++ Hand at (D d) i.number w.asked ∷ []) i.rest in
    let here : was_asked ts c (local_of g at log2) ≡ true = subst (λ l. was_asked ts c (local_of g at l) ≡ true)
    (append_assoc i.later (Hand at (D d) i.number w.asked ∷ []) i.rest ∙ sym i.is)
    (subst (λ l. was_asked ts c l ≡ true) (sym x.1) (asked_more ts c x.0 (local_of g at i.rest) a)) in
    grind (arith, asked_more, local_grows g at later log2)

honest_d : (g : Input) (log : Log) (at : Site) (d : DmNo) (m : Msg) (ts c : ℕ) (later before : Log) (act : Act)
    → IsPermitted g log → log ≡ later ++ Does (D d) act ∷ before → IsPutByD (setting_of g (D d)) (local_of g (D d) before) at act m → is_answer ts c m ≡ true
    → was_asked ts c (local_of g at log) ≡ true
honest_d g log at d (Values t k u vs) ts c later before act h e w f =
    asked_then g log at d ts c (later ++ Does (D d) act ∷ []) before (IsFetch t k u) h (e ∙ sym (append_assoc later (Does (D d) act ∷ []) before)) w
    (λ m p. ap (asks_rows ts c) p.1 ∙ f)
honest_d g log at d (Reduced t k u n) ts c later before act h e w f =
    asked_then g log at d ts c (later ++ Does (D d) act ∷ []) before (IsReduce t k u) h (e ∙ sym (append_assoc later (Does (D d) act ∷ []) before)) w
    (λ m p. ap (asks_rows ts c) p.2 ∙ f)
honest_d g log at d (Rows t k rows) ts c later before act h e w f =
    asked_then g log at d ts c (later ++ Does (D d) act ∷ []) before (IsShip t k) h (e ∙ sym (append_assoc later (Does (D d) act ∷ []) before)) w
    (λ m p. ap (asks_rows ts c) p ∙ f)
honest_d g log at d m ts c later before act h e w f = cc

honest_hand : (g : Input) (log : Log) (from at : Site) (k : ℕ) (m : Msg) (ts c : ℕ) → IsPermitted g log
    → slice_get (puts_to at (local_of g from log)) k ≡ Some m → is_answer ts c m ≡ true → was_asked ts c (local_of g at log) ≡ true
honest_hand g log from at k m ts c h e f =
    let d = from_a_d g log from at k m h e (grind arith) in
    let p = put_in_by_d g log d.0 at k m h (subst (λ x. slice_get (puts_to at (local_of g x log)) k ≡ Some m) d.1 e) in
    honest_d g log at d.0 m ts c p.later p.before p.act h p.is p.by f

pub honest : (g : Input) (at : Site) (log : Log) → IsPermitted g log → Each IsHonest (local_of g at log)
honest g at = grind (arith, each_local, honest_hand, hand_was_put)

-- the READ at a head was put by the Start of its attempt

pub read_of : (g : Input) (c : ℕ) (d : DmNo) (log : Log) (ts : Ts) (k : ClassNo) (txn : TxnNo) (attempt : ℕ) (conds : List Cond) (uses : List Use)
    → IsPermitted g log → head (pipe_at g c d log) ≡ Some (Read ts k txn attempt conds uses) → (k.0 ≡ c) × IsReadOf g log c txn.0 attempt ts.0
read_of g c d log ts k txn attempt conds uses h e =
    let at : Site = home g.catalogue c in
    let p = head_put g c d log (Read ts k txn attempt conds uses) h e in
    let z : k.0 ≡ c = class_number k.0 c ts.0 p.of_class in
    let r : IsRead (setting_of g at) (local_of g at p.before) p.act c ts.0 txn.0 attempt = subst
    (λ j. IsRead (setting_of g at) (local_of g at p.before) p.act j ts.0 txn.0 attempt) z p.by in
    (z, record { later = p.later; before = p.before; queued = r.queued; is = p.is ∙ ap (λ x. p.later ++ Does at x ∷ p.before) r.act_is; idle = r.idle; head_is = r.head; number_is = r.number_is; try_is = r.try_is; ts_is = r.time_is })

-- one timestamp, one Start

pub one_start : (s : Setting) (c : ℕ) (l1 l2 b1 b2 : site.Log) (q1 q2 : Queued) → next_stamp s b1 ≡ next_stamp s b2
    → l1 ++ Did (start_at s c b1 q1) ∷ b1 ≡ l2 ++ Did (start_at s c b2 q2) ∷ b2 → b1 ≡ b2
one_start s c [] [] b1 b2 q1 q2 e f = cc
one_start s c [] (y ∷ l2) b1 b2 q1 q2 e f = let p : b1 ≡ l2 ++ Did (start_at s c b2 q2) ∷ b2 = cc in absurd (grind (arith, clock_grows, start_at, clock_number))
one_start s c (x ∷ l1) [] b1 b2 q1 q2 e f = let p : b2 ≡ l1 ++ Did (start_at s c b1 q1) ∷ b1 = cc in absurd (grind (arith, clock_grows, start_at, clock_number))
one_start s c (x ∷ l1) (y ∷ l2) b1 b2 q1 q2 e f =
    let p : l1 ++ Did (start_at s c b1 q1) ∷ b1 ≡ l2 ++ Did (start_at s c b2 q2) ∷ b2 = cc in one_start s c l1 l2 b1 b2 q1 q2 e p

pub same_head : (s : Setting) (c : ℕ) (b1 b2 : site.Log) (q1 q2 : Queued) → b1 ≡ b2 → head_of (queue s c b1) ≡ Some q1
    → head_of (queue s c b2) ≡ Some q2 → q1 ≡ q2
same_head s c b1 b2 q1 q2 e f g = let p : Some q1 ≡ Some q2 = sym f ∙ ap (λ b. head_of (queue s c b)) e ∙ g in cc

-- a READ with the timestamp of the active attempt is of that attempt
pub of_attempt : (g : Input) (c : ℕ) (log later log2 : Log) (a : Attempt) (n k t : ℕ) → IsPermitted g log
    → active (setting_of g (home g.catalogue c)) c (local_of g (home g.catalogue c) log) ≡ Some a → log ≡ later ++ log2
    → IsReadOf g log2 c n k t → t ≡ a.ts → (n ≡ a.txn) × (k ≡ a.attempt)
of_attempt g c log later log2 a n k t h e is r ts =
    let at : Site = home g.catalogue c in
    let s : Setting = setting_of g at in
    let st = start_of_active s c (local_of g at log) a (home_fair g c log h) e in
    let x = local_grows g at (later ++ r.later) (Does at (start_at s c (local_of g at r.before) r.queued) ∷ r.before) in
    let whole : log ≡ (later ++ r.later) ++ Does at (start_at s c (local_of g at r.before) r.queued) ∷ r.before = is ∙ ap (λ l. later ++ l) r.is
    ∙ sym (append_assoc later r.later _) in
    let here : local_of g at log ≡ x.0 ++ Did (start_at s c (local_of g at r.before) r.queued) ∷ local_of g at r.before = ap (local_of g at) whole ∙ x.1
    ∙ ap (λ l. x.0 ++ l) (own_act g at (start_at s c (local_of g at r.before) r.queued) r.before) in
    let stamp : next_stamp s st.before ≡ next_stamp s (local_of g at r.before) = sym st.ts_is ∙ sym ts ∙ r.ts_is in
    let same : st.before ≡ local_of g at r.before = one_start s c st.later x.0 st.before (local_of g at r.before) st.queued r.queued stamp (sym st.is ∙ here) in
    let q : st.queued ≡ r.queued = same_head s c st.before (local_of g at r.before) st.queued r.queued same st.head r.head_is in
    (r.number_is ∙ ap (λ (y : Queued). y.number) (sym q) ∙ sym st.number_is, r.try_is ∙ ap (λ (y : Queued). suc y.tries) (sym q) ∙ sym st.try_is)

-- a READY that was handed
pub record WasReady (log : site.Log) (d : Site) (ts c : ℕ) : Type 0 where
  pub later : site.Log
  pub before : site.Log
  pub t : Ts
  pub k : ClassNo
  pub counts : List (ℕ × ℕ)
  pub is : log ≡ later ++ Handed d (Ready t k counts) ∷ before
  pub ts_is : t.0 ≡ ts
  pub class_is : k.0 ≡ c

more_ready : (e : site.Entry) (log : site.Log) (d : Site) (ts c : ℕ) → WasReady log d ts c → WasReady (e ∷ log) d ts c
more_ready e log d ts c h =
    record { later = e ∷ h.later; before = h.before; t = h.t; k = h.k; counts = h.counts; is = ap (λ l. e ∷ l) h.is; ts_is = h.ts_is; class_is = h.class_is }

ready_msg : (ts c : ℕ) (from d : Site) (m : Msg) (log : site.Log) → from ≡ d → is_ready ts c m ≡ true → WasReady (Handed from m ∷ log) d ts c
ready_msg ts c from d (Ready t k counts) log p e =
    record { later = []; before = log; t = t; k = k; counts = counts; is = ap (λ x. Handed x (Ready t k counts) ∷ log) p; ts_is = eqb-true t.0 ts (and_left (t.0 == ts) (k.0 == c) e); class_is = eqb-true k.0 c (and_right (t.0 == ts) (k.0 == c) e) }
ready_msg ts c from d m log p e = cc

ready_handed : (ts c : ℕ) (d : Site) (log : site.Log) → was_ready ts c d log ≡ true → WasReady log d ts c
ready_handed ts c d [] e = cc
ready_handed ts c d (Handed from m ∷ log) e =
    elim (same_site d from && is_ready ts c m) as
    (λ b. (same_site d from && is_ready ts c m) ≡ b → (b || was_ready ts c d log) ≡ true → WasReady (Handed from m ∷ log) d ts c) [
      | true ↦ grind (arith, ready_msg, site_is, and_left, same_site, is_ready, and_right)
      | false ↦ λ p q. more_ready (Handed from m) log d ts c (ready_handed ts c d log q)
    ] refl e
ready_handed ts c d (x ∷ log) e = more_ready x log d ts c (ready_handed ts c d log e)

answer_there : (g : Input) (c : ℕ) (d : DmNo) (log : Log) (a : Attempt) → IsPermitted g log
    → active (setting_of g (home g.catalogue c)) c (local_of g (home g.catalogue c) log) ≡ Some a
    → was_ready a.ts c (D d) (local_of g (home g.catalogue c) log) ≡ true → HasAnswer g log d c a
answer_there g c d log a h e w =
    let at : Site = home g.catalogue c in
    let r = ready_handed a.ts c (D d) (local_of g at log) w in
    let i = place_of_hand g at log r.later (D d) (Ready r.t r.k r.counts) r.before r.is in
    let h2 : IsPermitted g (Hand (D d) at i.number (Ready r.t r.k r.counts) ∷ i.rest) = permitted_before g i.later
    (Hand (D d) at i.number (Ready r.t r.k r.counts) ∷ i.rest) (subst (IsPermitted g) i.is h) in
    let p = put_in_by_d g i.rest d at (handed (D d) at i.rest) (Ready r.t r.k r.counts) h2.1
    (hand_was_put g i.rest (D d) at i.number (Ready r.t r.k r.counts) h2.0).1 in
    let by : IsReadyBy (setting_of g (D d)) (local_of g (D d) p.before) at p.act r.t r.k r.counts = p.by in
    let h3 : IsPermitted g (Does (D d) p.act ∷ p.before) = permitted_before g p.later (Does (D d) p.act ∷ p.before) (subst (IsPermitted g) p.is h2.1) in
    let ro = read_of g by.class d p.before r.t r.k by.txn by.attempt by.conds by.uses h3.1 by.head_is in
    let of : by.class ≡ c = sym ro.0 ∙ r.class_is in
    let front : Log = (i.later ++ Hand (D d) at i.number (Ready r.t r.k r.counts) ∷ []) ++ p.later in
    let whole : log ≡ front ++ Does (D d) p.act ∷ p.before = i.is ∙ ap (λ l. i.later ++ Hand (D d) at i.number (Ready r.t r.k r.counts) ∷ l) p.is
    ∙ sym (append_assoc i.later (Hand (D d) at i.number (Ready r.t r.k r.counts) ∷ []) (p.later ++ Does (D d) p.act ∷ p.before))
    ∙ sym (append_assoc (i.later ++ Hand (D d) at i.number (Ready r.t r.k r.counts) ∷ []) p.later (Does (D d) p.act ∷ p.before)) in
    let read : IsReadOf g p.before c by.txn.0 by.attempt r.t.0 = subst (λ j. IsReadOf g p.before j by.txn.0 by.attempt r.t.0) of ro.1 in
    let o = of_attempt g c log (front ++ Does (D d) p.act ∷ []) p.before a by.txn.0 by.attempt r.t.0 h e
    (whole ∙ sym (append_assoc front (Does (D d) p.act ∷ []) p.before)) read r.ts_is in
    record {
      later = front;
      before = p.before;
      txn = by.txn;
      attempt = by.attempt;
      sends = (source_of (home_of (setting_of g (D d))) by.class, Ready r.t r.k r.counts) ∷ [];
      is = grind (arith, home_of, setting_of, source_of);
      number_is = o.0;
      try_is = o.1;
      ts = r.t;
      of = r.k;
      conds = by.conds;
      uses = by.uses;
      head_is = subst (λ j. head (pipe_at g j d p.before) ≡ Some (Read r.t r.k by.txn by.attempt by.conds by.uses)) of by.head_is;
      ts_is = r.ts_is;
    }

-- where the attempt awaits no READY, as at its Commit, there is an Answer of it at each of its modules
pub answered_all : (g : Input) (c : ℕ) (log : Log) (a : Attempt) (d : DmNo) → IsPermitted g log
    → active (setting_of g (home g.catalogue c)) c (local_of g (home g.catalogue c) log) ≡ Some a → is_over a.exchange.phase ≡ true
    → contains (modules_asked (setting_of g (home g.catalogue c)) c a.text) d.0 ≡ true → HasAnswer g log d c a
answered_all g c log a d h e o p =
    answer_there g c d log a h e
    (all_ready (setting_of g (home g.catalogue c)) c (local_of g (home g.catalogue c) log) a d.0 (home_fair g c log h)
    (honest g (home g.catalogue c) log h) e (over_reads a.exchange o) p)
