-- At the module for undeclared transactions no attempt is rejected: each Start there is that of the attempt under way, or its
-- Commit stands in the log.
use Rattle.sdd_progress.proofs.All.{Act, Attempt, Bases, Bool, D, Did, DmNo, Each, Handed, Hold, Input, IsFairU, IsPermitted, IsStepU, IsWhole, Msg, None, Option, Queued, Release, Sends, Setting, Site, Some, T, U, [], active, active_handed, active_sent, ap, arith, commit_act, dm_no, each_local, false, hand_was_put, handed, head_of, if◌then◌else◌, inl, inr, local_of, puts_to, queue, refl, rejects, same_Some, sends_of_act, slice_get, start_at, subst, sym, tm_no, u_due, u_way, ℕ, ◌++◌, ◌∙◌, ◌∷◌, ◌≡◌, ◌⊎◌}
use Rattle.sdd_obligations.proofs.invariants.Active.{sent_way}
use Rattle.sdd_obligations.proofs.invariants.Queues.{served_head}
use Rattle.sdd_obligations.specs.invariants.All.{IsServed, next_stamp, started}
use Rattle.sdd_obligations.specs.logs.Entries as whole
use Rattle.sdd_obligations.specs.site_module.SiteLog.{Entry, Log}
use Rattle.sdd_obligations.specs.wire.declared.msg.Msg.TheVariants.{Reject}
use Rattle.sdd_progress.proofs.NoRejects.{never_rejected}

-- no message that is handed rejects an attempt of class 0

abbrev pub KeepsAttempt : Log → Entry → Type 0
KeepsAttempt log (Handed (D d) m) = (ts : ℕ) → rejects m ts 0 ≡ false
KeepsAttempt log _ = Unit {0}

put_keeps : (g : Input) (log : whole.Log) (d : DmNo) (k ts : ℕ) (m : Msg) → IsWhole g.catalogue → IsPermitted g log
    → slice_get (puts_to U (local_of g (D d) log)) k ≡ Some m → rejects m ts 0 ≡ false
put_keeps g log d k ts (Reject t class by write) sound h e = absurd (never_rejected g log d k t class by write sound h e)
put_keeps g log d k ts m sound h e = refl

hand_keeps : (g : Input) (log : whole.Log) (from : Site) (k : ℕ) (m : Msg) → IsWhole g.catalogue → IsPermitted g log
    → slice_get (puts_to U (local_of g from log)) k ≡ Some m → KeepsAttempt (local_of g U log) (Handed from m)
hand_keeps g log (D d) k m sound h e = λ ts. put_keeps g log d k ts m sound h e
hand_keeps g log _ k m sound h e = tt

pub all_keep : (g : Input) → IsWhole g.catalogue → (log : whole.Log) → IsPermitted g log → Each KeepsAttempt (local_of g U log)
all_keep g sound = each_local g U KeepsAttempt (grind (arith, handed, hand_was_put, hand_keeps))

-- the Commit of the attempt with this timestamp

pub record IsServedStart (s : Setting) (log : Log) (ts : ℕ) : Type 0 where
  pub later : Log
  pub bases : Bases
  pub attempt : Attempt
  pub before : Log
  pub is : log ≡ later ++ Did (commit_act s.catalogue bases 0 attempt) ∷ before
  pub active_is : active s 0 before ≡ Some attempt
  pub ts_is : attempt.ts ≡ ts

abbrev pub IsUnderWay : Option Attempt → ℕ → Type 0
IsUnderWay o ts = (a : Attempt) × (o ≡ Some a) × (a.ts ≡ ts)

abbrev pub IsOut : Setting → Log → ℕ → Type 0
IsOut s log ts = IsUnderWay (active s 0 log) ts ⊎ IsServedStart s log ts

-- each entry keeps that

served_more : (s : Setting) (e : Entry) (log : Log) (ts : ℕ) → IsServedStart s log ts → IsServedStart s (e ∷ log) ts
served_more s e log ts h = record {
  later = e ∷ h.later;
  bases = h.bases;
  attempt = h.attempt;
  before = h.before;
  is = ap (λ l. e ∷ l) h.is;
  active_is = h.active_is;
  ts_is = h.ts_is;
}

out_more : (s : Setting) (e : Entry) (log : Log) (ts : ℕ)
    → (IsUnderWay (active s 0 log) ts → IsUnderWay (active s 0 (e ∷ log)) ts ⊎ IsServedStart s (e ∷ log) ts) → IsOut s log ts → IsOut s (e ∷ log) ts
out_more s e log ts f (inl a) = f a
out_more s e log ts f (inr a) = inr (served_more s e log ts a)

under_way : (o : Option Attempt) (a : Attempt) (ts : ℕ) → o ≡ Some a → a.ts ≡ ts → IsUnderWay o ts
under_way o a ts e t = (a, e, t)

same_ts : (o : Option Attempt) (a : Attempt) (ts : ℕ) → o ≡ Some a → IsUnderWay o ts → a.ts ≡ ts
same_ts o a ts e h = ap (λ (y : Attempt). y.ts) (same_Some a h.0 (sym e ∙ h.1)) ∙ h.2

kept_attempt : (b : Bool) (o : Option Attempt) (ts : ℕ) → b ≡ false → IsUnderWay o ts → IsUnderWay (if b then None else o) ts
kept_attempt b o ts e h = rw e h

handed_under_way : (from : Site) (m : Msg) (log : Log) (o : Option Attempt) (ts : ℕ) → KeepsAttempt log (Handed from m) → IsUnderWay o ts
    → IsUnderWay (active_handed 0 from m o) ts
handed_under_way (D d) m log (Some a) ts keeps h = kept_attempt _ _ ts (keeps a.ts) (under_way _ _ ts refl (same_ts (Some a) a ts refl h))
handed_under_way (D d) m log None ts keeps h = h
handed_under_way _ m log o ts keeps h = h

sent_under_way : (m : Msg) (o : Option Attempt) (ts : ℕ) → IsUnderWay o ts → IsUnderWay (active_sent 0 m o) ts
sent_under_way m o ts h = sent_way (λ x. IsUnderWay x ts) 0 m o (λ a x e. under_way _ (record a { exchange = x }) ts refl (same_ts o a ts e h)) h

-- the first in the queue has no Start where no attempt is under way
not_at_start : (s : Setting) (log : Log) (q : Queued) (ts : ℕ) → IsServed (active s 0 log) (queue s 0 log) → head_of (queue s 0 log) ≡ Some q → q.tries ≡ 0
    → IsUnderWay (active s 0 log) ts → ⊥
not_at_start s log q ts served e z h =
    let x = served_head h.0 (queue s 0 log) (subst (λ o. IsServed o (queue s 0 log)) h.1 served) in
    let tries : x.0.tries ≡ q.tries = ap (λ (y : Queued). y.tries) (same_Some x.0 q (sym x.1 ∙ e)) in
    omega (arith, x.4, x.5, tries, z)

act_out : (s : Setting) (log : Log) (act : Act) (ts : ℕ) → IsServed (active s 0 log) (queue s 0 log) → IsStepU s log act → IsOut s log ts
    → IsOut s (Did act ∷ log) ts
act_out s log act ts served step h =
    u_way s log act (λ x. IsOut s (Did x ∷ log) ts)
    (λ q e z r. out_more s (Did (start_at s 0 log q)) log ts (λ u. absurd (not_at_start s log q ts served e z u)) h)
    (λ bases a e. out_more s (Did (commit_act s.catalogue bases 0 a)) log ts
    (λ u. inr (record { later = []; bases = bases; attempt = a; before = log; is = refl; active_is = e; ts_is = same_ts (active s 0 log) a ts e u })) h)
    (λ d m a e. out_more s (Did (Sends (D (dm_no d)) m None)) log ts (λ u. inl (sent_under_way m (active s 0 log) ts u)) h)
    (λ t release l w. out_more s (Did (Sends (T (tm_no t)) (Release release) None)) log ts
    (λ u. inl (sent_under_way (Release release) (active s 0 log) ts u)) h)
    (λ t l. out_more s (Did (Sends (T (tm_no t)) Hold None)) log ts (λ u. inl (sent_under_way Hold (active s 0 log) ts u)) h) step

started_under_way : (s : Setting) (log : Log) (q : Queued) → head_of (queue s 0 log) ≡ Some q
    → IsUnderWay (active s 0 (Did (start_at s 0 log q) ∷ log)) (next_stamp s log)
started_under_way s log q e =
    subst (λ o. IsUnderWay (started (next_stamp s log) (sends_of_act (start_at s 0 log q)) o) (next_stamp s log)) (sym e) (under_way _ _ _ refl refl)

pub started_out : (s : Setting) (later log : Log) (q : Queued) → head_of (queue s 0 log) ≡ Some q → Each (IsFairU s) (later ++ Did (start_at s 0 log q) ∷ log)
    → Each KeepsAttempt (later ++ Did (start_at s 0 log q) ∷ log) → IsOut s (later ++ Did (start_at s 0 log q) ∷ log) (next_stamp s log)
started_out s [] log q e fair keeps = inl (started_under_way s log q e)
started_out s (Handed from m ∷ later) log q e fair keeps =
    let rest : Log = later ++ Did (start_at s 0 log q) ∷ log in
    out_more s (Handed from m) rest (next_stamp s log)
    (λ u. inl (handed_under_way from m rest (active s 0 rest) (next_stamp s log) keeps.0 u)) (started_out s later log q e fair.1 keeps.1)
started_out s (Did act ∷ later) log q e fair keeps =
    let rest : Log = later ++ Did (start_at s 0 log q) ∷ log in
    act_out s rest act (next_stamp s log) fair.0.1 (u_due s fair.0.0.0 rest act fair.0.0.1) (started_out s later log q e fair.1 keeps.1)
started_out s (x ∷ later) log q e fair keeps =
    out_more s x (later ++ Did (start_at s 0 log q) ∷ log) (next_stamp s log) (λ u. inl u) (started_out s later log q e fair.1 keeps.1)
