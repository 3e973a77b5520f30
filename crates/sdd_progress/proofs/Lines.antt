-- What the line of a class has left to do, once a site acts.
use Rattle.sdd_progress.proofs.AllEnds.{Act, Attempt, Bases, Did, IsServed, List, Msg, None, Option, Queued, Sends, Setting, Site, Some, Ticking, [], active, ap, arith, asks_rows, commit_act, committed_short, false, filter, head_of, length, map, not, queue, refl, same_number, send_due, start_act, subst, suc, sym, tried, true, work_of, work_sent, ℕ, ◌<◌, ◌==◌, ◌∷◌, ◌≡◌, ◌≤◌}
use Rattle.sdd_obligations.specs.site_module.SiteLog.{Log}
use Rattle.sdd_obligations.specs.protocol.declared.entry.Entry as line

abbrev pub class_work : Setting → Log → ℕ → ℕ
class_work s log c = work_of (active s c log) (queue s c log)

-- a message that it sends leaves it no more, and one of its exchange less

pub send_up : (s : Setting) (c : ℕ) (log : Log) (to : Site) (m : Msg) (hand : Option ℕ) → class_work s (Did (Sends to m hand) ∷ log) c ≤ class_work s log c
send_up s c log to m hand = (grind (arith))

pub send_falls : (s : Setting) (c : ℕ) (log : Log) (a : Attempt) (act : Act) (to : Site) (m : Msg) (hand : Option ℕ)
    → active s c log ≡ Some a → asks_rows a.ts c m ≡ true → send_due a.exchange ≡ Some act → class_work s (Did (Sends to m hand) ∷ log) c < class_work s log c
send_falls s c log a act to m hand is asks due = grind (arith, work_sent)

-- a Start

pub tried_long : (n : ℕ) (qs : List Queued) → length (map (tried n) qs) ≡ length qs
tried_long n [] = refl
tried_long n (q ∷ qs) = ap suc (tried_long n qs)

pub start_falls : (s : Setting) (table : List line.Entry) (clock : Ticking) (c : ℕ) (log : Log) (q : Queued)
    → active s c log ≡ None → head_of (queue s c log) ≡ Some q → class_work s (Did (start_act s.catalogue table c clock q) ∷ log) c < class_work s log c
start_falls s table clock c log q idle head = grind (arith, tried_long, same_number)

pub start_other : (s : Setting) (table : List line.Entry) (clock : Ticking) (k c : ℕ) (log : Log) (q : Queued) → (k == c) ≡ false
    → class_work s (Did (start_act s.catalogue table k clock q) ∷ log) c ≡ class_work s log c
start_other s table clock k c log q e = rw e refl

-- a Commit

committed_less : (a : Attempt) (qs : List Queued) → IsServed (Some a) qs → work_of None (filter (λ q. not (q.number == a.txn)) qs) < work_of (Some a) qs
committed_less a qs h = grind (arith, committed_short)

pub commit_falls : (s : Setting) (bases : Bases) (c : ℕ) (log : Log) (a : Attempt) → active s c log ≡ Some a → IsServed (active s c log) (queue s c log)
    → class_work s (Did (commit_act s.catalogue bases c a) ∷ log) c < class_work s log c
commit_falls s bases c log a is served =
    let less = committed_less a (queue s c log) (subst (λ o. IsServed o (queue s c log)) is served) in
    rw (same_number c) (subst (λ o. work_of None (filter (λ q. not (q.number == a.txn)) (queue s c log)) < work_of o (queue s c log)) (sym is) less)

pub commit_other : (s : Setting) (bases : Bases) (k c : ℕ) (log : Log) (a : Attempt) → (k == c) ≡ false
    → class_work s (Did (commit_act s.catalogue bases k a) ∷ log) c ≡ class_work s log c
commit_other s bases k c log a e = rw e refl
