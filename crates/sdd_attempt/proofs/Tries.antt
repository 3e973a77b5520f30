-- Each try of a transaction was a Start, which took a tick of the clock.
use Rattle.sdd_attempt.proofs.All.{All-filter, All-map, All-nil, All-push, All-weaker, AreTried, Bool, Commit, Did, Handed, List, Log, Msg, Queued, Rec, Records, Redeclared, Sends, Setting, Site, Start, Submits, Ticked, [], arith, clock, cond, current_era, false, filter, is_for, map, nat_tests, not, queue, queue_after, suc, ticked_by, tried, true, ℕ, ◌++◌, ◌+◌, ◌==◌, ◌∷◌, ◌≤◌}
use Rattle.sdd_attempt.proofs.Stamps.{no_sooner}

pub tried_later : (n m : ℕ) (qs : List Queued) → AreTried n qs → n ≤ m → AreTried m qs
tried_later n m qs h l = All-weaker (λ (q : Queued). q.tries ≤ n) (λ (q : Queued). q.tries ≤ m) (λ q k. omega arith) qs h

one_more : (n k : ℕ) (q : Queued) → q.tries ≤ n → (tried k q).tries ≤ suc n
one_more n k q h = elim (q.number == k) as (λ b. (cond b (record q { tries = suc q.tries }) q).tries ≤ suc n) [ true ↦ omega arith | false ↦ omega arith ]

if_tried : (n : ℕ) (b : Bool) (xs ys : List Queued) → AreTried n xs → AreTried n ys → AreTried n (cond b xs ys)
if_tried n b xs ys h k = grind arith

started : (n c k : ℕ) (r : Rec) (sends : List (Site × Msg)) (clk : ℕ) (qs : List Queued) → AreTried clk qs → clk ≤ n
    → AreTried (suc clk) (queue_after c (Records k r sends) qs)
started n c k (Start txn attempt class ts p2 uses) sends clk qs h l =
    if_tried (suc clk) (k == c) (map (tried txn.0) qs) qs
    (All-map (λ (q : Queued). q.tries ≤ suc clk) (tried txn.0) qs
    (All-weaker (λ (q : Queued). q.tries ≤ clk) (λ (q : Queued). (tried txn.0 q).tries ≤ suc clk) (λ q e. one_more clk txn.0 q e) qs h))
    (tried_later clk (suc clk) qs h (omega arith))
started n c k (Commit txn attempt reply changes values rows) sends clk qs h l =
    if_tried (suc clk) (k == c) (filter (λ q. not (q.number == txn.0)) qs) qs
    (All-filter (λ q. not (q.number == txn.0)) (λ (q : Queued). q.tries ≤ suc clk) qs (tried_later clk (suc clk) qs h (omega arith)))
    (tried_later clk (suc clk) qs h (omega arith))
started n c k _ sends clk qs h l = tried_later clk (suc clk) qs h (omega arith)

kept : (c k : ℕ) (r : Rec) (sends : List (Site × Msg)) (s : Setting) (log : Log) → AreTried (clock s.site log).ticks (queue s c log)
    → AreTried (ticked_by (Records k r sends) (clock s.site log)).ticks (queue_after c (Records k r sends) (queue s c log))
kept c k (Start txn attempt class ts p2 uses) sends s log h =
    tried_later (suc (clock s.site log).ticks) ((clock s.site log).ticks + 1) _
    (started (clock s.site log).ticks c k (Start txn attempt class ts p2 uses) sends (clock s.site log).ticks (queue s c log) h (omega arith)) (omega arith)
kept c k (Commit txn attempt reply changes values rows) sends s log h =
    if_tried (clock s.site log).ticks (k == c) (filter (λ q. not (q.number == txn.0)) (queue s c log)) (queue s c log)
    (All-filter (λ q. not (q.number == txn.0)) (λ (q : Queued). q.tries ≤ (clock s.site log).ticks) (queue s c log) h) h
kept c k _ sends s log h = h

pub tries_are_kept : (s : Setting) (c : ℕ) (log : Log) → AreTried (clock s.site log).ticks (queue s c log)
tries_are_kept s c [] = All-nil (λ (q : Queued). q.tries ≤ 0)
tries_are_kept s c (Handed from m ∷ log) = grind (arith, nat_tests, tried_later, clock, queue, no_sooner, (tries_are_kept s c log))
tries_are_kept s c (Ticked n ∷ log) =
    tried_later (clock s.site log).ticks (clock s.site (Ticked n ∷ log)).ticks (queue s c log) (tries_are_kept s c log) (no_sooner s.site (Ticked n) log).0
tries_are_kept s c (Redeclared era t ∷ log) =
    tried_later (clock s.site log).ticks (clock s.site (Redeclared era t ∷ log)).ticks (queue s c log) (tries_are_kept s c log)
    (no_sooner s.site (Redeclared era t) log).0
tries_are_kept s c (Submits n txn ∷ log) =
    if_tried (clock s.site log).ticks (is_for c (current_era s log).catalogue txn) (queue s c log ++ record { number = n; text = txn; tries = 0 } ∷ [])
    (queue s c log)
    (All-push (λ (q : Queued). q.tries ≤ (clock s.site log).ticks) (queue s c log) (record { number = n; text = txn; tries = 0 }) (tries_are_kept s c log)
    (omega arith)) (tries_are_kept s c log)
tries_are_kept s c (Did (Records k r sends) ∷ log) = kept c k r sends s log (tries_are_kept s c log)
tries_are_kept s c (Did (Sends to m hand) ∷ log) = tries_are_kept s c log
