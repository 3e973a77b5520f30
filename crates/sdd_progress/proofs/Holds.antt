-- A transaction module is asked to hold only while a transaction waits at the module for undeclared transactions; and the
-- Commit of the transaction that this served last.
use Rattle.sdd_progress.proofs.All.{Act, Attempt, Bases, Bool, Catalogue, D, Did, Each, Handed, Hold, IsChain, IsFairU, IsStepU, List, Msg, None, Option, Queued, Release, Sends, Setting, Site, Some, Submits, T, [], active, ap, arith, asks_next, asks_rows, balance, chain, commit_act, counts, dm_no, false, first_send, hand_commits, hand_counts, hand_ts, head_of, if_way, if◌then◌else◌, inl, inr, is_over, last_served, map, numbers_to, one_if_le, or_else, queue, refl, slice_get, start_at, subst, suc, tm_no, tried, true, ts_of, u_due, u_way, ℕ, ◌++◌, ◌<◌, ◌∙◌, ◌∷◌, ◌≡◌, ◌≤◌, ◌⊎◌}
use Rattle.sdd_obligations.specs.site_module.SiteLog.{Entry, Log}
use Rattle.sdd_obligations.specs.umod.Due.{IsDue}
use Rattle.sdd_obligations.specs.umod.Views.{view_of}

-- no HOLD without a transaction in the queue

abbrev is_hold : Act → Bool
is_hold (Sends to Hold hand) = true
is_hold _ = false

no_hold_here : (x a : Act) → is_hold x ≡ false → Some x ≡ Some a → is_hold a ≡ false
no_hold_here x a h e = let p : x ≡ a = cc in subst (λ y. is_hold y ≡ false) p h

asks_no_hold : (ts c : ℕ) (to : Site) (m : Msg) (hand : Option ℕ) → asks_rows ts c m ≡ true → is_hold (Sends to m hand) ≡ false
asks_no_hold ts c to m hand e = grind arith

no_hold_to_commit : (cat : Catalogue) (bases : Bases) (a : Attempt) (b : Bool) (act : Act)
    → (if b then Some (commit_act cat bases 0 a) else None) ≡ Some act → is_hold act ≡ false
no_hold_to_commit cat bases a b act e = grind (arith, no_hold_here)

no_hold_to_send : (s : Setting) (log : Log) (bases : Bases) (a : Attempt) (ms : List (ℕ × Msg)) (act : Act) → active s 0 log ≡ Some a → a.exchange.to_send ≡ ms
    → or_else (first_send ms) (if is_over a.exchange.phase then Some (commit_act s.catalogue bases 0 a) else None) ≡ Some act → is_hold act ≡ false
no_hold_to_send s log bases a [] act i p e = no_hold_to_commit s.catalogue bases a (is_over a.exchange.phase) act e
no_hold_to_send s log bases a (m ∷ rest) act i p e =
    no_hold_here (Sends (D (dm_no m.0)) m.1 None) act (asks_no_hold a.ts 0 (D (dm_no m.0)) m.1 None (asks_next s 0 log a m i (ap head_of p))) e

no_hold : (s : Setting) (log : Log) (bases : Bases) (act : Act) → head_of (queue s 0 log) ≡ None
    → IsDue s.catalogue bases (view_of s log) act → is_hold act ≡ false
no_hold s log bases act e h6 = grind (arith, no_hold_to_send, no_hold_here)

-- where no transaction waits, no more HOLDs are sent than there are Commits

abbrev pub HoldsNeeded : Setting → ℕ → Log → Type 0
HoldsNeeded s t log = ((counts t log).holds ≤ (last_served s log).commits) ⊎ ((q : Queued) × (head_of (queue s 0 log) ≡ Some q))

head_there : (qs : List Queued) (q r : Queued) → (x : Queued) × (head_of (qs ++ q ∷ []) ≡ Some x)
head_there [] q r = (q, refl)
head_there (x ∷ qs) q r = (x, refl)

head_mapped : (f : Queued → Queued) (qs : List Queued) (q : Queued) → head_of qs ≡ Some q → (x : Queued) × (head_of (map f qs) ≡ Some x)
head_mapped f [] q e = cc
head_mapped f (x ∷ qs) q e = (f x, refl)

needed_on : (s : Setting) (t : ℕ) (e : Entry) (log : Log) → (counts t (e ∷ log)).holds ≡ (counts t log).holds
    → (last_served s (e ∷ log)).commits ≡ (last_served s log).commits
    → ((q : Queued) → head_of (queue s 0 log) ≡ Some q → (x : Queued)
    × (head_of (queue s 0 (e ∷ log)) ≡ Some x)) → HoldsNeeded s t log → HoldsNeeded s t (e ∷ log)
needed_on s t e log a b c h8 = grind arith

needed_act : (s : Setting) (t : ℕ) (log : Log) (act : Act) → IsChain s t log → (counts t log).holds ≤ suc (counts t log).releases
    → IsStepU s log act → is_hold act ≡ false ⊎ ((q : Queued) × (head_of (queue s 0 log) ≡ Some q)) → HoldsNeeded s t log → HoldsNeeded s t (Did act ∷ log)
needed_act s t log act c l step or h =
    u_way s log act (λ x. is_hold x ≡ false ⊎ ((q : Queued) × (head_of (queue s 0 log) ≡ Some q)) → HoldsNeeded s t (Did x ∷ log))
    (λ q e z r. λ o. needed_on s t (Did (start_at s 0 log q)) log refl refl (λ p i. head_mapped (tried q.number) (queue s 0 log) p i) h)
    (λ bases a e. λ o. (let r = c.released in inl (omega (arith, l, r))))
    (grind (arith, needed_on, dm_no, counts))
    (λ n ts i w. λ o. needed_on s t (Did (Sends (T (tm_no n)) (Release ts) None)) log (grind (arith, if_way)) refl (λ p i. (p, i)) h)
    (λ n i. λ o. elim o [ inl p ↦ cc | inr p ↦ inr p ])
    step or

submitted_head : (b : Bool) (qs : List Queued) (r q : Queued) → head_of qs ≡ Some q → (x : Queued) × (head_of (if b then qs ++ r ∷ [] else qs) ≡ Some x)
submitted_head true qs r q e = head_there qs r r
submitted_head false qs r q e = (q, e)

pub holds_needed : (s : Setting) (k t : ℕ) (log : Log) → slice_get (numbers_to s.catalogue.tms) k ≡ Some t → Each (IsFairU s) log → HoldsNeeded s t log
holds_needed s k t [] i h = inl (omega arith)
holds_needed s k t (Handed from m ∷ log) i h =
    needed_on s t (Handed from m) log (hand_counts from m (counts t log)).1 (hand_commits m (last_served s log)) (λ q e. (q, e)) (holds_needed s k t log i h.1)
holds_needed s k t (Submits n txn ∷ log) i h = grind (arith, needed_on, submitted_head, (holds_needed s k t log i h.1))
holds_needed s k t (Did act ∷ log) i h =
    let c = chain s k t log i h.1 in
    needed_act s t log act c (grind (arith, balance, one_if_le)) (u_due s h.0.0.0 log act h.0.0.1)
    (grind (arith, no_hold)) (holds_needed s k t log i h.1)
holds_needed s k t (x ∷ log) i h = needed_on s t x log refl refl (λ q e. (q, e)) (holds_needed s k t log i h.1)

-- the last Commit

pub record IsLastCommit (s : Setting) (log : Log) : Type 0 where
  pub later : Log
  pub bases : Bases
  pub attempt : Attempt
  pub before : Log
  pub is : log ≡ later ++ Did (commit_act s.catalogue bases 0 attempt) ∷ before
  pub active_is : active s 0 before ≡ Some attempt
  pub ts_is : (last_served s log).ts ≡ attempt.ts

abbrev CommitIfAny : Setting → Log → Type 0
CommitIfAny s log = 0 < (last_served s log).commits → IsLastCommit s log

any_later : (s : Setting) (e : Entry) (log : Log) → (last_served s (e ∷ log)).ts ≡ (last_served s log).ts
    → (last_served s (e ∷ log)).commits ≡ (last_served s log).commits → CommitIfAny s log → CommitIfAny s (e ∷ log)
any_later s e log p q h = λ l. (record { later = e ∷ (h (subst (λ n. 0 < n) q l)).later; bases = (h (subst (λ n. 0 < n) q l)).bases; attempt = (h (subst (λ n. 0 < n) q l)).attempt; before = (h (subst (λ n. 0 < n) q l)).before; is = ap (λ l. e ∷ l) (h (subst (λ n. 0 < n) q l)).is; active_is = (h (subst (λ n. 0 < n) q l)).active_is; ts_is = p ∙ (h (subst (λ n. 0 < n) q l)).ts_is })

pub last_commit : (s : Setting) (log : Log) → Each (IsFairU s) log → CommitIfAny s log
last_commit s [] h = λ l. absurd (omega (arith, l))
last_commit s (Handed from m ∷ log) h = grind (arith, any_later, hand_ts, hand_commits, (last_commit s log h.1))
last_commit s (Did act ∷ log) h =
    let i = last_commit s log h.1 in
    u_way s log act (λ x. CommitIfAny s (Did x ∷ log)) (λ q e z r. any_later s (Did (start_at s 0 log q)) log refl refl i)
    (λ bases a e. λ l. record { later = []; bases = bases; attempt = a; before = log; is = refl; active_is = e; ts_is = ap ts_of e })
    (λ d m a e. any_later s (Did (Sends (D (dm_no d)) m None)) log refl refl i)
    (λ t ts l w. any_later s (Did (Sends (T (tm_no t)) (Release ts) None)) log refl refl i)
    (λ t e. any_later s (Did (Sends (T (tm_no t)) Hold None)) log refl refl i) (u_due s h.0.0.0 log act h.0.0.1)
last_commit s (x ∷ log) h = any_later s x log refl refl (last_commit s log h.1)
