-- The chain of holds at U.
use Rattle.sdd_invariants.proofs.All.{Act, AllZero, Attempt, Bases, Bool, D, Did, Each, Entry, Handed, Hold, IsChain, IsFairU, IsServed, IsStepU, IsTried, List, Log, Msg, None, Option, Queued, Release, Sends, Setting, Site, Some, StartedHead, Submits, T, TmCounts, TmNo, Ts, Txn, ZeroBut, [], active, ap, append-nil, arith, asks_rows, at_map, attempt_due, by_release, commit_act, cond, counts, counts_handed, counts_tm, current_era, dm_no, eqb-true, false, filter, first_send, flip, hand_commits, head_of, hold_due, hold_to, if◌then◌else◌, in_mapped, inl, inr, is_a_hold, is_a_release, is_for, is_holding, is_over, last_served, list_all, map, modules_asked, not, numbers_to, or_else, puts_to, queue, refl, release_due, sends_of_act, slice_get, start_at, start_read, starts, subst, suc, sym, tm_no, to_site, tried, true, turns, u_commit, u_exchange, u_hold, u_release, u_start, ℕ, ◌&&◌, ◌++◌, ◌<◌, ◌==◌, ◌∙◌, ◌∷◌, ◌≡◌, ◌≤◌, ◌⊎◌}
use Rattle.sdd_invariants.proofs.Holding.{lt_is}
use Rattle.sdd_invariants.proofs.Turns.{balance, tally_append, turns_append}
use Rattle.sdd_invariants.proofs.Queues.{served_head}
use Rattle.sdd_invariants.proofs.WritesPut.{goes_write}
use Rattle.sdd_invariants.proofs.Bools.{same_number, same_or_not}
use Rattle.sdd_invariants.proofs.Exchanges.{asks_next}
use Rattle.sdd_invariants.proofs.Lists.{all_at}
use Rattle.sdd_invariants.proofs.Sites.{none_to}
use Rattle.sdd_log.specs.All.{by_exchange, by_hold, by_start, start_of}
use Rattle.sdd_log.specs.umod.Due.{IsDue}
use Rattle.sdd_log.specs.umod.Views.{view_of}

pub step_is : (s : Setting) (log : Log) (x a : Act) → IsStepU s log x → Some x ≡ Some a → IsStepU s log a
step_is s log x a h e = let p : x ≡ a = cc in subst (IsStepU s log) p h

over_u : (s : Setting) (log : Log) (bases : Bases) (a : Attempt) (b : Bool) (act : Act) → active s 0 log ≡ Some a
    → (if b then Some (commit_act s.catalogue bases 0 a) else None) ≡ Some act → IsStepU s log act
over_u s log bases a true act i e = step_is s log (commit_act s.catalogue bases 0 a) act (u_commit bases a i refl) e
over_u s log bases a false act i e = cc

send_u : (s : Setting) (log : Log) (bases : Bases) (a : Attempt) (ms : List (ℕ × Msg)) (act : Act) → active s 0 log ≡ Some a → a.exchange.to_send ≡ ms
    → or_else (first_send ms) (if is_over a.exchange.phase then Some (commit_act s.catalogue bases 0 a) else None) ≡ Some act → IsStepU s log act
send_u s log bases a [] act i p e = over_u s log bases a (is_over a.exchange.phase) act i e
send_u s log bases a (m ∷ rest) act i p e =
    step_is s log (Sends (D (dm_no m.0)) m.1 None) act (u_exchange m.0 m.1 a (asks_next s 0 log a m i (ap head_of p)) refl) e

attempt_u : (s : Setting) (log : Log) (bases : Bases) (o : Option Attempt) (act : Act) → active s 0 log ≡ o
    → attempt_due s.catalogue bases 0 o ≡ Some act → IsStepU s log act
attempt_u s log bases None act i e = cc
attempt_u s log bases (Some a) act i e = send_u s log bases a a.exchange.to_send act i refl e

release_u : (s : Setting) (log : Log) (t : ℕ) (a b : Bool) (n : ℕ) (ts : Ts) (act : Act) → n ≡ t
    → (a ≡ true → (counts t log).releases < (last_served s log).commits)
    → (b ≡ true → (ts.0 ≡ (last_served s log).ts) × ((last_served s log).dones ≡ s.catalogue.dms))
    → (if a && b then Some (Sends (T (tm_no n)) (Release ts) None) else None) ≡ Some act → IsStepU s log act
release_u s log t true true n ts act p f g e =
    step_is s log (Sends (T (tm_no n)) (Release ts) None) act (u_release t ts (f refl) (g refl) (ap (λ x. Sends (T (tm_no x)) (Release ts) None) p)) e
release_u s log t _ _ n ts act p f g e = cc

hold_if : (s : Setting) (log : Log) (t n : ℕ) (b : Bool) (act : Act) → n ≡ t → (b ≡ true → (counts t log).releases ≡ (counts t log).holds)
    → (if b then Some (Sends (T (tm_no n)) Hold None) else None) ≡ Some act → IsStepU s log act
hold_if s log t n true act p f e = step_is s log (Sends (T (tm_no n)) Hold None) act (u_hold t (f refl) (ap (λ x. Sends (T (tm_no x)) Hold None) p)) e
hold_if s log t n false act p f e = cc

hold_u : (s : Setting) (log : Log) (t : ℕ) (k : TmCounts) (o : Option Queued) (act : Act) → k ≡ counts t log → k.tm ≡ t
    → hold_to k o ≡ Some act → IsStepU s log act
hold_u s log t k None act q p e = cc
hold_u s log t k (Some x) act q p e =
    hold_if s log t k.tm (k.releases == k.holds) act p
    (λ l. ap (λ (y : TmCounts). y.releases) (sym q) ∙ eqb-true k.releases k.holds l ∙ ap (λ (y : TmCounts). y.holds) q) e

ready_is : (a b c : ℕ) → ((a == c) && (b == c)) ≡ true → (a ≡ c) × (b ≡ c)
ready_is a b c e = grind (arith, eqb-true)

start_if : (s : Setting) (log : Log) (q : Queued) (z b : Bool) (act : Act) → head_of (queue s 0 log) ≡ Some q → (q.tries == 0) ≡ z
    → list_all (is_holding (view_of s log)) (view_of s log).counts ≡ b → (if z && b then Some (start_at s 0 log q) else None) ≡ Some act → IsStepU s log act
start_if s log q true true act p z r e = step_is s log (start_at s 0 log q) act (u_start q p (eqb-true q.tries 0 z)
    (λ k t i. ready_is (counts t log).holds (counts t log).helds (suc (last_served s log).commits)
    (all_at (is_holding (view_of s log)) (view_of s log).counts k (counts t log) r
    (at_map (λ t. counts t log) (numbers_to s.catalogue.tms) k t i))) refl) e
start_if s log q _ _ act p z r e = cc

start_u : (s : Setting) (log : Log) (o : Option Queued) (act : Act) → head_of (queue s 0 log) ≡ o
    → start_of s.catalogue (view_of s log) o ≡ Some act → IsStepU s log act
start_u s log None act p e = cc
start_u s log (Some q) act p e = start_if s log q (q.tries == 0) (list_all (is_holding (view_of s log)) (view_of s log).counts) act p refl refl e

pub u_due : (s : Setting) (bases : Bases) (log : Log) (act : Act) → IsDue s.catalogue bases (view_of s log) act → IsStepU s log act
u_due s bases log act (by_exchange e) = attempt_u s log bases (active s 0 log) act refl e
u_due s bases log act (by_release j k p e) =
    let r = in_mapped (λ t. counts t log) (numbers_to s.catalogue.tms) j k p in
    release_u s log r.0 _ _ (counts r.0 log).tm _ act (counts_tm r.0 log) (λ l. lt_is _ _ l) (λ l. (refl, eqb-true _ _ l))
    (subst (λ x. release_due s.catalogue (view_of s log) x ≡ Some act) (sym r.2) e)
u_due s bases log act (by_start e) = start_u s log (head_of (queue s 0 log)) act refl e
u_due s bases log act (by_hold j k p e) =
    let r = in_mapped (λ t. counts t log) (numbers_to s.catalogue.tms) j k p in
    hold_u s log r.0 (counts r.0 log) (head_of (queue s 0 log)) act refl (counts_tm r.0 log) (subst (λ x. hold_due (view_of s log) x ≡ Some act) (sym r.2) e)

-- what holds of each kind of step holds of an act that is one
pub u_way : (s : Setting) (log : Log) (act : Act) (P : Act → Type 0)
    → ((q : Queued) → head_of
    (queue s 0 log) ≡ Some q → q.tries ≡ 0 → ((k t : ℕ) → slice_get
    (numbers_to s.catalogue.tms) k ≡ Some t → ((counts t log).holds ≡ suc (last_served s log).commits) ×
    ((counts t log).helds ≡ suc (last_served s log).commits)) → P (start_at s 0 log q))
    → ((bases : Bases) (a : Attempt) → active s 0 log ≡ Some a → P (commit_act s.catalogue bases 0 a))
    → ((d : ℕ) (m : Msg) (a : Attempt) → asks_rows a.ts 0 m ≡ true → P (Sends (D (dm_no d)) m None))
    → ((t : ℕ) (ts : Ts) → (counts t log).releases < (last_served s log).commits → (ts.0 ≡ (last_served s log).ts) ×
    ((last_served s log).dones ≡ s.catalogue.dms) → P (Sends (T (tm_no t)) (Release ts) None))
    → ((t : ℕ) → (counts t log).releases ≡ (counts t log).holds → P (Sends (T (tm_no t)) Hold None)) → IsStepU s log act → P act
u_way s log act P a b c d e h = grind (arith, u_start, u_commit)

pub zero_push : (qs : List Queued) (q : Queued) → AllZero qs → q.tries ≡ 0 → AllZero (qs ++ q ∷ [])
zero_push [] q h e = (e, tt)
zero_push (x ∷ qs) q h e = (h.0, zero_push qs q h.1 e)

pub but_push : (n : ℕ) (qs : List Queued) (q : Queued) → ZeroBut n qs → q.tries ≡ 0 → ZeroBut n (qs ++ q ∷ [])
but_push n [] q h e = (inr e, tt)
but_push n (x ∷ qs) q h e = (h.0, but_push n qs q h.1 e)

but_tried : (n : ℕ) (qs : List Queued) → AllZero qs → ZeroBut n (map (tried n) qs)
but_tried n [] h = tt
but_tried n (q ∷ qs) h = grind (arith, cond, but_tried n qs h.1)

pub zero_left : (n : ℕ) (qs : List Queued) → ZeroBut n qs → AllZero (filter (λ q. not (q.number == n)) qs)
zero_left n [] h = tt
zero_left n (q ∷ qs) h = grind (arith, cond, zero_left n qs h.1)

pub not_started : (n : ℕ) (qs : List Queued) (q : Queued) → StartedHead n qs → head_of qs ≡ Some q → q.tries ≡ 0 → ⊥
not_started n qs q h e z = grind arith

pub zero_head : (qs : List Queued) (q : Queued) → AllZero qs → head_of qs ≡ Some q → q.tries ≡ 0
zero_head qs q h e = grind arith

tried_on : (s : Setting) (log : Log) (e : Entry) → starts (e ∷ log) ≡ starts log
    → (last_served s (e ∷ log)).commits ≡ (last_served s log).commits → queue s 0 (e ∷ log) ≡ queue s 0 log → IsTried s log → IsTried s (e ∷ log)
tried_on s log e a b c h = grind arith

tried_start : (s : Setting) (log : Log) (q : Queued) → head_of (queue s 0 log) ≡ Some q → q.tries ≡ 0 → IsTried s log
    → IsTried s (Did (start_at s 0 log q) ∷ log)
tried_start s log q e z h = elim h [
  | inl p ↦ inr (q.number, ap suc p.0, (grind (arith, same_number)), but_tried q.number (queue s 0 log) p.1)
  | inr p ↦ absurd (not_started p.0 (queue s 0 log) q p.2 e z)
]

tried_commit : (s : Setting) (log : Log) (bases : Bases) (a : Attempt) → active s 0 log ≡ Some a
    → IsServed (active s 0 log) (queue s 0 log) → IsTried s log → IsTried s (Did (commit_act s.catalogue bases 0 a) ∷ log)
tried_commit s log bases a e i h =
    let r = served_head a (queue s 0 log) (subst (λ o. IsServed o (queue s 0 log)) e i) in
    elim h [
      | inl p ↦ (let z : r.0.tries ≡ 0 = zero_head (queue s 0 log) r.0 p.1 r.1 in absurd (omega (arith, r.4, r.5)))
      | inr p ↦ (let n : p.0 ≡ a.txn = sym (grind arith) ∙ r.2 in
          inl (p.1, subst (λ k. AllZero (filter (λ q. not (q.number == k)) (queue s 0 log))) n (zero_left p.0 (queue s 0 log) p.3)))
    ]

tried_submit : (s : Setting) (log : Log) (k : ℕ) (txn : Txn) (b : Bool)
    → ((starts log ≡ (last_served s log).commits) × AllZero (queue s 0 log)) ⊎
    ((n : ℕ) × (starts log ≡ suc (last_served s log).commits) × StartedHead n (queue s 0 log) × ZeroBut n (queue s 0 log))
    → (qs : List Queued) → qs ≡ (if b then queue s 0 log ++ record { number = k; text = txn; tries = 0 } ∷ [] else queue s 0 log)
    → ((starts log ≡ (last_served s log).commits) × AllZero qs) ⊎ ((n : ℕ) × (starts log ≡ suc (last_served s log).commits) × StartedHead n qs × ZeroBut n qs)
tried_submit s log k txn b h qs e = grind (arith, zero_push, but_push)

pub is_tried : (s : Setting) (log : Log) → Each (IsFairU s) log → IsTried s log
is_tried s [] h = inl (refl, tt)
is_tried s (Handed from m ∷ log) h = tried_on s log (Handed from m) refl (hand_commits m (last_served s log)) refl (is_tried s log h.1)
is_tried s (Submits n txn ∷ log) h =
    tried_submit s log n txn (is_for 0 (current_era s log).catalogue txn) (is_tried s log h.1) (queue s 0 (Submits n txn ∷ log)) refl
is_tried s (Did act ∷ log) h =
    let i = is_tried s log h.1 in
    u_way s log act (λ x. IsTried s (Did x ∷ log)) (λ q e z r. tried_start s log q e z i) (λ bases a e. tried_commit s log bases a e h.0.1 i)
    (λ d m a e. tried_on s log (Did (Sends (D (dm_no d)) m None)) refl refl refl i)
    (λ t ts l v. tried_on s log (Did (Sends (T (tm_no t)) (Release ts) None)) refl refl refl i)
    (λ t e. tried_on s log (Did (Sends (T (tm_no t)) Hold None)) refl refl refl i) (u_due s h.0.0.0 log act h.0.0.1)
is_tried s (x ∷ log) h = tried_on s log x refl refl refl (is_tried s log h.1)

pub hand_counts : (from : Site) (m : Msg) (k : TmCounts)
    → ((counts_handed from m k).releases ≡ k.releases) × ((counts_handed from m k).holds ≡ k.holds) × (k.helds ≤ (counts_handed from m k).helds)
hand_counts from m k = grind (arith)

pub commits_le : (s : Setting) (log : Log) → IsTried s log → (last_served s log).commits ≤ starts log
commits_le s log h = elim h [ inl p ↦ omega (arith, p.0) | inr p ↦ omega (arith, p.1) ]

chain_on : (s : Setting) (t : ℕ) (log : Log) (e : Entry) → counts t (e ∷ log) ≡ counts t log
    → (last_served s log).commits ≤ (last_served s (e ∷ log)).commits → (last_served s (e ∷ log)).commits ≤ starts (e ∷ log)
    → starts (e ∷ log) ≡ starts log → puts_to (T (tm_no t)) (e ∷ log) ≡ puts_to (T (tm_no t)) log → IsChain s t log → IsChain s t (e ∷ log)
chain_on s t log e k c d n p h = grind arith

pub none_mapped : (t : TmNo) (f : ℕ → Msg) (dms : List ℕ) → to_site (T t) (map (λ d. (D (dm_no d), f d)) dms) ≡ []
none_mapped t f [] = refl
none_mapped t f (d ∷ dms) = none_mapped t f dms

chain_start : (s : Setting) (t : ℕ) (log : Log) (q : Queued) → head_of (queue s 0 log) ≡ Some q → q.tries ≡ 0
    → ((counts t log).holds ≡ suc (last_served s log).commits) × ((counts t log).helds ≡ suc (last_served s log).commits)
    → IsTried s log → IsChain s t log → IsChain s t (Did (start_at s 0 log q) ∷ log)
chain_start s t log q e z r i h =
    let n : starts log ≡ (last_served s log).commits = elim i [ inl p ↦ p.0 | inr p ↦ absurd (not_started p.0 (queue s 0 log) q p.2 e z) ] in
    grind (arith, ap (λ xs. puts_to (T (tm_no t)) log ++ xs) (none_mapped (tm_no t) (start_read s 0 log q) (modules_asked s 0 q.text)) ∙ append-nil _)

pub no_puts : (s : Setting) (t : TmNo) (bases : Bases) (a : Attempt) → to_site (T t) (sends_of_act (commit_act s.catalogue bases 0 a)) ≡ []
no_puts s t bases a = grind (arith, none_to, goes_write)

pub sent_count : (t n : ℕ) (log : Log) → (n == (counts t log).tm) ≡ (n == t)
sent_count t n log = ap (λ x. n == x) (counts_tm t log)

chain_release : (s : Setting) (t : ℕ) (ts : Ts) (log : Log) → (counts t log).releases < (last_served s log).commits
    → IsChain s t log → IsChain s t (Did (Sends (T (tm_no t)) (Release ts) None) ∷ log)
chain_release s t ts log l h =
    let e : Entry = Did (Sends (T (tm_no t)) (Release ts) None) in
    let b = balance false h.state (puts_to (T (tm_no t)) log) h.turns_are in
    let on : h.state ≡ true = (grind arith) in
    let k : counts t (e ∷ log) ≡ record (counts t log) { releases = suc (counts t log).releases } = ap
    (λ x. if x then record (counts t log) { releases = suc (counts t log).releases } else counts t log) (sent_count t t log ∙ same_number t) in
    let p : puts_to (T (tm_no t)) (e ∷ log) ≡ puts_to (T (tm_no t)) log ++ Release ts ∷ [] = ap
    (λ x. puts_to (T (tm_no t)) log ++ (if x then Release ts ∷ [] else [])) (same_number t) in
    let more_r = tally_append is_a_release (puts_to (T (tm_no t)) log) (Release ts ∷ []) in
    record {
      released = rw k l;
      committed = h.committed;
      started_held = rw k h.started_held;
      started_hold = rw k h.started_hold;
      state = false;
      turns_are = rw p (turns_append (Some false) (puts_to (T (tm_no t)) log) (Release ts ∷ []) ∙ ap (λ x. turns x (Release ts ∷ [])) (h.turns_are ∙ ap (λ x. Some x) on));
      holds_are = rw (k, p) (omega (arith, (tally_append is_a_hold (puts_to (T (tm_no t)) log) (Release ts ∷ [])), h.holds_are));
      releases_are = rw (k, p) (omega (arith, more_r, h.releases_are));
    }

chain_hold : (s : Setting) (t : ℕ) (log : Log) → (counts t log).releases ≡ (counts t log).holds → IsChain s t log
    → IsChain s t (Did (Sends (T (tm_no t)) Hold None) ∷ log)
chain_hold s t log l h =
    let e : Entry = Did (Sends (T (tm_no t)) Hold None) in
    let b = balance false h.state (puts_to (T (tm_no t)) log) h.turns_are in
    let off : h.state ≡ false = (grind arith) in
    let k : counts t (e ∷ log) ≡ record (counts t log) { holds = suc (counts t log).holds } = ap
    (λ x. if x then record (counts t log) { holds = suc (counts t log).holds } else counts t log) (sent_count t t log ∙ same_number t) in
    let p : puts_to (T (tm_no t)) (e ∷ log) ≡ puts_to (T (tm_no t)) log ++ Hold ∷ [] = ap (λ x. puts_to (T (tm_no t)) log ++ (if x then Hold ∷ [] else []))
    (same_number t) in
    let more_r = tally_append is_a_release (puts_to (T (tm_no t)) log) (Hold ∷ []) in
    record {
      released = rw k h.released;
      committed = h.committed;
      started_held = rw k h.started_held;
      started_hold = rw k (omega (arith, h.started_hold));
      state = true;
      turns_are = rw p (turns_append (Some false) (puts_to (T (tm_no t)) log) (Hold ∷ []) ∙ ap (λ x. turns x (Hold ∷ [])) (h.turns_are ∙ ap (λ x. Some x) off));
      holds_are = rw (k, p) (omega (arith, (tally_append is_a_hold (puts_to (T (tm_no t)) log) (Hold ∷ [])), h.holds_are));
      releases_are = rw (k, p) (omega (arith, more_r, h.releases_are));
    }

-- a send to another T
pub puts_else : (t n : ℕ) (m : Msg) (log : Log) → (t == n) ≡ false → puts_to (T (tm_no t)) (Did (Sends (T (tm_no n)) m None) ∷ log) ≡ puts_to (T (tm_no t)) log
puts_else t n m log e = ap (λ x. puts_to (T (tm_no t)) log ++ (if x then m ∷ [] else [])) e ∙ append-nil _

chain_hand : (s : Setting) (t : ℕ) (from : Site) (m : Msg) (log : Log) → IsChain s t log → IsChain s t (Handed from m ∷ log)
chain_hand s t from m log h = grind (arith, hand_counts, hand_commits)

pub chain : (s : Setting) (k t : ℕ) (log : Log) → slice_get (numbers_to s.catalogue.tms) k ≡ Some t → Each (IsFairU s) log → IsChain s t log
chain s k t [] e h = grind arith
chain s k t (Handed from m ∷ log) e h = chain_hand s t from m log (chain s k t log e h.1)
chain s k t (Did act ∷ log) e h =
    let i = chain s k t log e h.1 in
    let now = is_tried s log h.1 in
    let then_tried = is_tried s (Did act ∷ log) h in
    u_way s log act (λ x. IsTried s (Did x ∷ log) → IsChain s t (Did x ∷ log)) (λ q f z r. λ w. chain_start s t log q f z (r k t e) now i)
    (λ bases a f. λ w. chain_on s t log (Did (commit_act s.catalogue bases 0 a)) refl (omega arith)
    (commits_le s (Did (commit_act s.catalogue bases 0 a) ∷ log) w) refl
    (ap (λ xs. puts_to (T (tm_no t)) log ++ xs) (no_puts s (tm_no t) bases a) ∙ append-nil _) i)
    (λ d m a f. λ w. chain_on s t log (Did (Sends (D (dm_no d)) m None)) refl (omega arith) i.committed refl (append-nil _) i)
    (λ n ts l v. λ w. elim (same_or_not t n) [
      | inl p ↦ subst (λ x. IsChain s t (Did (Sends (T (tm_no x)) (Release ts) None) ∷ log)) p
          (chain_release s t ts log (subst (λ x. (counts x log).releases < (last_served s log).commits) (sym p) l) i)
      | inr p ↦ chain_on s t log (Did (Sends (T (tm_no n)) (Release ts) None))
          (ap (λ x. if x then record (counts t log) { releases = suc (counts t log).releases } else counts t log) (sent_count t n log ∙ flip t n p))
          (omega arith) i.committed refl (puts_else t n (Release ts) log p) i
    ])
    (grind (arith, same_or_not, tm_no, chain_hold, counts, chain_on, sent_count, flip, puts_else)) (u_due s h.0.0.0 log act h.0.0.1) then_tried
chain s k t (x ∷ log) e h = let i = chain s k t log e h.1 in chain_on s t log x refl (omega arith) i.committed refl refl i
