-- At U: the RELEASEs to a T carry the timestamps of the Starts, in order; and for each of those as many DONEs were handed as there are data modules.
use Rattle.sdd_invariants.proofs.All.{Act, Attempt, Bool, D, Did, Each, Entry, Handed, Hold, IsChain, IsFairU, IsServing, IsStepU, List, Log, Msg, None, Option, Queued, Records, Release, Sends, Served, Setting, Site, Some, Start, T, Ts, [], active, ap, append-nil, arith, counts, dm_no, drawn_so_far, filter_map-append, flip, head_of, if◌then◌else◌, inl, inr, last_of, last_served, length, length-append, modules_asked, next_stamp, numbers_to, one_if, puts_to, queue, refl, release_time, release_times, sends_of_act, served_handed, slice_get, start_at, start_read, started, starts, subst, suc, sym, take, take-append-le, tm_no, zero, ℕ, ◌++◌, ◌+◌, ◌<◌, ◌∙◌, ◌∷◌, ◌≡◌, ◌≤◌}
use Rattle.sdd_invariants.proofs.Serving.{chain, hand_counts, is_tried, no_puts, none_mapped, not_started, puts_else, sent_count, u_due, u_way}
use Rattle.sdd_invariants.proofs.Turns.{balance}
use Rattle.sdd_invariants.proofs.Active.{handed_way, sent_way}
use Rattle.sdd_invariants.proofs.Bools.{if_way, same_number, same_or_not}

last_push : (xs : List ℕ) (x : ℕ) → last_of (xs ++ x ∷ []) ≡ Some x
last_push (y ∷ z ∷ ys) x = last_push (z ∷ ys) x
last_push _ x = refl

last_split : (xs : List ℕ) (r x : ℕ) → length xs ≡ suc r → last_of xs ≡ Some x → xs ≡ take r xs ++ x ∷ []
last_split (y ∷ z ∷ ys) (suc r) x e f = ap (λ l. y ∷ l) (last_split (z ∷ ys) r x (omega (arith, e)) f)
last_split xs r x e f = grind arith

take_all : (xs : List ℕ) (r : ℕ) → length xs ≤ r → take r xs ≡ xs
take_all [] zero l = refl
take_all [] (suc r) l = refl
take_all (x ∷ xs) zero l = absurd (omega arith)
take_all (x ∷ xs) (suc r) l = ap (λ ys. x ∷ ys) (take_all xs r (omega arith))

left_of : (xs ys : List ℕ) (k x : ℕ) → slice_get (xs ++ ys) k ≡ Some x → k < length xs → slice_get xs k ≡ Some x
left_of [] ys k x e l = absurd (omega arith)
left_of (y ∷ xs) ys zero x e l = e
left_of (y ∷ xs) ys (suc k) x e l = left_of xs ys k x e (omega arith)

at_end : (xs : List ℕ) (r x y : ℕ) → length xs ≡ r → slice_get (xs ++ x ∷ []) r ≡ Some y → x ≡ y
at_end (z ∷ xs) (suc r) x y e f = at_end xs r x y (omega (arith, e)) f
at_end xs r x y e f = grind arith

abbrev LastIs : List ℕ → Option Attempt → Type 0
LastIs xs None = Unit {0}
LastIs xs (Some a) = last_of xs ≡ Some a.ts

last_is : (xs : List ℕ) (o : Option Attempt) → ((a : Attempt) → o ≡ Some a → last_of xs ≡ Some a.ts) → LastIs xs o
last_is xs o f = grind arith

is_last : (xs : List ℕ) (o : Option Attempt) → LastIs xs o → (a : Attempt) → o ≡ Some a → last_of xs ≡ Some a.ts
is_last xs o h a e = subst (LastIs xs) e h

-- a hand
pub served_by : (m : Msg) (v : Served) → (served_handed m v).ts ≡ v.ts
served_by m v = grind (arith, if_way)

serving_hand : (s : Setting) (t : ℕ) (from : Site) (m : Msg) (log : Log) → IsServing s t log → IsServing s t (Handed from m ∷ log)
serving_hand s t from m log h = grind (arith, hand_counts, served_by, is_last, handed_way, last_is, one_if)

serving_start : (s : Setting) (t : ℕ) (log : Log) (q : Queued) → head_of (queue s 0 log) ≡ Some q
    → (counts t log).releases ≤ starts log → (last_served s log).commits ≤ starts log → IsServing s t log → IsServing s t (Did (start_at s 0 log q) ∷ log)
serving_start s t log q e r c h =
    let ts : ℕ = next_stamp s log in
    let act : Act = start_at s 0 log q in
    let same : puts_to (T (tm_no t)) (Did act ∷ log) ≡ puts_to (T (tm_no t)) log = ap (λ xs. puts_to (T (tm_no t)) log ++ xs)
    (none_mapped (tm_no t) (start_read s 0 log q) (modules_asked s 0 q.text)) ∙ append-nil _ in
    let n = length-append (drawn_so_far log) (ts ∷ []) in
    record {
      counted = omega (arith, n, h.counted);
      active_last = grind (arith, is_last, drawn_so_far, active, LastIs, started, sends_of_act, last_push);
      served_last = λ p l. absurd (omega arith);
      dones_le = h.dones_le;
      released = ap release_times same ∙ h.released ∙ sym (take-append-le (counts t log).releases (drawn_so_far log) (ts ∷ []) (omega (arith, h.counted)));
      done = λ j x l p. h.done j x l (left_of (drawn_so_far log) (ts ∷ []) j x p (omega (arith, h.counted)));
    }

serving_release : (s : Setting) (t : ℕ) (ts : Ts) (log : Log) → (counts t log).releases < (last_served s log).commits
    → (ts.0 ≡ (last_served s log).ts) × ((last_served s log).dones ≡ s.catalogue.dms) → (last_served s log).commits ≤ starts log
    → starts log ≤ suc (counts t log).releases → IsServing s t log → IsServing s t (Did (Sends (T (tm_no t)) (Release ts) None) ∷ log)
serving_release s t ts log l v c u h =
    let e : Entry = Did (Sends (T (tm_no t)) (Release ts) None) in
    let r : ℕ = (counts t log).releases in
    let xs : List ℕ = drawn_so_far log in
    let none : drawn_so_far (e ∷ log) ≡ xs = append-nil _ in
    let k : (counts t (e ∷ log)).releases ≡ suc r = ap
    (λ x. (if x then record (counts t log) { releases = suc (counts t log).releases } else counts t log).releases) (sent_count t t log ∙ same_number t) in
    let n : length xs ≡ suc r = omega (arith, h.counted, ap (λ x. puts_to (T (tm_no t)) log ++ (if x then Release ts ∷ [] else [])) (same_number t)) in
    let last : last_of xs ≡ Some ts.0 = h.served_last (omega arith) (omega arith) ∙ ap (λ x. Some x) (sym v.0) in
    let whole : xs ≡ take r xs ++ ts.0 ∷ [] = last_split xs r ts.0 n last in
    grind (arith, counts, is_last, active, sent_way, last_is, filter_map-append, release_time, take_all, length-append, at_end)

hold_times : (t n : ℕ) (log : Log)
    → release_times (puts_to (T (tm_no t)) (Did (Sends (T (tm_no n)) Hold None) ∷ log)) ≡ release_times (puts_to (T (tm_no t)) log)
hold_times t n log = grind (arith, filter_map-append, release_time, append-nil)

hold_releases : (t n : ℕ) (log : Log) → (counts t (Did (Sends (T (tm_no n)) Hold None) ∷ log)).releases ≡ (counts t log).releases
hold_releases t n log = grind (arith, if_way, counts)

pub one_if_le : (b : Bool) → one_if b ≤ 1
one_if_le b = grind arith

pub ahead : (s : Setting) (t : ℕ) (log : Log) → IsChain s t log → starts log ≤ suc (counts t log).releases
ahead s t log c = grind (arith, balance, one_if_le)

serving_send : (s : Setting) (t : ℕ) (log : Log) (to : Site) (m : Msg) → (counts t (Did (Sends to m None) ∷ log)).releases ≡ (counts t log).releases
    → release_times (puts_to (T (tm_no t)) (Did (Sends to m None) ∷ log)) ≡ release_times (puts_to (T (tm_no t)) log)
    → IsServing s t log → IsServing s t (Did (Sends to m None) ∷ log)
serving_send s t log to m a b h = grind (arith, is_last, active, counts, append-nil, sent_way, LastIs, last_is)

pub serving : (s : Setting) (k t : ℕ) (log : Log) → slice_get (numbers_to s.catalogue.tms) k ≡ Some t → Each (IsFairU s) log → IsServing s t log
serving s k t [] i h = grind arith
serving s k t (Handed from m ∷ log) i h = serving_hand s t from m log (serving s k t log i h.1)
serving s k t (Did act ∷ log) i h =
    let j = serving s k t log i h.1 in
    let c = chain s k t log i h.1 in
    u_way s log act (λ x. IsServing s t (Did x ∷ log)) (λ q e z r. serving_start s t log q e (omega (arith, c.released, c.committed)) c.committed j)
    (λ bases a e. (grind (arith, append-nil, no_puts, last_of, counts)))
    (λ d m a e. serving_send s t log (D (dm_no d)) m refl (ap release_times (append-nil (puts_to (T (tm_no t)) log))) j)
    (λ n ts l v. elim (same_or_not t n) [
      | inl p ↦ subst (λ x. IsServing s t (Did (Sends (T (tm_no x)) (Release ts) None) ∷ log)) p
          (serving_release s t ts log (subst (λ x. (counts x log).releases < (last_served s log).commits) (sym p) l) v c.committed (ahead s t log c) j)
      | inr p ↦ serving_send s t log (T (tm_no n)) (Release ts)
          (ap (λ x. (if x then record (counts t log) { releases = suc (counts t log).releases } else counts t log).releases) (sent_count t n log ∙ flip t n p))
          (ap release_times (puts_else t n (Release ts) log p)) j
    ]) (λ n e. serving_send s t log (T (tm_no n)) Hold (hold_releases t n log) (hold_times t n log) j) (u_due s h.0.0.0 log act h.0.0.1)
serving s k t (y ∷ log) i h = grind (arith, is_last, counts, last_is, active, serving s k t log i h.1)

-- at a Start of class 0 each T sent and was sent as many as it takes
abbrev ReadyIf : Setting → Log → Act → Type 0
ReadyIf s log (Records k (Start txn attempt c ts p2 us) sends) =
    (starts log ≡ (last_served s log).commits) ×
    ((j t : ℕ) → slice_get (numbers_to s.catalogue.tms) j ≡ Some t → (counts t log).helds ≡ suc (last_served s log).commits)
ReadyIf s log act = Unit {0}

pub start_ready : (s : Setting) (log : Log) (q : Queued) → Each (IsFairU s) log → IsStepU s log (start_at s 0 log q)
    → (starts log ≡ (last_served s log).commits) × ((j t : ℕ) → slice_get (numbers_to s.catalogue.tms) j ≡ Some t → (counts t log).helds ≡ suc (last_served s log).commits)
start_ready s log q h i = grind (arith, u_way, ReadyIf, not_started, queue, is_tried)
