-- The queue of a class after each entry of the log: its transactions stay different ones that fit, and the active
-- attempt is of the first of them.
use Rattle.sdd_attempt.proofs.All.{Act, AllByRecursion, Attempt, Bool, Catalogue, Differ, FitsTxn, IsOfHead, IsQueue, IsWaiting, List, Msg, Option, Queued, Rec, Records, Site, Some, Txn, [], active_handed, active_sent, all_kept, ap, arith, cond, contains, eq-eqb, eqb-true, false, filter, head_of, is_for, is_some, length, list_all, map, nat_tests, not, or_right, queue_after, read_set, reads_at, refl, started, submitted, subst, suc, sym, tried, true, zero, ℕ, ◌++◌, ◌<◌, ◌==◌, ◌^◌, ◌∙◌, ◌∷◌, ◌≡◌, ◌≢◌, ◌≤◌}
use Rattle.sdd_rules.proofs.attempt.Work.{shorter}

-- a try changes no number and no text

tried_number : (n : ℕ) (q : Queued) → (tried n q).number ≡ q.number
tried_number n q = elim (q.number == n) as (λ b. (cond b (record q { tries = suc q.tries }) q).number ≡ q.number) [ true ↦ refl | false ↦ refl ]

tried_waiting : (cat : Catalogue) (c : ℕ) (given : List ℕ) (n : ℕ) (q : Queued) → IsWaiting cat c given q → IsWaiting cat c given (tried n q)
tried_waiting cat c given n q h = grind arith

all_tried : (cat : Catalogue) (c : ℕ) (given : List ℕ) (n : ℕ) (qs : List Queued) → AllByRecursion (IsWaiting cat c given) qs
    → AllByRecursion (IsWaiting cat c given) (map (tried n) qs)
all_tried cat c given n [] h = tt
all_tried cat c given n (q ∷ qs) h = (tried_waiting cat c given n q h.0, all_tried cat c given n qs h.1)

tried_apart : (n m k : ℕ) (qs : List Queued) → m ≡ k → AllByRecursion (λ r. r.number ≢ k) qs → AllByRecursion (λ r. r.number ≢ m) (map (tried n) qs)
tried_apart n m k [] same h = tt
tried_apart n m k (q ∷ qs) same h = (λ e. h.0 (sym (tried_number n q) ∙ e ∙ same), tried_apart n m k qs same h.1)

tried_differ : (n : ℕ) (qs : List Queued) → Differ qs → Differ (map (tried n) qs)
tried_differ n [] h = tt
tried_differ n (q ∷ qs) h = (tried_apart n (tried n q).number q.number qs (tried_number n q) h.0, tried_differ n qs h.1)

-- a filter leaves no number that wasn't there

kept_differ : (p : Queued → Bool) (qs : List Queued) → Differ qs → Differ (filter p qs)
kept_differ p [] h = tt
kept_differ p (q ∷ qs) h = grind (arith, cond, all_kept, kept_differ p qs h.1)

-- an act

if_queue : (cat : Catalogue) (c : ℕ) (given : List ℕ) (b : Bool) (old new : List Queued) → IsQueue cat c given old → IsQueue cat c given new
    → IsQueue cat c given (cond b new old)
if_queue cat c given b old new h k = grind arith

record_queue : (cat : Catalogue) (c k : ℕ) (given : List ℕ) (r : Rec) (sends : List (Site × Msg)) (qs : List Queued) → IsQueue cat c given qs
    → IsQueue cat c given (queue_after c (Records k r sends) qs)
record_queue cat c k given r sends qs h = grind (arith, if_queue, tried_differ, all_tried, kept_differ, all_kept)

pub queue_did : (cat : Catalogue) (c : ℕ) (given : List ℕ) (act : Act) (qs : List Queued) → IsQueue cat c given qs → IsQueue cat c given (queue_after c act qs)
queue_did cat c given act qs h = grind (arith, record_queue)

-- a submission

waits_still : (cat : Catalogue) (c n : ℕ) (given : List ℕ) (qs : List Queued) → AllByRecursion (IsWaiting cat c given) qs
    → AllByRecursion (IsWaiting cat c (n ∷ given)) qs
waits_still cat c n given [] h = tt
waits_still cat c n given (q ∷ qs) h = grind (arith, nat_tests, or_right, contains, (waits_still cat c n given qs h.1))

all_push : {A : Type 0} (P : A → Type 0) (xs : List A) (x : A) → AllByRecursion P xs → P x → AllByRecursion P (xs ++ x ∷ [])
all_push P [] x h k = (k, tt)
all_push P (y ∷ xs) x h k = (h.0, all_push P xs x h.1 k)

differ_push : (cat : Catalogue) (c : ℕ) (given : List ℕ) (qs : List Queued) (r : Queued) → AllByRecursion (IsWaiting cat c given) qs
    → contains given r.number ≡ false → Differ qs → Differ (qs ++ r ∷ [])
differ_push cat c given [] r all fresh h = (tt, tt)
differ_push cat c given (q ∷ qs) r all fresh h = grind (arith, all_push, differ_push cat c given qs r all.1 fresh h.1)

pub queue_submitted : (cat : Catalogue) (c : ℕ) (given : List ℕ) (here : Catalogue) (n : ℕ) (txn : Txn) (qs : List Queued) → contains given n ≡ false
    → n < 2 ^ 32 → FitsTxn cat txn → (is_for c here txn ≡ true → list_all (λ f. is_some (reads_at cat c f)) (read_set cat txn) ≡ true) → IsQueue cat c given qs
    → IsQueue cat c (n ∷ given) (submitted c here n txn qs)
queue_submitted cat c given here n txn qs fresh small fits covered h = grind (arith, waits_still, differ_push, all_push, eq-eqb)

-- the head

pub head_handed : (c : ℕ) (queue : List Queued) (from : Site) (m : Msg) (o : Option Attempt) → IsOfHead queue o → IsOfHead queue (active_handed c from m o)
head_handed c queue from m o h = grind arith

pub head_submitted : (c : ℕ) (here : Catalogue) (n : ℕ) (txn : Txn) (queue : List Queued) (o : Option Attempt) → IsOfHead queue o
    → IsOfHead (submitted c here n txn queue) o
head_submitted c here n txn queue o h = grind arith

pub head_sent : (c : ℕ) (queue : List Queued) (m : Msg) (o : Option Attempt) → IsOfHead queue o → IsOfHead queue (active_sent c m o)
head_sent c queue m o h = grind arith

-- a Start of the first one
pub head_started : (ts : ℕ) (sends : List (Site × Msg)) (q : Queued) (rest : List Queued)
    → IsOfHead (map (tried q.number) (q ∷ rest)) (started ts sends (Some q))
head_started ts sends q rest = rw (eq-eqb q.number q.number refl) refl

-- how many there are

-- without the one with this number
abbrev others : ℕ → List Queued → List Queued
others n qs = filter (λ q. not (q.number == n)) qs

-- a Commit of the first one leaves fewer
pub fewer_committed : (n : ℕ) (qs : List Queued) (q : Queued) → head_of qs ≡ Some q → q.number ≡ n → length (others n qs) < length qs
fewer_committed n qs q h e = grind (arith, eq-eqb, shorter)

all_apart : (n : ℕ) (qs : List Queued) → AllByRecursion (λ r. r.number ≢ n) qs → others n qs ≡ qs
all_apart n [] h = refl
all_apart n (q ∷ qs) h = grind (arith, all_apart n qs h.1)

-- of different numbers at most one is lost
one_lost : (n : ℕ) (qs : List Queued) → Differ qs → length qs ≤ suc (length (others n qs))
one_lost n [] h = omega arith
one_lost n (q ∷ qs) h =
    elim (q.number == n) as (λ b. (q.number == n) ≡ b → suc (length qs) ≤ suc (length (cond (not b) (q ∷ others n qs) (others n qs)))) [
      | true ↦ λ e.
          let all : others n qs ≡ qs = all_apart n qs (subst (λ k. AllByRecursion (λ (r : Queued). r.number ≢ k) qs) (eqb-true q.number n e) h.0) in
          omega (arith, ap length all)
      | false ↦ λ e. let rest = one_lost n qs h.1 in omega arith
    ] refl

below_others : (n : ℕ) (qs : List Queued) → AllByRecursion (λ q. q.number < suc n) qs → AllByRecursion (λ q. q.number < n) (others n qs)
below_others n [] h = tt
below_others n (q ∷ qs) h = grind (arith, below_others n qs h.1)

-- there are no more than there are numbers
pub few_numbers : (n : ℕ) (qs : List Queued) → Differ qs → AllByRecursion (λ q. q.number < n) qs → length qs ≤ n
few_numbers zero [] h low = omega arith
few_numbers zero (q ∷ qs) h low = let none : q.number < 0 = low.0 in absurd (omega arith)
few_numbers (suc n) qs h low = grind (arith, nat_tests, others, kept_differ, below_others, one_lost, (few_numbers n (others n qs) (kept_differ (λ q. not (q.number == n)) qs h) (below_others n qs low)))

smalls : (cat : Catalogue) (c : ℕ) (given : List ℕ) (qs : List Queued) → AllByRecursion (IsWaiting cat c given) qs → AllByRecursion (λ q. q.number < 2 ^ 32) qs
smalls cat c given [] h = tt
smalls cat c given (q ∷ qs) h = (h.0.small, smalls cat c given qs h.1)

pub few_waiting : (cat : Catalogue) (c : ℕ) (given : List ℕ) (qs : List Queued) → IsQueue cat c given qs → length qs ≤ 2 ^ 32
few_waiting cat c given qs h = few_numbers (2 ^ 32) qs h.differ (smalls cat c given qs h.waiting)
