-- The queue of a class is what was submitted to it and isn't committed, each with the number of its Starts; the active
-- attempt is that of its head.
use Rattle.sdd_invariants.proofs.All.{Act, AllKnown, Attempt, Bases, Bool, Did, Each, Entry, Handed, IsFair, IsNew, IsQueue, IsServed, IsStep, List, Log, None, Option, Queued, Setting, Some, Submits, Txn, [], active, arith, commit_act, contains, false, filter, filter_map, filter_map-append, head_of, inl, inr, is_committed, map, or_right, queue, queued, refl, start_at, starts_of, submits, submits_of, subst, sym, true, ℕ, ◌++◌, ◌<◌, ◌∷◌, ◌≡◌, ◌⊎◌}
use Rattle.sdd_invariants.proofs.Active.{handed_way, sent_way, step_way}
use Rattle.sdd_invariants.proofs.Bools.{if_way, neither_right, same_number, same_or_not}

-- lists
known_more : (log more : Log) (xs : List (ℕ × Txn))
    → ((n : ℕ) → contains (submits log) n ≡ true → contains (submits more) n ≡ true) → AllKnown log xs → AllKnown more xs
known_more log more [] f h = tt
known_more log more (x ∷ xs) f h = (f x.0 h.0, known_more log more xs f h.1)

known_push : (log : Log) (xs : List (ℕ × Txn)) (x : ℕ × Txn) → AllKnown log xs → contains (submits log) x.0 ≡ true → AllKnown log (xs ++ x ∷ [])
known_push log [] x h e = (e, tt)
known_push log (y ∷ xs) x h e = (h.0, known_push log xs x h.1 e)

map_each : (f g : ℕ × Txn → Option Queued) (h : Queued → Queued) (xs : List (ℕ × Txn))
    → ((x : ℕ × Txn) → (f x ≡ None) × (g x ≡ None) ⊎ ((q : Queued) × (f x ≡ Some q) × (g x ≡ Some (h q)))) → filter_map g xs ≡ map h (filter_map f xs)
map_each f g h [] k = refl
map_each f g h (x ∷ xs) k = grind (arith, map_each f g h xs k)

filter_each : (f g : ℕ × Txn → Option Queued) (t : Queued → Bool) (xs : List (ℕ × Txn))
    → ((x : ℕ × Txn) → (f x ≡ None) × (g x ≡ None) ⊎ ((q : Queued) × (f x ≡ Some q) × (((t q ≡ true) × (g x ≡ Some q)) ⊎ ((t q ≡ false) × (g x ≡ None)))))
    → filter_map g xs ≡ filter t (filter_map f xs)
filter_each f g t [] k = refl
filter_each f g t (x ∷ xs) k = grind (arith, filter_each f g t xs k)

head_known : (c : ℕ) (log : Log) (xs : List (ℕ × Txn)) (q : Queued) → AllKnown log xs
    → head_of (filter_map (queued c log) xs) ≡ Some q → contains (submits log) q.number ≡ true
head_known c log [] q h e = cc
head_known c log (x ∷ xs) q h e =
    elim (is_committed c x.0 log) as (λ b. is_committed c x.0 log ≡ b → contains (submits log) q.number ≡ true) [
      | true ↦ λ p. head_known c log xs q h.1 (rw p at e)
      | false ↦ grind (arith, starts_of)
    ] refl

-- a Start of the class
abbrev queued_as : ℕ → Txn → ℕ → Queued
queued_as n txn t = record { number = n; text = txn; tries = t }

pub served_head : (a : Attempt) (qs : List Queued) → IsServed (Some a) qs
    → (q : Queued) × (head_of qs ≡ Some q) × (q.number ≡ a.txn) × (q.text ≡ a.text) × (q.tries ≡ a.attempt) × (0 < a.attempt)
served_head a qs h = grind arith

queue_start : (s : Setting) (c : ℕ) (log : Log) (q : Queued) → head_of (queue s c log) ≡ Some q → IsQueue s c log → IsQueue s c (Did (start_at s c log q) ∷ log)
queue_start s c log q e h = grind (arith, same_number, head_known, map_each, is_committed, queued, queued_as, known_more, same_or_not, submits)

queue_submit : (s : Setting) (c : ℕ) (log : Log) (k : ℕ) (txn : Txn) → contains (submits log) k ≡ false → IsQueue s c log → IsQueue s c (Submits k txn ∷ log)
queue_submit s c log k txn new h = grind (arith, known_more, or_right, same_number, queued_as, filter_map, filter_map-append, if_way, known_push, neither_right)

queue_commit : (s : Setting) (c : ℕ) (bases : Bases) (log : Log) (a : Attempt) → active s c log ≡ Some a → IsQueue s c log
    → IsQueue s c (Did (commit_act s.catalogue bases c a) ∷ log)
queue_commit s c bases log a e h = grind (arith, same_number, served_head, head_known, filter_each, queued_as, known_more, same_or_not, submits)

-- an entry that leaves the queue as it is
queue_same : (s : Setting) (c : ℕ) (log : Log) (e : Entry) → queue s c (e ∷ log) ≡ queue s c log
    → submits_of s c (e ∷ log) ≡ submits_of s c log → ((n : ℕ) → starts_of c n (e ∷ log) ≡ starts_of c n log)
    → ((n : ℕ) → is_committed c n (e ∷ log) ≡ is_committed c n log)
    → ((n : ℕ) → contains (submits (e ∷ log)) n ≡ contains (submits log) n) → IsServed (active s c (e ∷ log)) (queue s c log)
    → IsQueue s c log → IsQueue s c (e ∷ log)
queue_same s c log e a b f g w i h = grind (arith, queued, known_more, active)

queue_act : (s : Setting) (c : ℕ) (log : Log) (act : Act) → IsStep s log act → IsQueue s c log → IsQueue s c (Did act ∷ log)
queue_act s c log act i h = step_way s log act (λ x. IsQueue s c (Did x ∷ log))
    (λ k q at f e. elim (same_or_not k c) [
      | inl p ↦ subst (λ j. IsQueue s c (Did (start_at s j log q) ∷ log)) (sym p) (queue_start s c log q (rw p at e) h)
      | inr p ↦ (queue_same s c log (Did (start_at s k log q)) (rw p refl) refl (λ n. rw p refl) (λ n. refl) (λ n. refl) (rw p h.served) h)
    ])
    (λ k bases a at f. elim (same_or_not k c) [
      | inl p ↦ subst (λ j. IsQueue s c (Did (commit_act s.catalogue bases j a) ∷ log)) (sym p) (queue_commit s c bases log a (rw p at f) h)
      | inr p ↦ (grind (arith, queue_same))
    ])
    (grind (arith, queue_same, sent_way, queue, active)) i

pub queue_is : (s : Setting) (c : ℕ) (log : Log) → Each (IsFair s) log → Each IsNew log → IsQueue s c log
queue_is s c [] h n = record { is = refl; known = tt; fresh = λ n p. (refl, refl); served = tt }
queue_is s c (Handed from m ∷ log) h n = grind (arith, queue_same, handed_way, active, queue_is s c log h.1 n.1)
queue_is s c (Submits k txn ∷ log) h n = queue_submit s c log k txn n.0 (queue_is s c log h.1 n.1)
queue_is s c (Did act ∷ log) h n = queue_act s c log act h.0 (queue_is s c log h.1 n.1)
queue_is s c (x ∷ log) h n = let i = queue_is s c log h.1 n.1 in queue_same s c log x refl refl (λ n. refl) (λ n. refl) (λ n. refl) i.served i
