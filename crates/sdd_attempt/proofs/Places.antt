-- The standing of a transaction by its place in the queue.
use Rattle.sdd_attempt.proofs.All.{Absent, Attempt, Bool, Catalogue, IsLine, List, None, Option, Running, Some, Standing, [], active_of, ap, arith, attempt_of, cond, false, filter, if◌then◌else◌, later, nat_tests, not, option_map, position, position_from, position_from-zero, queued_at, refl, standing_at, standing_by, suc, sym, true, underway, ℕ, ◌==◌, ◌∙◌, ◌∷◌, ◌≡◌}
use Rattle.sdd_attempt.proofs.Queueing.{all_kept, itself}
use Rattle.sdd_rules.specs.declared.standing.Standing.TheVariants.{Queued}
use Rattle.sdd_rules.specs.attempt.Queues as queues

-- by a place, where there is one
abbrev pub at_place : ℕ → Option Attempt → Option ℕ → Standing
at_place c a None = Absent
at_place c a (Some place) = standing_at c a place

idle_at : (c : ℕ) (o : Option ℕ) → queued_at c o ≡ at_place c None o
idle_at c o = grind arith

pub not_first : (n : ℕ) → (suc n == 0) ≡ false
not_first n = grind (arith, nat_tests)

behind : (c : ℕ) (a : Attempt) (o : Option ℕ) → queued_at c o ≡ at_place c (Some a) (option_map suc o)
behind c a o = grind arith

by_first : (c : ℕ) (q : queues.Queued) (rest : List queues.Queued) (r : Running) (n : ℕ) (here mine : Bool) → mine ≡ true
    → filter (λ x. not (x.number == q.number)) rest ≡ rest
    → (if here then underway c r.ts r.exchange else queued_at c
    (position (λ x. x.number == n)
    (cond (not mine) (q ∷ filter (λ x. not (x.number == q.number)) rest) (filter (λ x. not (x.number == q.number)) rest))))
    ≡ at_place c (Some (attempt_of q r)) (cond here (Some 0) (position_from (λ x. x.number == n) 1 rest))
by_first c q rest r n here mine e same = grind (arith, behind, position_from-zero, later)

pub standing_by_place : (cat : Catalogue) (c : ℕ) (queue : List queues.Queued) (r : Option Running) (n : ℕ) → IsLine cat c queue r
    → standing_by c queue (active_of queue r) n ≡ at_place c (active_of queue r) (position (λ q. q.number == n) queue)
standing_by_place cat c [] None n line = refl
standing_by_place cat c [] (Some r) n line = absurd line.runs
standing_by_place cat c (q ∷ queue) None n line = idle_at c (position (λ x. x.number == n) (q ∷ queue))
standing_by_place cat c (q ∷ queue) (Some r) n line =
    by_first c q queue r n (q.number == n) (q.number == q.number) (itself q.number) (all_kept q.number queue line.distinct.0)
    ∙ ap (at_place c (Some (attempt_of q r))) (sym (position_from-zero (λ x. x.number == n) (q ∷ queue)))
