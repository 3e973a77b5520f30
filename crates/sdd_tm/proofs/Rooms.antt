-- How many transactions of a module may start before the next message.
use Rattle.sdd_tm.proofs.All.{ClassState, IsLineOf, List, Log, Setting, Some, [], active, all_starts, arith, class_of, few_waiting, left_is_few, length, map, queue, refl, slice_get, slice_set, starts_left, submits, suc, zero, ℕ, ◌*◌, ◌+◌, ◌^◌, ◌∷◌, ◌≡◌, ◌≤◌}

-- one class changes

pub starts_set : (classes : List ClassState) (place : ℕ) (k new : ClassState) → slice_get classes place ≡ Some k
    → all_starts (slice_set classes place new) + starts_left k.line.active k.line.queue ≡ all_starts
    classes + starts_left new.line.active new.line.queue
starts_set [] place k new e = absurd cc
starts_set (x ∷ classes) zero k new e = grind arith
starts_set (x ∷ classes) (suc place) k new e = let rest = starts_set classes place k new e in omega arith

-- there are few

pub few_starts : (s : Setting) (log : Log) (classes : List ℕ) → ((place c : ℕ) → slice_get classes place ≡ Some c
    → IsLineOf s c log) → all_starts (map (class_of s log) classes) ≤ 2 ^ 32 * length classes
few_starts s log [] h = omega arith
few_starts s log (c ∷ classes) h =
    let few = few_waiting s.catalogue c (submits log) (queue s c log) (h 0 c refl).in_queue in
    let left = left_is_few (active s c log) (queue s c log) in
    let rest = few_starts s log classes (λ place d e. h (suc place) d e) in
    omega arith
