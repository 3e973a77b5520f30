-- Made input leaves nothing undone: it submits each of its transactions, takes no module down, and ends with a settle.
use Rattle.sdd_verified.proofs.All.{Event, IsSoundCatalogue, IsSummaryOn, List, MAX_TXNS, SettleAll, TellsAllDone, ap, append_assoc, arith, bank, cases_eq, deliveries, delivery, draw, drawn_events, drawn_txn, eq-eqb, events_of, false, inl, inr, length, list_any, one_if, refl, shown, submits_in, subst, suc, sym, takes_down, turn, turns, turns_of, txns_count, txns_of, whole_sound, workload_of, workload_valid, zero, ℕ, ◌++◌, ◌+◌, ◌<◌, ◌==◌, ◌≡◌, ◌≤◌}
use Rattle.sdd_run.specs.progress.obligations.catalog.Rules.{faults_of}
use Rattle.sdd_verified.proofs.AllSummed.{all_summed}
use Rattle.sdd_verified.proofs.Submitting.{submits_append as submits_both}
use Rattle.sdd_run.specs.make.Draws.{next}

-- each transaction is submitted in its turn
submits_own : (n k rest : ℕ) → k ≡ n → 1 ≤ one_if (k == n) + rest
submits_own n k rest e = let q : one_if (k == n) ≡ 1 = ap one_if (eq-eqb k n e) in omega (arith, q)

submits_turn : (n count i x : ℕ) → i ≤ n → n < i + count → 1 ≤ submits_in n (events_of (turns count i x).0)
submits_turn n zero i x lo hi = absurd (omega (arith, lo, hi))
submits_turn n (suc count) i x lo hi =
    let y : ℕ = (drawn_txn i x).1 in
    let z : ℕ = (turn i x).1 in
    let both = submits_both n (drawn_events i y).0 (events_of (turns count (i + 1) z).0) in
    elim (cases_eq i n) [
      | inl e ↦
          (let own : 1 ≤ submits_in n (drawn_events i y).0 = submits_own n i (submits_in n (deliveries (shown 4 (next y)) (next y)).0) e in
          omega (arith, both, own))
      | inr other ↦ (let later = submits_turn n count (i + 1) z (omega (arith, lo, other)) (omega (arith, hi)) in omega (arith, both, later))
    ]

-- no module is taken down

delivery_up : (k : ℕ) → takes_down (delivery k) ≡ false
delivery_up k = grind arith

deliveries_up : (count x : ℕ) (rest : List Event) → list_any takes_down rest ≡ false → list_any takes_down ((deliveries count x).0 ++ rest) ≡ false
deliveries_up zero x rest h = h
deliveries_up (suc count) x rest h = rw (delivery_up (draw 18 x).0) (deliveries_up count (draw 18 x).1 rest h)

turns_up : (count i x : ℕ) (rest : List Event) → list_any takes_down rest ≡ false → list_any takes_down (events_of (turns count i x).0 ++ rest) ≡ false
turns_up zero i x rest h = h
turns_up (suc count) i x rest h =
    let y : ℕ = (drawn_txn i x).1 in
    let z : ℕ = (turn i x).1 in
    let more = turns_up count (i + 1) z rest h in
    grind (arith, append_assoc, deliveries_up)

made_settles : (seed n : ℕ) → SettleAll n (workload_of seed n).events
made_settles seed n = grind (arith, submits_turn, submits_both, turns_up)

bank_is_sound : IsSoundCatalogue bank
unfolding faults_of
bank_is_sound = record { valid = refl; same = refl }

pub made_summed : (seed n : ℕ) (text : List ℕ) → n ≤ MAX_TXNS → IsSummaryOn bank (workload_of seed n) text → TellsAllDone n text
made_summed seed n text few summed =
    let count : length (txns_of (turns_of seed n)) ≡ n = txns_count n 1 seed in
    subst (λ m. TellsAllDone m text) count
    (all_summed bank (workload_of seed n) text (whole_sound bank (workload_of seed n) bank_is_sound (workload_valid seed n few)) (workload_valid seed n few)
    (subst (λ m. SettleAll m (workload_of seed n).events) (sym count) (made_settles seed n)) summed)
