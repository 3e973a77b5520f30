-- The made workload is one that the bank allows.
use Rattle.sdd_make.proofs.All.{All, All-append, All-cons, All-nil, AreDistinct, AreTimely, AreValidLists, IsNoRedeclare, IsValid, IsValidClass, IsValidEvent, MAX_TXNS, Settle, [], append-nil, arith, bank, events_of, filter_map, filter_map-append, length-append, refl, subst, sym, timely_without, turns_of, workload_of, ℕ, ◌++◌, ◌∷◌, ◌≤◌}
use Rattle.sdd_make.proofs.ValidTxns.{accounts_valid}
use Rattle.sdd_make.proofs.ValidEvents.{txns_valid, txns_count, no_puts, events_valid, no_redeclare, few_events, submitted, numbers_differ}
use Rattle.sdd_make.proofs.ValidNames.{no_name_repeats}

-- each event names one of n transactions
events_of_n : (seed n : ℕ) → All (IsValidEvent bank n) (events_of (turns_of seed n) ++ Settle ∷ [])
events_of_n seed n =
    All-append (IsValidEvent bank n) (events_of (turns_of seed n)) (Settle ∷ [])
    (events_valid n n 1 seed (omega arith) (omega arith)) (All-cons (IsValidEvent bank n) Settle [] tt (All-nil (IsValidEvent bank n)))

-- there are no lists, and no `redeclare`

no_lists : AreValidLists bank []
no_lists = record { classes = All-nil (IsValidClass bank); names = refl; few_classes = omega arith; few_lists = omega arith }

timely : (seed n : ℕ) → AreTimely bank 0 (events_of (turns_of seed n) ++ Settle ∷ [])
timely seed n = timely_without bank 0 (events_of (turns_of seed n) ++ Settle ∷ [])
    (All-append IsNoRedeclare (events_of (turns_of seed n)) (Settle ∷ []) (no_redeclare n 1 seed) (All-cons IsNoRedeclare Settle [] refl (All-nil IsNoRedeclare)))

pub workload_valid : (seed n : ℕ) → n ≤ MAX_TXNS → IsValid bank (workload_of seed n)
workload_valid seed n few =
    let small : n ≤ 2048 = few in
    let count = txns_count n 1 seed in
    let events = few_events n 1 seed in
    let settled = length-append (events_of (turns_of seed n)) (Settle ∷ []) in
    record {
      rows = accounts_valid;
      txns = txns_valid n 1 seed (omega arith);
      names = no_name_repeats n 1 seed (omega arith);
      lists = no_lists;
      events = subst (λ k. All (IsValidEvent bank k) (events_of (turns_of seed n) ++ Settle ∷ [])) (sym count) (events_of_n seed n);
      submitted = subst AreDistinct (sym (grind (arith, filter_map-append, append-nil, filter_map, submitted))) (numbers_differ 1 n);
      timely = timely seed n;
      few_rows = omega (arith, (no_puts n 1 seed));
      few_txns = omega (arith, count, small);
      few_events = omega (arith, events, settled, small);
    }
