-- Loops that draw: one item more, and their ends.
use Rattle.sdd_make.proofs.All.{Event, List, RelNo, Txn, Value, [], account_row, ap, append-nil, append_assoc, arith, deliveries, delivery, draw, events_of, map, range_with_len, suc, sym, turn, turns, txns_of, ℕ, ◌++◌, ◌+◌, ◌-◌, ◌<◌, ◌∙◌, ◌∷◌, ◌≡◌, ◌≤◌}

-- one item more before a list
more : {X : Type 0} (old rest : List X) (x : X) → (old ++ x ∷ []) ++ rest ≡ old ++ x ∷ rest
more old rest x = append_assoc old (x ∷ []) rest

-- accounts

pub account_more : (first i id : ℕ) (row : RelNo × List Value) (old new whole : List (RelNo × List Value)) → i < 10
    → id ≡ first + i → row ≡ account_row id → new ≡ old ++ row ∷ []
    → old ++ map account_row (range_with_len (first + i) (10 - i)) ≡ whole
    → new ++ map account_row (range_with_len (first + (i + 1)) (10 - (i + 1))) ≡ whole
account_more first i id row old new whole l at is put before =
    let left : 10 - i ≡ suc (10 - (i + 1)) = omega arith in
    let rest : List (RelNo × List Value) = map account_row (range_with_len (first + i + 1) (10 - (i + 1))) in
    ap (λ n. new ++ map account_row (range_with_len n (10 - (i + 1)))) (omega arith)
    ∙ ap (λ z. z ++ rest) (put ∙ ap (λ r. old ++ r ∷ []) (is ∙ ap account_row at))
    ∙ more old rest (account_row (first + i))
    ∙ sym (ap (λ n. old ++ map account_row (range_with_len (first + i) n)) left)
    ∙ before

-- deliveries

pub delivery_more : (count i x y k : ℕ) (e : Event) (old new whole : List Event) (state : ℕ) → i < count
    → k ≡ (draw 18 x).0 → y ≡ (draw 18 x).1 → e ≡ delivery k → new ≡ old ++ e ∷ []
    → (old ++ (deliveries (count - i) x).0 ≡ whole) × ((deliveries (count - i) x).1 ≡ state)
    → (new ++ (deliveries (count - (i + 1)) y).0 ≡ whole) × ((deliveries (count - (i + 1)) y).1 ≡ state)
delivery_more count i x y k e old new whole state l drawn after is put before =
    let left : count - i ≡ suc (count - (i + 1)) = omega arith in
    let rest : ℕ → List Event × ℕ = λ s. deliveries (count - (i + 1)) s in
    let first : new ≡ old ++ delivery (draw 18 x).0 ∷ [] = put ∙ ap (λ d. old ++ d ∷ []) (is ∙ ap delivery drawn) in (grind (arith, draw, more, delivery, deliveries))

pub deliveries_end : (count i x : ℕ) (events whole : List Event) (state : ℕ) → count ≤ i
    → (events ++ (deliveries (count - i) x).0 ≡ whole) × ((deliveries (count - i) x).1 ≡ state)
    → (events ≡ whole) × (x ≡ state)
deliveries_end count i x events whole state past all = grind (arith, append-nil)

-- turns

pub turn_more : (n i x y : ℕ) (txns new_txns all_txns : List Txn) (events new_events all_events : List Event) → i < n
    → y ≡ (turn (i + 1) x).1 → new_txns ≡ txns ++ (turn (i + 1) x).0.txn ∷ [] → new_events ≡ events ++ (turn (i + 1) x).0.events
    → (txns ++ txns_of (turns (n - i) (i + 1) x).0 ≡ all_txns) × (events ++ events_of (turns (n - i) (i + 1) x).0 ≡ all_events)
    → (new_txns ++ txns_of (turns (n - (i + 1)) (i + 1 + 1) y).0 ≡ all_txns)
    × (new_events ++ events_of (turns (n - (i + 1)) (i + 1 + 1) y).0 ≡ all_events)
turn_more n i x y txns new_txns all_txns events new_events all_events l after put_txn put_events before =
    let left : n - i ≡ suc (n - (i + 1)) = omega arith in
    let s : ℕ = (turn (i + 1) x).1 in
    let rest_txns : ℕ → List Txn = λ z. txns_of (turns (n - (i + 1)) (i + 1 + 1) z).0 in
    let rest_events : ℕ → List Event = λ z. events_of (turns (n - (i + 1)) (i + 1 + 1) z).0 in (grind (arith, more, turn, txns_of, turns, append_assoc, events_of))

pub turns_end : (n i x : ℕ) (txns all_txns : List Txn) (events all_events : List Event) → n ≤ i
    → (txns ++ txns_of (turns (n - i) (i + 1) x).0 ≡ all_txns) × (events ++ events_of (turns (n - i) (i + 1) x).0 ≡ all_events)
    → (txns ≡ all_txns) × (events ≡ all_events)
turns_end n i x txns all_txns events all_events past all = grind (arith, append-nil)
