-- The made events are valid, and each transaction is submitted once.
use Rattle.sdd_make.proofs.All.{All, All-append, All-cons, All-nil, AreDistinct, D, Event, IsNoRedeclare, IsValidEvent, IsValidTxn, None, Submit, T, [], ap, arith, arrival, bank, deliveries, delivery, dm_no, draw, drawn_events, drawn_txn, events_of, filter_map, filter_map-append, get_or-range_with_len, length, length-append, length-range_with_len, nat_lt, next, range_with_len, refl, rows_put_by, shown, submitted_by, suc, sum_by, sum_by-cons, tm_no, turn, turns, txn_no, txns_of, zero, ℕ, ◌*◌, ◌++◌, ◌+◌, ◌^◌, ◌∙◌, ◌∷◌, ◌≡◌, ◌≤◌}
use Rattle.sdd_make.proofs.ValidTxns.{choose, txn_valid, puts_none}

-- deliveries

t_to_d : (n t d : ℕ) → 1 ≤ t → t ≤ 3 → 1 ≤ d → d ≤ 3 → IsValidEvent bank n (arrival (T (tm_no t)) (D (dm_no d)))
t_to_d n t d a b e f = (((a, b), (e, f), refl), (omega arith, omega arith))

d_to_t : (n t d : ℕ) → 1 ≤ t → t ≤ 3 → 1 ≤ d → d ≤ 3 → IsValidEvent bank n (arrival (D (dm_no d)) (T (tm_no t)))
d_to_t n t d a b e f = (((e, f), (a, b), refl), (omega arith, omega arith))

deliveries_valid : (n count x : ℕ) → All (IsValidEvent bank n) (deliveries count x).0
deliveries_valid n zero x = All-nil (IsValidEvent bank n)
deliveries_valid n (suc count) x = grind (arith, choose, nat_lt, t_to_d, d_to_t, (deliveries_valid n count (draw 18 x).1))

deliveries_count : (count x : ℕ) → length (deliveries count x).0 ≡ count
deliveries_count zero x = refl
deliveries_count (suc count) x = ap suc (deliveries_count count (draw 18 x).1)

abbrev SubmitsNone : Event → Type 0
SubmitsNone e = submitted_by e ≡ None

delivery_submits_none : (k : ℕ) → submitted_by (delivery k) ≡ None
delivery_submits_none k = grind (arith, choose, SubmitsNone, nat_lt)

deliveries_submit_none : (count x : ℕ) → filter_map submitted_by (deliveries count x).0 ≡ []
deliveries_submit_none zero x = refl
deliveries_submit_none (suc count) x = rw (delivery_submits_none (draw 18 x).0) (deliveries_submit_none count (draw 18 x).1)

-- none is a `redeclare`

deliveries_no_redeclare : (count x : ℕ) → All IsNoRedeclare (deliveries count x).0
deliveries_no_redeclare zero x = All-nil IsNoRedeclare
deliveries_no_redeclare (suc count) x = grind (arith, IsNoRedeclare, choose, nat_lt, (deliveries_no_redeclare count (draw 18 x).1))

-- turns

pub txns_valid : (count i x : ℕ) → i + count ≤ 2 ^ 32 → All (IsValidTxn bank) (txns_of (turns count i x).0)
txns_valid zero i x l = All-nil (IsValidTxn bank)
txns_valid (suc count) i x l =
    let y : ℕ = (turn i x).1 in
    All-cons (IsValidTxn bank) (drawn_txn i x).0 (txns_of (turns count (i + 1) y).0) (grind (arith, txn_valid)) (txns_valid count (i + 1) y (omega arith))

pub txns_count : (count i x : ℕ) → length (txns_of (turns count i x).0) ≡ count
txns_count zero i x = refl
txns_count (suc count) i x = ap suc (txns_count count (i + 1) (turn i x).1)

pub no_puts : (count i x : ℕ) → sum_by rows_put_by (txns_of (turns count i x).0) ≡ 0
no_puts zero i x = refl
no_puts (suc count) i x =
    let y : ℕ = (turn i x).1 in
    let rest = no_puts count (i + 1) y in
    let both = sum_by-cons rows_put_by (drawn_txn i x).0 (txns_of (turns count (i + 1) y).0) in
    omega (arith, (puts_none i (shown 4 (next x)) (shown 10 (next (next x))) (shown 10 (next (next (next x))))), rest, both)

events_drawn : (n i x : ℕ) → 1 ≤ i → i ≤ n → All (IsValidEvent bank n) (drawn_events i x).0
events_drawn n i x l u =
    let y : ℕ = next x in
    All-cons (IsValidEvent bank n) (Submit (txn_no i)) (deliveries (shown 4 y) y).0 (l, u) (deliveries_valid n (shown 4 y) y)

pub events_valid : (n count i x : ℕ) → 1 ≤ i → i + count ≤ n + 1 → All (IsValidEvent bank n) (events_of (turns count i x).0)
events_valid n zero i x l u = All-nil (IsValidEvent bank n)
events_valid n (suc count) i x l u =
    let y : ℕ = (drawn_txn i x).1 in
    All-append (IsValidEvent bank n) (drawn_events i y).0 (events_of (turns count (i + 1) (turn i x).1).0)
    (events_drawn n i y l (omega arith)) (events_valid n count (i + 1) (turn i x).1 (omega arith) (omega arith))

pub no_redeclare : (count i x : ℕ) → All IsNoRedeclare (events_of (turns count i x).0)
no_redeclare zero i x = All-nil IsNoRedeclare
no_redeclare (suc count) i x =
    let y : ℕ = (drawn_txn i x).1 in
    All-append IsNoRedeclare (drawn_events i y).0 (events_of (turns count (i + 1) (turn i x).1).0) (grind (arith, IsNoRedeclare, deliveries_no_redeclare))
    (no_redeclare count (i + 1) (turn i x).1)

few_drawn : (i x : ℕ) → length (drawn_events i x).0 ≤ 4
few_drawn i x = let e = deliveries_count (shown 4 (next x)) (next x) in omega (arith, e)

pub few_events : (count i x : ℕ) → length (events_of (turns count i x).0) ≤ 4 * count
few_events zero i x = omega arith
few_events (suc count) i x =
    let y : ℕ = (drawn_txn i x).1 in
    let z : ℕ = (turn i x).1 in
    let first = few_drawn i y in
    let rest = few_events count (i + 1) z in
    omega (arith, (length-append (drawn_events i y).0 (events_of (turns count (i + 1) z).0)), first, rest)

-- the numbers of the submitted transactions
pub submitted : (count i x : ℕ) → filter_map submitted_by (events_of (turns count i x).0) ≡ range_with_len i count
submitted zero i x = refl
submitted (suc count) i x =
    let y : ℕ = (drawn_txn i x).1 in
    let z : ℕ = (turn i x).1 in
    filter_map-append submitted_by (drawn_events i y).0 (events_of (turns count (i + 1) z).0)
    ∙ ap (λ ns. (i ∷ ns) ++ filter_map submitted_by (events_of (turns count (i + 1) z).0)) (deliveries_submit_none (shown 4 (next y)) (next y))
    ∙ ap (λ ns. i ∷ ns) (submitted count (i + 1) z)

pub numbers_differ : (a n : ℕ) → AreDistinct (range_with_len a n)
numbers_differ a n i k below within d same = grind (arith, length-range_with_len, get_or-range_with_len)
