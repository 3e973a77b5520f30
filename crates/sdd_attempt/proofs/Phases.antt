-- What an answer makes of an exchange: what is to be sent asks for rows of the attempt, and it is over only once all rows
-- are shipped.
use Rattle.sdd_attempt.proofs.All.{AllByRecursion, Asking, Exchange, Fetch, List, Move, Msg, None, Phase, Reduce, Row, Ship, Some, Step, Value, [], after_hand, and_parts, arith, asks_rows, awaits_ready, class_no, contains, counts_for, eqb-true, false, fetches, fetches_from, fetches_use, goes_on, is_over, is_reading, is_shipping, map, move_at, ne_eqb, next_move, on_answer, phase_ends, reduces, reduces_use, refl, ships, time_at, to_all, true, with_use, without, ℕ, ◌++◌, ◌+◌, ◌∷◌, ◌≡◌, ◌≢◌}
use Rattle.sdd_rules.proofs.attempt.Modules.{on_answer_modules}
use Rattle.sdd_rules.proofs.attempt.Numbers.{own}

-- a property of what comes of an exchange, by the ways in which it goes on

fetches_keep : (P : Exchange → Type 0) (ts c : ℕ) (m : Move) (x : Exchange) → ((y : Exchange) → y.modules ≡ x.modules → P (reduces ts c m y))
    → ((d : ℕ) (dms : List ℕ) → P (fetches_from ts c m x (d ∷ dms))) → (dms : List ℕ) → P (fetches_from ts c m x dms)
fetches_keep P ts c m x reduced asked [] = reduced (record x { union = [] }) refl
fetches_keep P ts c m x reduced asked (d ∷ dms) = asked d dms

goes_keep : (P : Exchange → Type 0) (ts c : ℕ) (x : Exchange) → ((m : Move) (y : Exchange) → y.modules ≡ x.modules → P (reduces ts c m y))
    → ((m : Move) (y : Exchange) (d : ℕ) (dms : List ℕ) → y.modules ≡ x.modules → P (fetches_from ts c m y (d ∷ dms))) → P (ships ts c x)
    → (qs : List Asking) (done : List Step) → P (goes_on ts c x qs done)
goes_keep P ts c x reduced asked shipped [] done = shipped
goes_keep P ts c x reduced asked shipped (q ∷ rest) done =
    elim (next_move q.conds (counts_for x.counts q) done) as (λ o. P (elim o [
      | None ↦ goes_on ts c x rest []
      | Some m ↦ fetches ts c (move_at q.before m) (record x { left = q ∷ rest; done = done ++ m.step ∷ [] })
    ])) [
      | None ↦ goes_keep P ts c x reduced asked shipped rest []
      | Some m ↦
          let y : Exchange = record x { left = q ∷ rest; done = done ++ m.step ∷ [] } in
          let move : Move = move_at q.before m in
          fetches_keep P ts c move y (λ z e. reduced move z e) (λ d dms. asked move y d dms refl) (with_use y move.source.part)
    ]

-- an exchange with other counts, values or rows

abbrev pub with_counts : Exchange → List ((ℕ × ℕ) × ℕ) → Exchange
with_counts x counts = record x { counts = counts }

abbrev pub with_union : Exchange → List Value → ℕ → Exchange
with_union x union n = record x { union = union; values = n }

abbrev pub with_rows : Exchange → List (ℕ × Row) → ℕ → Exchange
with_rows x found n = record x { found = found; rows = n }

pub modules_stay : (ts c d : ℕ) (m : Msg) (x : Exchange) → (after_hand ts c d m x).modules ≡ x.modules
modules_stay ts c d m x = grind (arith, on_answer_modules)

-- what is to be sent

-- all of these messages ask for rows of the attempt of class c with this timestamp
abbrev pub AllAsk : ℕ → ℕ → List (ℕ × Msg) → Type 0
AllAsk ts c ms = AllByRecursion (λ m. asks_rows ts c m.1 ≡ true) ms

all_ask : (ts c : ℕ) (m : Msg) (dms : List ℕ) → asks_rows ts c m ≡ true → AllAsk ts c (to_all m dms)
all_ask ts c m [] e = tt
all_ask ts c m (d ∷ dms) e = (e, all_ask ts c m dms e)

reduces_ask : (ts c : ℕ) (m : Move) (x : Exchange) → AllAsk ts c (reduces ts c m x).to_send
reduces_ask ts c m x = all_ask ts c (Reduce (time_at ts) (class_no c) m.target.part m.target.column x.union) (with_use x m.target.part) (own ts c)

fetches_ask : (ts c : ℕ) (m : Move) (x : Exchange) (d : ℕ) (dms : List ℕ) → AllAsk ts c (fetches_from ts c m x (d ∷ dms)).to_send
fetches_ask ts c m x d dms = all_ask ts c (Fetch (time_at ts) (class_no c) m.source.part m.source.column) (d ∷ dms) (own ts c)

ships_ask : (ts c : ℕ) (x : Exchange) → AllAsk ts c (ships ts c x).to_send
ships_ask ts c x = all_ask ts c (Ship (time_at ts) (class_no c)) (map (λ m. m.0) x.modules) (own ts c)

goes_ask : (ts c : ℕ) (x : Exchange) (qs : List Asking) (done : List Step) → AllAsk ts c (goes_on ts c x qs done).to_send
goes_ask ts c x qs done =
    goes_keep (λ y. AllAsk ts c y.to_send) ts c x (λ m y e. reduces_ask ts c m y) (λ m y d dms e. fetches_ask ts c m y d dms) (ships_ask ts c x) qs done

ends_ask : (ts c : ℕ) (x : Exchange) → AllAsk ts c x.to_send → (p : Phase) → AllAsk ts c (phase_ends ts c x p).to_send
ends_ask ts c x h p = grind (arith, reduces_ask, goes_ask)

on_answer_ask : (ts c : ℕ) (x : Exchange) → AllAsk ts c x.to_send → (dms : List ℕ) → AllAsk ts c (on_answer ts c x dms).to_send
on_answer_ask ts c x h dms = grind (arith, ends_ask)

pub asks_stay : (ts c d : ℕ) (m : Msg) (x : Exchange) → AllAsk ts c x.to_send → AllAsk ts c (after_hand ts c d m x).to_send
asks_stay ts c d m x h = grind (arith, on_answer_ask)

-- phases

goes_not_over : (ts c : ℕ) (x : Exchange) (qs : List Asking) (done : List Step) → is_over (goes_on ts c x qs done).phase ≡ false
goes_not_over ts c x [] done = refl
goes_not_over ts c x (q ∷ rest) done = grind (arith, goes_not_over ts c x rest [])

-- the answers of phases before the last don't make an exchange over

pub ready_not_over : (ts c : ℕ) (x : Exchange) (dms : List ℕ) → is_reading x.phase ≡ true → is_over (on_answer ts c x dms).phase ≡ false
ready_not_over ts c x dms e = grind (arith, goes_not_over)

pub values_not_over : (ts c u : ℕ) (x : Exchange) (dms : List ℕ) → fetches_use u x.phase ≡ true → is_over (on_answer ts c x dms).phase ≡ false
values_not_over ts c u x dms e = grind (arith, goes_not_over)

pub reduced_not_over : (ts c u : ℕ) (x : Exchange) (dms : List ℕ) → reduces_use u x.phase ≡ true → is_over (on_answer ts c x dms).phase ≡ false
reduced_not_over ts c u x dms e = grind (arith, goes_not_over)

-- such an answer comes where no READY is awaited

pub fetching_not_reading : (u : ℕ) (p : Phase) → fetches_use u p ≡ true → is_reading p ≡ false
fetching_not_reading u p e = grind arith

pub reducing_not_reading : (u : ℕ) (p : Phase) → reduces_use u p ≡ true → is_reading p ≡ false
reducing_not_reading u p e = grind arith

pub shipping_not_reading : (p : Phase) → is_shipping p ≡ true → is_reading p ≡ false
shipping_not_reading p e = grind arith

-- after the READY of module d that of another module is awaited as before

still_there : (dms : List ℕ) (d e : ℕ) → e ≢ d → contains dms e ≡ true → contains (without dms d) e ≡ true
still_there [] d e apart h = h
still_there (x ∷ dms) d e apart h = grind (arith, contains, without, ne_eqb, eqb-true, (still_there dms d e apart))

on_answer_awaits : (ts c : ℕ) (x : Exchange) (dms : List ℕ) (e : ℕ) → is_reading x.phase ≡ true → contains dms e ≡ true
    → awaits_ready (on_answer ts c x dms) e ≡ true
on_answer_awaits ts c x dms e r h = grind arith

pub others_awaited : (ts c d e : ℕ) (x y : Exchange) → y.phase ≡ x.phase → e ≢ d → awaits_ready x e ≡ true
    → awaits_ready (on_answer ts c y (without x.lacks d)) e ≡ true
others_awaited ts c d e x y same apart h = grind (arith, and_parts, on_answer_awaits, still_there)
