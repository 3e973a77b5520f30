-- The messages of a link with their numbers: those up to a number, those after it, and those that are put later.
use Rattle.sdd_moments.proofs.All.{Ack, List, Message, Msg, None, Option, Packet, Purpose, Some, Way, [], ap, arith, behind, cond, cons_option, drop, drop-append-le, drop-append_seam, drop-drop, drop-take, false, filter, filter_map, filter_map-append, if◌then◌else◌, le-leb, length, lt-leb, nat_lt, numbered, option_map, purpose_of, purposed, purposed_above, refl, sent, sent_is, suc, sym, take, true, up_to, zero, ℕ, ◌++◌, ◌+◌, ◌-◌, ◌∙◌, ◌∷◌, ◌≡◌, ◌≤◌}
use Rattle.sdd_moments.proofs.Flights.{Grows, is_above, length_numbered, numbered_join, length_joined as length_of_both}

abbrev numbers_of : ℕ → List Msg → List (ℕ × Purpose)
numbers_of k ms = filter_map purposed (numbered k ms)

abbrev one_of : ℕ → Option Purpose → Option (ℕ × Purpose)
one_of n o = option_map (λ p. (n, p)) o

pub drop_numbered : (n k : ℕ) (ms : List Msg) → drop n (numbered k ms) ≡ numbered (k + n) (drop n ms)
drop_numbered zero k ms = let e : k ≡ k + 0 = omega arith in ap (λ j. numbered j ms) e
drop_numbered (suc n) k [] = refl
drop_numbered (suc n) k (m ∷ ms) = let e : k + 1 + n ≡ k + suc n = omega arith in drop_numbered n (k + 1) ms ∙ ap (λ j. numbered j (drop n ms)) e

-- messages whose numbers are all above b

none_up : (b k : ℕ) (ms : List Msg) → b ≤ k → up_to b (numbers_of k ms) ≡ []
none_up b k [] l = refl
none_up b k (m ∷ ms) l =
    elim (purpose_of m) as (λ o. up_to b (cons_option (one_of (k + 1) o) (numbers_of (k + 1) ms)) ≡ []) [
      | None ↦ none_up b (k + 1) ms (omega (arith, l))
      | Some p ↦ rw (lt-leb (k + 1) b (omega (arith, l))) refl
    ]

all_behind : (b k : ℕ) (ms : List Msg) → b ≤ k → behind b (numbers_of k ms) ≡ numbers_of k ms
all_behind b k [] l = refl
all_behind b k (m ∷ ms) l =
    elim (purpose_of m) as (λ o. behind b (cons_option (one_of (k + 1) o) (numbers_of (k + 1) ms)) ≡ cons_option (one_of (k + 1) o) (numbers_of (k + 1) ms)) [
      | None ↦ all_behind b (k + 1) ms (omega (arith, l))
      | Some p ↦ rw (lt-leb (k + 1) b (omega (arith, l))) refl
    ]

-- of messages that are numbered on from k those up to k + j, and the others

up_to_numbered : (k j b : ℕ) (ms : List Msg) → b ≡ k + j → up_to b (numbers_of k ms) ≡ filter_map purposed (take j (numbered k ms))
up_to_numbered k zero b ms e = none_up b k ms (omega (arith, e))
up_to_numbered k (suc j) b [] e = refl
up_to_numbered k (suc j) b (m ∷ ms) e =
    let rest = up_to_numbered (k + 1) j b ms (omega (arith, e)) in
    elim (purpose_of m) as (λ o. up_to b (cons_option (one_of (k + 1) o) (numbers_of (k + 1) ms))
    ≡ cons_option (one_of (k + 1) o) (filter_map purposed (take j (numbered (k + 1) ms)))) [
      | None ↦ rest
      | Some p ↦ rw (le-leb (k + 1) b (omega (arith, e))) (ap (λ xs. (k + 1, p) ∷ xs) rest)
    ]

behind_numbered : (k j b : ℕ) (ms : List Msg) → b ≡ k + j → behind b (numbers_of k ms) ≡ filter_map purposed (drop j (numbered k ms))
behind_numbered k zero b ms e = all_behind b k ms (omega (arith, e))
behind_numbered k (suc j) b [] e = refl
behind_numbered k (suc j) b (m ∷ ms) e =
    let rest = behind_numbered (k + 1) j b ms (omega (arith, e)) in
    elim (purpose_of m) as (λ o. behind b (cons_option (one_of (k + 1) o) (numbers_of (k + 1) ms)) ≡ filter_map purposed (drop j (numbered (k + 1) ms))) [
      | None ↦ rest
      | Some p ↦ rw (le-leb (k + 1) b (omega (arith, e))) rest
    ]

-- of those that are numbered on from 1 and of which h are dropped

pub up_to_is : (h b : ℕ) (ms : List Msg) → h ≤ b
    → up_to b (filter_map purposed (drop h (numbered 0 ms))) ≡ filter_map purposed (drop h (take b (numbered 0 ms)))
up_to_is h b ms l =
    let j : ℕ = b - h in
    let whole : b ≡ h + j = omega (arith, l) in
    let z : 0 + h ≡ h = omega arith in
    let from : drop h (numbered 0 ms) ≡ numbered h (drop h ms) = drop_numbered h 0 ms ∙ ap (λ k. numbered k (drop h ms)) z in
    ap (λ ps. up_to b (filter_map purposed ps)) from ∙ up_to_numbered h j b (drop h ms) whole
    ∙ ap (λ ps. filter_map purposed (take j ps)) (sym from)
    ∙ ap (filter_map purposed) (sym (drop-take h j (numbered 0 ms)) ∙ ap (λ n. drop h (take n (numbered 0 ms))) (sym whole))

pub behind_is : (h b : ℕ) (ms : List Msg) → h ≤ b → behind b (filter_map purposed (drop h (numbered 0 ms))) ≡ filter_map purposed (drop b (numbered 0 ms))
behind_is h b ms l =
    let j : ℕ = b - h in
    let whole : b ≡ h + j = omega (arith, l) in
    let z : 0 + h ≡ h = omega arith in
    let from : drop h (numbered 0 ms) ≡ numbered h (drop h ms) = drop_numbered h 0 ms ∙ ap (λ k. numbered k (drop h ms)) z in
    ap (λ ps. behind b (filter_map purposed ps)) from ∙ behind_numbered h j b (drop h ms) whole
    ∙ ap (λ ps. filter_map purposed (drop j ps)) (sym from)
    ∙ ap (filter_map purposed) (drop-drop j h (numbered 0 ms) ∙ ap (λ n. drop n (numbered 0 ms)) (sym whole))

-- what is put

above_is : (k : ℕ) (ps : List (Packet Msg)) → filter_map (purposed_above k) ps ≡ filter_map purposed (filter (is_above k) ps)
above_is k [] = refl
above_is k (Message n m ∷ ps) =
    elim (nat_lt k n) as (λ b. cons_option (if b then purposed (Message n m) else None) (filter_map (purposed_above k) ps)
    ≡ filter_map purposed (cond b (Message n m ∷ filter (is_above k) ps) (filter (is_above k) ps))) [
      | true ↦ ap (cons_option (purposed (Message n m))) (above_is k ps)
      | false ↦ above_is k ps
    ]
above_is k (Ack upto ∷ ps) = above_is k ps

pub joined : (old more : List Msg) → numbered 0 (old ++ more) ≡ numbered 0 old ++ numbered (length old) more
joined old more =
    let z : 0 + length old ≡ length old = omega arith in
    numbered_join 0 old more ∙ ap (λ k. numbered 0 old ++ numbered k more) z

-- what waits once these are put, of which h were handed over
pub noted : (h left : ℕ) (old new : Way Msg) → h ≤ length old.sent → Grows old new left
    → filter_map purposed (drop h (numbered 0 old.sent)) ++ filter_map (purposed_above (length old.sent)) (drop left new.flight)
    ≡ filter_map purposed (drop h (numbered 0 new.sent))
noted h left old new l g =
    let k : ℕ = length old.sent in
    let behind_left : drop left new.flight ≡ g.added =
    ap (λ n. drop n new.flight) (sym g.left_is) ∙ ap (drop (length g.kept)) g.flight_is ∙ drop-append_seam g.kept g.added in
    let within : h ≤ length (numbered 0 old.sent) = let c = length_numbered 0 old.sent in omega (arith, l, c) in
    ap (λ ps. filter_map purposed (drop h (numbered 0 old.sent)) ++ filter_map (purposed_above k) ps) behind_left
    ∙ ap (λ xs. filter_map purposed (drop h (numbered 0 old.sent)) ++ xs) (above_is k g.added ∙ ap (filter_map purposed) g.news)
    ∙ sym (filter_map-append purposed (drop h (numbered 0 old.sent)) (numbered k g.more))
    ∙ ap (filter_map purposed) (sym (drop-append-le h (numbered 0 old.sent) (numbered k g.more) within)
    ∙ ap (drop h) (sym (joined old.sent g.more) ∙ ap (numbered 0) (sym g.sent_is)))

-- and how many packets are in flight
pub flying : (left : ℕ) (old new : Way Msg) → Grows old new left → left + length (drop left new.flight) ≡ length new.flight
flying left old new g =
    let behind_left : drop left new.flight ≡ g.added =
    ap (λ n. drop n new.flight) (sym g.left_is) ∙ ap (drop (length g.kept)) g.flight_is ∙ drop-append_seam g.kept g.added in
    omega (arith, (ap length g.flight_is ∙ length_of_both g.kept g.added), ap length behind_left, g.left_is)

pub take_numbered : (n k : ℕ) (ms : List Msg) → take n (numbered k ms) ≡ numbered k (take n ms)
take_numbered (suc n) k (m ∷ ms) = ap (λ ps. Message (k + 1) m ∷ ps) (take_numbered n (k + 1) ms)
take_numbered _ k _ = refl
