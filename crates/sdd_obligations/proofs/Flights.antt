-- What is put on a link and not handed over yet, and how an entry changes it; and what an entry adds to the turns.
use Rattle.sdd_obligations.proofs.All.{Act, Bool, D, Did, Does, Entry, Hand, Handed, Input, IsAllowed, IsPermitted, List, Log, Msg, None, Option, Silent, Site, Some, [], answers, ap, append_assoc, arith, asked_by, dm_no, drop, false, filter-append, flight, hand_was_put, handed_by, hands_from, hands_grow, if◌then◌else◌, in_order, is_answer, is_question, local_of, local_step, made, put_by, puts_grow, puts_to, questions, same_site, sends_of_act, slice_get, suc, sym, take-append-drop, to_site, true, turn_after_answers, turn_at, turn_with, with_made, zero, ℕ, ◌&&◌, ◌++◌, ◌∙◌, ◌∷◌, ◌≡◌}
use Rattle.sdd_invariants.specs.site_module.SiteLog as site

flight_splits : (g : Input) (a b : Site) (log : Log) → IsPermitted g log → puts_to b (local_of g a log) ≡ hands_from a (local_of g b log) ++ flight g a b log
flight_splits g a b log h = grind (arith, take-append-drop, in_order)

cancel : (xs ys zs : List Msg) → xs ++ ys ≡ xs ++ zs → ys ≡ zs
cancel [] ys zs e = e
cancel (x ∷ xs) ys zs e = let p : xs ++ ys ≡ xs ++ zs = cc in cancel xs ys zs p

-- what is handed over leaves the flight at its front, and what is put comes to its end
flight_step : (g : Input) (a b : Site) (e : Entry) (log : Log) → IsPermitted g (e ∷ log)
    → handed_by a (made g b log e) ++ flight g a b (e ∷ log) ≡ flight g a b log ++ put_by b (made g a log e)
flight_step g a b e log h =
    let hs : List Msg = hands_from a (local_of g b log) in
    let before = flight_splits g a b log h.1 in
    cancel hs (handed_by a (made g b log e) ++ flight g a b (e ∷ log)) (flight g a b log ++ put_by b (made g a log e))
    (sym (append_assoc hs (handed_by a (made g b log e)) (flight g a b (e ∷ log)))
    ∙ ap (λ l. l ++ flight g a b (e ∷ log)) (sym (hands_grow g a b e log)) ∙ sym (flight_splits g a b (e ∷ log) h)
    ∙ puts_grow g a b e log ∙ ap (λ l. l ++ put_by b (made g a log e)) before ∙ append_assoc hs (flight g a b log) (put_by b (made g a log e)))

pub questions_step : (g : Input) (ts c : ℕ) (a b : Site) (e : Entry) (log : Log) → IsPermitted g (e ∷ log)
    → questions ts c (handed_by a (made g b log e)) ++ questions ts c (flight g a b (e ∷ log)) ≡ questions
    ts c (flight g a b log) ++ questions ts c (put_by b (made g a log e))
questions_step g ts c a b e log h =
    sym (filter-append (is_question ts c) (handed_by a (made g b log e)) (flight g a b (e ∷ log)))
    ∙ ap (questions ts c) (flight_step g a b e log h) ∙ filter-append (is_question ts c) (flight g a b log) (put_by b (made g a log e))

pub answers_step : (g : Input) (ts c : ℕ) (a b : Site) (e : Entry) (log : Log) → IsPermitted g (e ∷ log)
    → answers ts c (handed_by a (made g b log e)) ++ answers ts c (flight g a b (e ∷ log)) ≡ answers ts c
    (flight g a b log) ++ answers ts c (put_by b (made g a log e))
answers_step g ts c a b e log h =
    sym (filter-append (is_answer ts c) (handed_by a (made g b log e)) (flight g a b (e ∷ log)))
    ∙ ap (answers ts c) (flight_step g a b e log h) ∙ filter-append (is_answer ts c) (flight g a b log) (put_by b (made g a log e))

-- a message that may be handed over next is the first in flight

drop_at : (ms : List Msg) (n : ℕ) (m : Msg) → slice_get ms n ≡ Some m → drop n ms ≡ m ∷ drop (suc n) ms
drop_at [] n m e = cc
drop_at (x ∷ ms) zero m e = let p : x ≡ m = cc in ap (λ y. y ∷ ms) p
drop_at (x ∷ ms) (suc n) m e = drop_at ms n m e

pub first_in_flight : (g : Input) (log : Log) (a b : Site) (n : ℕ) (m : Msg) → IsAllowed g log (Hand a b n m)
    → (rest : List Msg) × (flight g a b log ≡ m ∷ rest)
first_in_flight g log a b n m h = grind (arith, drop_at, hand_was_put)

-- the turns after an entry

pub turn_at_step : (g : Input) (ts c d : ℕ) (at : Site) (e : Entry) (log : Log)
    → turn_at ts c d (local_of g at (e ∷ log)) ≡ turn_after_answers
    (answers ts c (handed_by (D (dm_no d)) (made g at log e)))
    (asked_by (questions ts c (put_by (D (dm_no d)) (made g at log e))) (turn_at ts c d (local_of g at log)))
turn_at_step g ts c d at e log = ap (turn_at ts c d) (local_step g at e log) ∙ (grind arith)

with_made_turn : (ts c : ℕ) (at : Site) (o : Option site.Entry) (l : site.Log)
    → turn_with ts c at (with_made o l) ≡ turn_after_answers (answers ts c (put_by at o)) (asked_by (questions ts c (handed_by at o)) (turn_with ts c at l))
with_made_turn ts c at o l = grind arith

pub turn_with_step : (g : Input) (ts c : ℕ) (at b : Site) (e : Entry) (log : Log)
    → turn_with ts c at (local_of g b (e ∷ log)) ≡ turn_after_answers (answers ts c (put_by at (made g b log e)))
    (asked_by (questions ts c (handed_by at (made g b log e))) (turn_with ts c at (local_of g b log)))
turn_with_step g ts c at b e log = ap (turn_with ts c at) (local_step g b e log) ∙ with_made_turn ts c at (made g b log e) (local_of g b log)

pub silent_first : (g : Input) (ts c d : ℕ) (at : Site) → turn_at ts c d (local_of g at []) ≡ Silent
silent_first g ts c d at = grind arith

pub nothing_put : (g : Input) (at b : Site) → puts_to b (local_of g at []) ≡ []
nothing_put g at b = grind arith

-- entries that put nothing and hand nothing over

abbrev pub is_plain : Entry → Bool
is_plain (Hand from to n m) = false
is_plain (Does at act) = false
is_plain _ = true

abbrev IsQuietMade : Option site.Entry → Type 0
IsQuietMade o = (b : Site) → (put_by b o ≡ []) × (handed_by b o ≡ [])

pub quiet_made : (g : Input) (at : Site) (log : Log) (e : Entry) → is_plain e ≡ true → (b : Site)
    → (put_by b (made g at log e) ≡ []) × (handed_by b (made g at log e) ≡ [])
quiet_made g at log e p = grind (arith)

-- what an act puts, and what a hand hands over

pub put_did : (x : Bool) (b : Site) (act : Act) → put_by b (if x then Some (Did act) else None) ≡ (if x then to_site b (sends_of_act act) else [])
put_did x b act = grind arith

pub handed_did : (x : Bool) (b : Site) (act : Act) → handed_by b (if x then Some (Did act) else None) ≡ []
handed_did x b act = grind arith

pub put_hand : (x : Bool) (b from : Site) (m : Msg) → put_by b (if x then Some (Handed from m) else None) ≡ []
put_hand x b from m = grind arith

pub handed_hand : (x : Bool) (b from : Site) (m : Msg) → handed_by b (if x then Some (Handed from m) else None) ≡ (if x && same_site b from then m ∷ [] else [])
handed_hand x b from m = grind arith
