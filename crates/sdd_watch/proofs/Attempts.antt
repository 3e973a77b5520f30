-- The attempt of a line, as it is reported.
use Rattle.sdd_watch.proofs.All.{Answer, Attempt, ClassNo, DmNo, IsOfHead, List, None, Option, Queued, Some, Ts, TxnNo, [], ap, awaited_by, awaited_in, class_no, dm_no, head_of, lacked_by, map, option_map, phase_by, refl, reported_active, reported_attempt, time_at, tries_of_first, txn_no, unwrap_or, ℕ, ◌∙◌, ◌∷◌, ◌≡◌}
use Rattle.sdd_inside.specs.declared.standing.Phase as reported

-- numbers, of which a reader says the value

txn_back : (o : Option TxnNo) (n : ℕ) → option_map (λ m. m.0) o ≡ Some n → unwrap_or o (txn_no 0) ≡ txn_no n
txn_back None n e = absurd cc
txn_back (Some m) n e = let same : m.0 ≡ n = cc in ap txn_no same

time_back : (o : Option Ts) (n : ℕ) → option_map (λ m. m.0) o ≡ Some n → unwrap_or o (time_at 0) ≡ time_at n
time_back None n e = absurd cc
time_back (Some m) n e = let same : m.0 ≡ n = cc in ap time_at same

dms_back : (dms : List DmNo) → dms ≡ map dm_no (map (λ d. d.0) dms)
dms_back [] = refl
dms_back (d ∷ dms) = ap (λ l. d ∷ l) (dms_back dms)

pub lacks_back : (dms : List DmNo) (ns : List ℕ) → map (λ d. d.0) dms ≡ ns → dms ≡ map dm_no ns
lacks_back dms ns e = dms_back dms ∙ ap (map dm_no) e

-- the attempt is that of the first transaction in the queue

some_attempt : (k : ℕ) (a : Attempt) (answer : Answer) → awaited_in a.exchange.phase ≡ Some answer
    → reported_active k (Some a) ≡ Some (reported_attempt k a (phase_by answer))
some_attempt k a answer e = ap (λ o. option_map (reported_attempt k a) (option_map phase_by o)) e

same_active : (k : ℕ) (a : Attempt) (phase : reported.Phase) (c : ClassNo) (txn : Option TxnNo) (tries : ℕ) (time : Option Ts) (lacks : List DmNo)
    → c.0 ≡ k → option_map (λ m. m.0) txn ≡ Some a.txn → tries ≡ a.attempt → option_map (λ t. t.0) time ≡ Some a.ts
    → lacks ≡ map dm_no a.exchange.lacks
    → reported_attempt k a phase
    ≡ record { class = c; txn = unwrap_or txn (txn_no 0); attempt = tries; time = unwrap_or time (time_at 0); phase = phase; lacks = lacks }
same_active k a phase c txn tries time lacks e f g h i =
    let own : c ≡ class_no k = ap class_no e in
    rw (own, txn_back txn a.txn f, g, time_back time a.ts h, i) refl

pub attempt_is : (k : ℕ) (queue : List Queued) (active : Option Attempt) (answer : Answer) (c : ClassNo) (txn : Option TxnNo) (tries : ℕ)
    (time : Option Ts) (lacks : List DmNo) → IsOfHead queue active → awaited_by active ≡ Some answer → c.0 ≡ k
    → option_map (λ m. m.0) txn ≡ option_map (λ q. q.number) (head_of queue) → tries ≡ tries_of_first queue
    → option_map (λ t. t.0) time ≡ option_map (λ a. a.ts) active → lacks ≡ map dm_no (lacked_by active)
    → reported_active k active
    ≡ Some
    (record { class = c; txn = unwrap_or txn (txn_no 0); attempt = tries; time = unwrap_or time (time_at 0); phase = phase_by answer; lacks = lacks })
attempt_is k queue None answer c txn tries time lacks o w e f g h i = absurd cc
attempt_is k [] (Some a) answer c txn tries time lacks o w e f g h i = absurd cc
attempt_is k (q ∷ queue) (Some a) answer c txn tries time lacks o w e f g h i =
    let first : q ≡ record { number = a.txn; text = a.text; tries = a.attempt } = cc in
    some_attempt k a answer w
    ∙ ap Some
    (same_active k a (phase_by answer) c txn tries time lacks e (f ∙ ap (λ (x : Queued). Some x.number) first) (g ∙ ap (λ (x : Queued). x.tries) first) h i)
