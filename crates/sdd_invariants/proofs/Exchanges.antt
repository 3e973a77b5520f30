-- What every step of an exchange keeps: its modules stay; once the READs are answered they are no more awaited; while
-- they are awaited nothing is sent; and what it still has to send are its own FETCHes, REDUCEs and SHIPs.
use Rattle.sdd_invariants.proofs.All.{Asking, Attempt, Bool, Exchange, List, Log, Move, Msg, None, Option, Queued, Ready, Rec, Records, Reduced, Rows, Setting, Site, Some, Step, Values, [], active, active_after, after_hand, after_send, answered, ap, arith, asks_rows, counted, counts, false, fetches_from, goes_on, head_of, if◌then◌else◌, is_reading, length, map, own, queue, reduces, refl, ships, started, subst, tail_of, to_all, true, with_use, with_values, ℕ, ◌++◌, ◌+◌, ◌∷◌, ◌≡◌}
use Rattle.sdd_invariants.proofs.Bools.{if_way, not_both}

abbrev pub IsQuiet : Exchange → Type 0
IsQuiet x = is_reading x.phase ≡ true → x.to_send ≡ []

abbrev pub AllAsk : ℕ → ℕ → List (ℕ × Msg) → Type 0
AllAsk ts c [] = Unit {0}
AllAsk ts c (p ∷ ps) = (asks_rows ts c p.1 ≡ true) × AllAsk ts c ps

-- one step of the exchange of class c's attempt with timestamp ts
pub record GoesOn (ts c : ℕ) (x y : Exchange) : Type 0 where
  pub modules_same : y.modules ≡ x.modules
  pub no_more : is_reading x.phase ≡ false → is_reading y.phase ≡ false
  pub quiet : IsQuiet x → IsQuiet y
  pub asks : AllAsk ts c x.to_send → AllAsk ts c y.to_send

pub never : {A : Type 0} (b : Bool) → b ≡ true → b ≡ false → A
never b e f = absurd (not_both b e f)

-- a step to a phase that awaits no READY
to_later : (ts c : ℕ) (x y : Exchange) → y.modules ≡ x.modules → is_reading y.phase ≡ false → (AllAsk ts c x.to_send → AllAsk ts c y.to_send) → GoesOn ts c x y
to_later ts c x y e f g = record { modules_same = e; no_more = λ p. f; quiet = λ h p. never (is_reading y.phase) p f; asks = g }

-- a step that leaves the phase and what is to be sent
same_phase : (ts c : ℕ) (x y : Exchange) → y.modules ≡ x.modules → y.phase ≡ x.phase → y.to_send ≡ x.to_send → GoesOn ts c x y
same_phase ts c x y e f g = grind (arith, AllAsk)

two_steps : (ts c : ℕ) (x y z : Exchange) → GoesOn ts c x y → GoesOn ts c y z → GoesOn ts c x z
two_steps ts c x y z h k = grind arith

all_ask : (ts c : ℕ) (m : Msg) (dms : List ℕ) → asks_rows ts c m ≡ true → AllAsk ts c (to_all m dms)
all_ask ts c m [] e = tt
all_ask ts c m (d ∷ dms) e = (e, all_ask ts c m dms e)

fetching : (ts c : ℕ) (m : Move) (x : Exchange) (dms : List ℕ) → GoesOn ts c x (fetches_from ts c m x dms)
fetching ts c m x [] =
    two_steps ts c x (record x { union = [] }) _ (same_phase ts c x (record x { union = [] }) refl refl refl)
    (to_later ts c (record x { union = [] }) (reduces ts c m (record x { union = [] })) refl refl
    (λ h. all_ask ts c _ (with_use (record x { union = [] }) m.target.part) (own ts c)))
fetching ts c m x (d ∷ dms) = to_later ts c x (fetches_from ts c m x (d ∷ dms)) refl refl (λ h. all_ask ts c _ (d ∷ dms) (own ts c))

going_on : (ts c : ℕ) (x : Exchange) (qs : List Asking) (done : List Step) → GoesOn ts c x (goes_on ts c x qs done)
going_on ts c x [] done = to_later ts c x (ships ts c x) refl refl (λ h. all_ask ts c _ (map (λ m. m.0) x.modules) (own ts c))
going_on ts c x (q ∷ rest) done = grind (arith, GoesOn, two_steps, same_phase, fetching, (going_on ts c x rest))

-- after the READs something else is awaited, or nothing
pub reads_no_more : (ts c : ℕ) (x : Exchange) (qs : List Asking) (done : List Step) → is_reading (goes_on ts c x qs done).phase ≡ false
reads_no_more ts c x [] done = refl
reads_no_more ts c x (q ∷ rest) done = grind (arith, (reads_no_more ts c x rest))

pub answered_goes : (ts c d : ℕ) (x : Exchange) → GoesOn ts c x (answered ts c d x)
answered_goes ts c d x = (grind (arith, two_steps, same_phase, reduces, all_ask, with_use, own, to_later, going_on))

-- an answer with new parts that leave phase, modules and what is to be sent
answered_with : (ts c d : ℕ) (b : Bool) (x y : Exchange) → y.modules ≡ x.modules → y.phase ≡ x.phase → y.to_send ≡ x.to_send
    → GoesOn ts c x (if b then answered ts c d y else x)
answered_with ts c d b x y e f g = grind (arith, if_way, GoesOn, two_steps, same_phase, answered_goes)

pub hand_goes : (ts c d : ℕ) (m : Msg) (x : Exchange) → GoesOn ts c x (after_hand ts c d m x)
hand_goes ts c d (Ready t k counts) x = answered_with ts c d _ x (record x { counts = counted d counts x.counts }) refl refl refl
hand_goes ts c d (Values t k u vs) x = answered_with ts c d _ x (record x { union = with_values x.union vs; values = x.values + length vs }) refl refl refl
hand_goes ts c d (Reduced t k u n) x = answered_with ts c d _ x (record x { counts = counted d ((u, n) ∷ []) x.counts }) refl refl refl
hand_goes ts c d (Rows t k found) x = answered_with ts c d _ x (record x { found = x.found ++ found; rows = x.rows + length found }) refl refl refl
hand_goes ts c d _ x = same_phase ts c x x refl refl refl

ask_tail : (ts c : ℕ) (ps : List (ℕ × Msg)) → AllAsk ts c ps → AllAsk ts c (tail_of ps)
ask_tail ts c ps h = grind arith

pub send_goes : (ts c : ℕ) (x : Exchange) → GoesOn ts c x (after_send x)
send_goes ts c x = record { modules_same = refl; no_more = λ p. p; quiet = λ h p. ap tail_of (h p); asks = ask_tail ts c x.to_send }

-- what every start of an attempt of the class has, and every step of its exchange keeps, the class's active attempt has
pub record IsKept (c : ℕ) (Q : Attempt → Type 0) : Type 0 where
  pub starts : (ts : ℕ) (sends : List (Site × Msg)) (q : Queued) (a : Attempt) → started ts sends (Some q) ≡ Some a → Q a
  pub goes : (a : Attempt) (x : Exchange) → GoesOn a.ts c a.exchange x → Q a → Q (record a { exchange = x })

abbrev pub Has : (Attempt → Type 0) → Option Attempt → Type 0
Has Q None = Unit {0}
Has Q (Some a) = Q a

kept_record : (Q : Attempt → Type 0) (c k : ℕ) (r : Rec) (sends : List (Site × Msg)) (qs : List Queued) (o : Option Attempt)
    → IsKept c Q → Has Q o → Has Q (active_after c (Records k r sends) qs o)
kept_record Q c k r sends qs o i h = grind (arith, if_way, Has)

pub kept : (Q : Attempt → Type 0) (s : Setting) (c : ℕ) (log : Log) → IsKept c Q → Has Q (active s c log)
kept Q s c [] k = tt
kept Q s c (e ∷ log) k = grind (arith, if_way, Has, hand_goes, active, kept_record, queue, send_goes, (kept Q s c log k))

abbrev QuietOf : Attempt → Type 0
QuietOf a = IsQuiet a.exchange

quiet_started : (ts : ℕ) (sends : List (Site × Msg)) (q : Queued) (a : Attempt) → started ts sends (Some q) ≡ Some a → QuietOf a
quiet_started ts sends q a e = subst (Has QuietOf) e (λ p. refl)

not_empty : (ps : List (ℕ × Msg)) (p : ℕ × Msg) (b : Bool) → head_of ps ≡ Some p → (b ≡ true → ps ≡ []) → b ≡ false
not_empty ps p b e f = grind arith

-- an exchange that has something to send awaits no READY
pub not_reading : (s : Setting) (c : ℕ) (log : Log) (a : Attempt) (p : ℕ × Msg) → active s c log ≡ Some a
    → head_of a.exchange.to_send ≡ Some p → is_reading a.exchange.phase ≡ false
not_reading s c log a p e f = not_empty a.exchange.to_send p (is_reading a.exchange.phase) f
    (subst (Has QuietOf) e (kept QuietOf s c log (record { starts = quiet_started; goes = λ a x g h. g.quiet h })))

abbrev AskingOf : ℕ → Attempt → Type 0
AskingOf c a = AllAsk a.ts c a.exchange.to_send

asking_started : (c ts : ℕ) (sends : List (Site × Msg)) (q : Queued) (a : Attempt) → started ts sends (Some q) ≡ Some a → AskingOf c a
asking_started c ts sends q a e = subst (Has (AskingOf c)) e tt

asks_head : (ts c : ℕ) (ps : List (ℕ × Msg)) (p : ℕ × Msg) → AllAsk ts c ps → head_of ps ≡ Some p → asks_rows ts c p.1 ≡ true
asks_head ts c ps p h e = grind arith

-- what the exchange of the active attempt sends next is one of its own
pub asks_next : (s : Setting) (c : ℕ) (log : Log) (a : Attempt) (p : ℕ × Msg) → active s c log ≡ Some a
    → head_of a.exchange.to_send ≡ Some p → asks_rows a.ts c p.1 ≡ true
asks_next s c log a p e f = asks_head a.ts c a.exchange.to_send p
    (subst (Has (AskingOf c)) e (kept (AskingOf c) s c log (record { starts = asking_started c; goes = λ a x g h. g.asks h }))) f
