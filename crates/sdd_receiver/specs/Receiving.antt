-- What contracts see of a receiver, which keeps a window: how far it came, and what waits.
use Rattle.std.specs.Prelude.{ℕ, ◌+◌, ◌-◌, nat_le, ◌==◌, if◌then◌else◌, List, [], ◌∷◌, ◌≡◌, ◌-◌, ◌<◌, length, map, slice_get, Some, refl}
use Rattle.std.specs.Ordering.{nat_cmp}
use Rattle.std.specs.BTreeMap.{insert_entry}
use Rattle.sdd_base.specs.Words.{contains}
use Rattle.sdd_receiver.specs.Arrivals.{top}

-- a receiver: the messages 1 to `count` were handed on, and later ones that came early wait by their numbers, ascending
pub record Receiving (M : Type 0) : Type 0 where
  pub count : ℕ
  pub early : List (ℕ × M)

abbrev pub nothing_received : {M : Type 0} → Receiving M
nothing_received = record { count = 0; early = [] }

-- of messages by ascending numbers, those at k + 1, k + 2 and so on, as far as there is no gap
abbrev pub in_turn : {M : Type 0} → ℕ → List (ℕ × M) → List M
in_turn k [] = []
in_turn k ((n, m) ∷ rest) = if n == k + 1 then m ∷ in_turn (k + 1) rest else []

-- and the others
abbrev pub out_of_turn : {M : Type 0} → ℕ → List (ℕ × M) → List (ℕ × M)
out_of_turn k [] = []
out_of_turn k ((n, m) ∷ rest) = if n == k + 1 then out_of_turn (k + 1) rest else (n, m) ∷ rest

-- what waits once message n came too
abbrev pub with_early : {M : Type 0} → ℕ → M → Receiving M → List (ℕ × M)
with_early n m r = insert_entry nat_cmp r.early n m

-- what the arrival of message n hands on: nothing where it was handed on before or comes early
abbrev pub handed_on : {M : Type 0} → ℕ → M → Receiving M → List M
handed_on n m r = if nat_le n r.count then [] else in_turn r.count (with_early n m r)

-- the receiver after it
abbrev pub received : {M : Type 0} → ℕ → M → Receiving M → Receiving M
received n m r =
    if nat_le n r.count then r
    else
    record {
      count = r.count + length (in_turn r.count (with_early n m r));
      early = out_of_turn r.count (with_early n m r);
    }

-- messages by ascending numbers above k
abbrev pub Ascends : {M : Type 0} → ℕ → List (ℕ × M) → Type 0
Ascends k [] = Unit {0}
Ascends k ((n, m) ∷ rest) = (k < n) × Ascends n rest

-- each is the message that was sent with its number
abbrev pub AreSent : {M : Type 0} → List M → List (ℕ × M) → Type 0
AreSent sent [] = Unit {0}
AreSent sent ((n, m) ∷ rest) = (slice_get sent (n - 1) ≡ Some m) × AreSent sent rest

abbrev pub numbers : {M : Type 0} → List (ℕ × M) → List ℕ
numbers early = map (λ e. e.0) early

-- what waits at a receiver is what arrived after the first gap, by its numbers
pub record IsEarly {M : Type 0} (k : ℕ) (arrived : List ℕ) (sent : List M) (early : List (ℕ × M)) : Type 0 where
  pub ascends : Ascends k early
  pub are_sent : AreSent sent early
  pub same : (n : ℕ) → k < n → contains (numbers early) n ≡ contains arrived n

-- a receiver represents the numbers that arrived, where each message is the one that was sent with its number
pub record HasReceived {M : Type 0} (r : Receiving M) (arrived : List ℕ) (sent : List M) : Type 0 where
  pub count : r.count ≡ top arrived
  pub early : IsEarly (top arrived) arrived sent r.early

-- worked: 2 and 3 came early, and the arrival of 1 hands on all three; 5 still waits
pub worked_gap : handed_on {M = ℕ} 1 10 (record { count = 0; early = (2, 20) ∷ (3, 30) ∷ (5, 50) ∷ [] })
    ≡ 10 ∷ 20 ∷ 30 ∷ []
worked_gap = refl

pub worked_rest : received {M = ℕ} 1 10 (record { count = 0; early = (2, 20) ∷ (3, 30) ∷ (5, 50) ∷ [] })
    ≡ record { count = 3; early = (5, 50) ∷ [] }
worked_rest = refl
