-- Readings that end at their first fault. F is the type of the faults.
use Rattle.std.specs.Prelude.{ℕ, ◌+◌, ◌≡◌, List, [], ◌∷◌, Bool, Option, Some, None, Result, Ok, Err, IfSome, if◌then◌else◌}

-- what the first reading gave is handed on, or its fault is the fault of both
infixl 10 ◌>>=◌
abbrev pub ◌>>=◌ : {A B F : Type 0} → Result A F → (A → Result B F) → Result B F
(Ok x) >>= f = f x
(Err fault) >>= f = Err fault

-- the fault comes where the value isn't there
abbrev pub require : {A F : Type 0} → F → Option A → Result A F
require fault None = Err fault
require fault (Some x) = Ok x

-- the fault comes where the test fails
abbrev pub must : {F : Type 0} → F → Bool → Result (Unit {0}) F
must fault b = if b then Ok tt else Err fault

-- a reading of each member in order, which is given the member's number, counted on from that of the first
abbrev pub along : {A B F : Type 0} → (ℕ → A → Result B F) → ℕ → List A → Result (List B) F
along f number [] = Ok []
along f number (x ∷ xs) = f number x >>= (λ y. along f (number + 1) xs >>= (λ ys. Ok (y ∷ ys)))

-- Code answers a reading with an error type E of its own: an error is a fault, or else memory ran out, of which nothing is said.

-- an error is the fault of the reading
abbrev pub Fails : {E F Y : Type 0} → (E → Option F) → E → Result Y F → Type 0
Fails fault_in e reading = IfSome (fault_in e) (λ fault. reading ≡ Err fault)

-- a result, seen by view, is what the reading gives
abbrev pub GivesReading : {E F X Y : Type 0} → (E → Option F) → (X → Y) → Result X E → Result Y F → Type 0
GivesReading fault_in view (Ok x) reading = reading ≡ Ok (view x)
GivesReading fault_in view (Err e) reading = Fails fault_in e reading
