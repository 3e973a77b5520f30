-- The receiver's loop.
use Rattle.sdd_receiver.proofs.All.{List, Some, [], append-nil, arith, eq-eqb, eqb-true, handed_on, in_turn, insert_entry, length, nat_cmp, nat_le, nat_tests, out_of_turn, received, refl, slice_get, ℕ, ◌++◌, ◌+◌, ◌<◌, ◌∷◌, ◌≡◌, ◌≢◌}

-- where the first message is not the next, none is in turn
pub in_turn-none : {M : Type 0} (k n : ℕ) (m : M) (entries : List (ℕ × M))
    → slice_get entries 0 ≡ Some (n, m) → n ≢ k + 1 → in_turn k entries ≡ []
in_turn-none k n m [] e ne = cc
in_turn-none {M = M} k n m ((x, y) ∷ rest) e ne = grind (arith, eqb-true)

-- where it is the next, it is
pub in_turn-next : {M : Type 0} (k : ℕ) (m : M) (rest entries : List (ℕ × M))
    → entries ≡ (k + 1, m) ∷ rest → in_turn k entries ≡ m ∷ in_turn (k + 1) rest
in_turn-next k m rest entries e = rw (e, eq-eqb (k + 1) (k + 1) refl) refl

pub out_of_turn-next : {M : Type 0} (k : ℕ) (m : M) (rest entries : List (ℕ × M))
    → entries ≡ (k + 1, m) ∷ rest → out_of_turn k entries ≡ out_of_turn (k + 1) rest
out_of_turn-next k m rest entries e = rw (e, eq-eqb (k + 1) (k + 1) refl) refl

-- where none is in turn, all wait
pub out_of_turn-none : {M : Type 0} (k : ℕ) (entries : List (ℕ × M)) → in_turn k entries ≡ []
    → out_of_turn k entries ≡ entries
out_of_turn-none k [] e = refl
out_of_turn-none k ((x, y) ∷ rest) e = grind (arith, nat_tests)

-- the receiver's loop, from the entries with the new message to the state in which none is in turn
pub received_is : {M : Type 0} (n : ℕ) (m : M) (count : ℕ) (early with : List (ℕ × M)) (k : ℕ) (rest : List (ℕ × M)) (handed : List M)
    → count < n → with ≡ insert_entry nat_cmp early n m → handed ++ in_turn k rest ≡ in_turn count with
    → out_of_turn k rest ≡ out_of_turn count with
    → k ≡ count + length handed → in_turn k rest ≡ []
    → (handed ≡ handed_on n m (record { count = count; early = early })) × (record { count = k; early = rest } ≡ received n m (record { count = count; early = early }))
received_is n m count early with k rest handed below w h o e none = grind (arith, nat_le, insert_entry, nat_cmp, append-nil, out_of_turn-none)

pub ruleset turns = (in_turn-none, in_turn-next, out_of_turn-next, out_of_turn-none)
