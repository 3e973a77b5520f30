-- Items that a loop reads, one after the other.
use Rattle.sdd_wire.proofs.All.{AllByRecursion, Fails, List, Ok, Reading, Result, Source, WireFault, [], add-one, after, append-nil, append_assoc, arith, fault_in, flat_map, flat_map_more, get_or, items_at, length, nat_tests, read_as, suc, sym, take, take_more, ℕ, ◌++◌, ◌+◌, ◌-◌, ◌<◌, ◌∙◌, ◌∷◌, ◌≡◌, ◌≤◌}

-- what was read before, and what is still read
abbrev pub with_front : {A : Type 0} → List A → Result (List A × Source) ℕ → Result (List A × Source) ℕ
with_front front reading = after reading (λ xs. read_as (front ++ xs))

-- What a loop has read, with what it still reads, is the total. One item more:
pub goes_on : {A : Type 0} (item : Reading A) (front : List A) (count i : ℕ) (s t : Source) (x : A)
    (total : Result (List A × Source) ℕ) → i < count → item s ≡ Ok (x, t)
    → with_front front (items_at item (count - i) s) ≡ total
    → with_front (front ++ x ∷ []) (items_at item (count - (i + 1)) t) ≡ total
goes_on {A = A} item front count i s t x total lt h so_far =
    let k : count - i ≡ suc (count - (i + 1)) = omega arith in
    let more : Result (List A × Source) ℕ = items_at item (count - (i + 1)) t in
    sym (rw (k, h) (grind (arith, append_assoc))) ∙ so_far

-- an item at which the reading breaks
pub ends : {A : Type 0} (item : Reading A) (e : WireFault) (front : List A) (count i : ℕ) (s : Source)
    (total : Result (List A × Source) ℕ) → i < count → Fails fault_in e (item s)
    → with_front front (items_at item (count - i) s) ≡ total → Fails fault_in e total
ends item e front count i s total lt h so_far = grind (arith, nat_tests)

-- no item is left
pub is_done : {A : Type 0} (item : Reading A) (front : List A) (count i : ℕ) (s : Source)
    (total : Result (List A × Source) ℕ) → count ≤ i
    → with_front front (items_at item (count - i) s) ≡ total → total ≡ Ok (front, s)
is_done item front count i s total past so_far = grind (arith, nat_tests, append-nil)

all_to : {A : Type 0} (P : A → Type 0) (xs : List A) (i : ℕ) (x : A) → i < length xs
    → x ≡ get_or xs i x → AllByRecursion P (take i xs) → P x → AllByRecursion P (take (suc i) xs)
all_to P (y ∷ xs) (suc i) x lt is h hx = (h.0, all_to P xs i x (omega arith) is h.1 hx)
all_to _ _ _ x lt is h hx = grind (arith, nat_tests)

-- items of a kind, one more
pub all_more : {A : Type 0} (P : A → Type 0) (xs : List A) (i : ℕ) (x : A) → i < length xs
    → x ≡ get_or xs i x → AllByRecursion P (take i xs) → P x → AllByRecursion P (take (i + 1) xs)
all_more P xs i x lt is h hx = rw add-one (all_to P xs i x lt is h hx)

-- what was put, with one item more
pub put_more : {A : Type 0} (f : A → List ℕ) (xs : List A) (i : ℕ) (x : A) (start was now : List ℕ)
    → i < length xs → x ≡ get_or xs i x
    → was ≡ start ++ flat_map f (take i xs) → now ≡ was ++ f x → now ≡ start ++ flat_map f (take (i + 1) xs)
put_more f xs i x start was now lt is before put = grind (arith, nat_tests, take_more, flat_map_more)
