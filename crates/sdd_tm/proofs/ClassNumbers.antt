-- The classes that a module runs: each number once, and each the number of a class.
use Rattle.sdd_tm.proofs.All.{Bool, List, Setting, Some, [], ap, arith, filter, length, range_with_len, refl, runs, slice_get, some_is, suc, zero, ℕ, ◌+◌, ◌<◌, ◌∷◌, ◌≡◌, ◌≢◌, ◌≤◌}

-- numbers in order, from the first on and below the second
abbrev Climb : ℕ → ℕ → List ℕ → Type 0
Climb low high [] = Unit {0}
Climb low high (x ∷ xs) = (low ≤ x) × (x < high) × Climb (suc x) high xs

lower : (low mid high : ℕ) (xs : List ℕ) → low ≤ mid → Climb mid high xs → Climb low high xs
lower low mid high [] l h = tt
lower low mid high (x ∷ xs) l h = let m : mid ≤ x = h.0 in (omega arith, h.1, h.2)

range_climbs : (a n high : ℕ) → a + n ≤ high → Climb a high (range_with_len a n)
range_climbs a zero high l = tt
range_climbs a (suc n) high l = grind (arith, lower, range_with_len, (range_climbs (a + 1) n high (omega arith)))

kept_climbs : (p : ℕ → Bool) (low high : ℕ) (xs : List ℕ) → Climb low high xs → Climb low high (filter p xs)
kept_climbs p low high [] h = tt
kept_climbs p low high (x ∷ xs) h = grind (arith, lower, kept_climbs p (suc x) high xs h.2)

at_climb : (low high : ℕ) (xs : List ℕ) (i x : ℕ) → Climb low high xs → slice_get xs i ≡ Some x → (low ≤ x) × (x < high)
at_climb low high [] i x h e = absurd cc
at_climb low high (y ∷ xs) zero x h e = let same : y ≡ x = some_is e in let a : low ≤ y = h.0 in let b : y < high = h.1 in (omega arith, omega arith)
at_climb low high (y ∷ xs) (suc i) x h e = let r = at_climb (suc y) high xs i x h.2 e in let a : low ≤ y = h.0 in let b : suc y ≤ x = r.0 in (omega arith, r.1)

climb_apart : (low high : ℕ) (xs : List ℕ) (i j x y : ℕ) → Climb low high xs → slice_get xs i ≡ Some x → slice_get xs j ≡ Some y → i ≢ j → x ≢ y
climb_apart low high [] i j x y h e f apart = absurd cc
climb_apart low high (z ∷ xs) zero zero x y h e f apart = absurd (apart refl)
climb_apart low high (z ∷ xs) zero (suc j) x y h e f apart = grind (arith, at_climb)
climb_apart low high (z ∷ xs) (suc i) zero x y h e f apart = grind (arith, at_climb)
climb_apart low high (z ∷ xs) (suc i) (suc j) x y h e f apart = climb_apart (suc z) high xs i j x y h.2 e f (λ q. apart (ap suc q))

-- a class at another place has another number
pub runs_apart : (s : Setting) (i j c d : ℕ) → slice_get (runs s) i ≡ Some c → slice_get (runs s) j ≡ Some d → i ≢ j → c ≢ d
runs_apart s i j c d e f apart = climb_apart 1 (suc (length s.catalogue.classes)) (runs s) i j c d (grind (arith, kept_climbs, range_climbs)) e f apart

-- it is the number of a class
pub runs_class : (s : Setting) (i c : ℕ) → slice_get (runs s) i ≡ Some c → (1 ≤ c) × (c ≤ length s.catalogue.classes)
runs_class s i c e = let r = at_climb 1 (suc (length s.catalogue.classes)) (runs s) i c (grind (arith, kept_climbs, range_climbs)) e in
    let b : c < suc (length s.catalogue.classes) = r.1 in (r.0, omega arith)
