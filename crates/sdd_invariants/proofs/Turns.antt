-- HOLDs and RELEASEs that alternate, and how many there are.
use Rattle.sdd_invariants.proofs.All.{Bool, Hold, List, Msg, None, NoneHold, Option, Release, Some, [], ap, arith, false, is_a_hold, is_a_release, one_if, refl, suc, take, tally, true, turn, turns, ℕ, ◌++◌, ◌+◌, ◌∷◌, ◌≡◌, ◌≤◌}

pub tally_append : (f : Msg → Bool) (xs ys : List Msg) → tally f (xs ++ ys) ≡ tally f xs + tally f ys
tally_append f [] ys = omega arith
tally_append f (x ∷ xs) ys = let i = tally_append f xs ys in omega arith

pub turns_append : (o : Option Bool) (xs ys : List Msg) → turns o (xs ++ ys) ≡ turns (turns o xs) ys
turns_append None [] ys = refl
turns_append (Some b) (x ∷ xs) ys = turns_append (turn b x) xs ys
turns_append _ _ ys = refl

-- what is taken in turn is even, or one HOLD ahead
pub balance : (b c : Bool) (ms : List Msg) → turns (Some b) ms ≡ Some c → tally is_a_hold ms + one_if b ≡ tally is_a_release ms + one_if c
balance b c [] e = let p : b ≡ c = cc in ap (λ x. 0 + one_if x) p
balance true c (Hold ∷ ms) e = absurd (grind arith)
balance false c (Hold ∷ ms) e = let i = balance true c ms e in omega arith
balance true c (Release ts ∷ ms) e = let i = balance false c ms e in omega arith
balance false c (Release ts ∷ ms) e = absurd (grind arith)
balance b c (m ∷ ms) e = let i = balance b c ms e in omega arith

-- of a first part
pub tally_take : (f : Msg → Bool) (n : ℕ) (ms : List Msg) → tally f (take n ms) ≤ tally f ms
tally_take f (suc n) (m ∷ ms) = let i = tally_take f n ms in omega arith
tally_take f _ _ = omega arith

turns_take_at : (n : ℕ) (o : Option Bool) (ms : List Msg) (c : Bool) → turns o ms ≡ Some c → (d : Bool) × (turns o (take n ms) ≡ Some d)
turns_take_at n None ms c e = absurd (grind arith)
turns_take_at (suc n) (Some b) (m ∷ ms) c e = turns_take_at n (turn b m) ms c e
turns_take_at _ (Some b) _ c e = (b, refl)

pub turns_take : (n : ℕ) (ms : List Msg) (c : Bool) → turns (Some false) ms ≡ Some c → (d : Bool) × (turns (Some false) (take n ms) ≡ Some d)
turns_take n ms c e = turns_take_at n (Some false) ms c e

pub none_hold_join : (xs ys : List Msg) → NoneHold xs → NoneHold ys → NoneHold (xs ++ ys)
none_hold_join [] ys h k = k
none_hold_join (x ∷ xs) ys h k = (h.0, h.1, none_hold_join xs ys h.2 k)
