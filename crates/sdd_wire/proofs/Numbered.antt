-- Members of lists by their numbers.
use Rattle.sdd_wire.proofs.All.{List, None, arith, length, numbered, past, refl, suc, zero, ℕ, ◌<◌, ◌≡◌, ◌≤◌}

-- no member has a number past the last
pub none_there : {A : Type 0} (xs : List A) (n : ℕ) → (1 ≤ n → length xs < n) → numbered xs n ≡ None
none_there xs zero past_last = refl
none_there xs (suc n) past_last = let h : length xs < suc n = past_last (omega arith) in past xs n (omega arith)
