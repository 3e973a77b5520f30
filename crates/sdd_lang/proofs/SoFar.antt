-- What holds of each item so far.
use Rattle.sdd_lang.proofs.All.{All, All-more, List, get_or, length, subst, take, take_all, ℕ, ◌+◌, ◌<◌, ◌≡◌, ◌≤◌}

pub all_and_next : {A : Type 0} (P : A → Type 0) (xs : List A) (i : ℕ) (x : A) → i < length xs → x ≡ get_or xs i x → All P (take i xs) → P x
    → All P (take (i + 1) xs)
all_and_next P xs i x within is all here = All-more P xs i x within all (subst P is here)

pub all_at_end : {A : Type 0} (P : A → Type 0) (xs : List A) (i : ℕ) → length xs ≤ i → All P (take i xs) → All P xs
all_at_end P xs i past all = subst (All P) (take_all i xs past) all
