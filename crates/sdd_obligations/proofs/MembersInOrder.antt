-- Members of lists that are put in order.
use Rattle.sdd_obligations.proofs.All.{All-ascending, All-nil, AllByRecursion, Has, List, [], ap, ascending, ascending_back, contains, each_of, inl, inr, or_left, or_right, recursion_from_All, refl, same_number, true, ℕ, ◌==◌, ◌∙◌, ◌∷◌, ◌≡◌}

pub all_of : {A : Type 0} (P : A → Type 0) (xs : List A) → ((x : A) → Has xs x → P x) → AllByRecursion P xs
all_of P [] h = tt
all_of P (y ∷ ys) h = (h y (inl refl), all_of P ys (λ x k. h x (inr k)))

pub in_order : (xs : List ℕ) (n : ℕ) → Has xs n → Has (ascending xs) n
in_order xs n h = each_of (Has (ascending xs)) xs n (ascending_back (Has (ascending xs)) xs (all_of (Has (ascending xs)) (ascending xs) (λ x k. k))) h

pub from_order : (xs : List ℕ) (n : ℕ) → Has (ascending xs) n → Has xs n
from_order xs n h = each_of (Has xs) (ascending xs) n (recursion_from_All (Has xs) (ascending xs)
    (All-ascending (Has xs) [] xs (All-nil (Has xs)) (all_of (Has xs) xs (λ x k. k)))) h

pub has_contains : (xs : List ℕ) (n : ℕ) → Has xs n → contains xs n ≡ true
has_contains [] n h = absurd h
has_contains (x ∷ xs) n (inl e) = or_left (x == n) (contains xs n) (ap (λ y. y == n) e ∙ same_number n)
has_contains (x ∷ xs) n (inr h) = or_right (x == n) (contains xs n) (has_contains xs n h)
