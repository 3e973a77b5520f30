-- Members of lists of numbers, as a test and as a fact.
use Rattle.sdd_snapshot_replay.proofs.All.{Contains, List, contains, eq-eqb, eqb-true, member_passes, passes_member, refl, subst, true, ℕ, ◌==◌, ◌≡◌}

pub is_member : (xs : List ℕ) (n : ℕ) → contains xs n ≡ true → Contains xs n
is_member xs n e =
    let x = member_passes (λ m. m == n) xs e in
    subst (Contains xs) (eqb-true x.0 n x.2) x.1

pub member_is : (xs : List ℕ) (n : ℕ) → Contains xs n → contains xs n ≡ true
member_is xs n h = passes_member (λ m. m == n) xs n h (eq-eqb n n refl)
