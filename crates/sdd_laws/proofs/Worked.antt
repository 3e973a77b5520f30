-- Two transactions that meet what the laws say of writers: the second puts another row with the key of the first's.
use Rattle.sdd_laws.proofs.All.{AreWriters, Contains, Contains-cases, Contains-nil, List, [], accounts, arith, inl, inr, puts, ℕ, ◌*◌, ◌∷◌, ◌≡◌, ◌≤◌}

only : {A : Type 0} (x y : A) → Contains (x ∷ []) y → y ≡ x
only x y h = elim (Contains-cases x [] y h) [ inl e ↦ e | inr none ↦ absurd (Contains-nil y none) ]

abbrev commits : List ℕ
commits = 2 ∷ 1 ∷ []

above_0 : (n : ℕ) → Contains commits n → 1 ≤ 64 * n
above_0 n h = grind arith

same_number : (m n : ℕ) → 64 * m ≡ 64 * n → m ≡ n
same_number m n e = omega arith

pub writers : AreWriters accounts puts commits
writers = grind arith
