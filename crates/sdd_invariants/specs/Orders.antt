-- Lists of numbers that are all below or above a number, or in order.
use Rattle.std.specs.Prelude.{ℕ, ◌<◌, ◌∷◌, ◌≤◌, List, []}

abbrev pub AllLe : ℕ → List ℕ → Type 0
AllLe k [] = Unit {0}
AllLe k (x ∷ xs) = (x ≤ k) × AllLe k xs

abbrev pub AllLt : ℕ → List ℕ → Type 0
AllLt k [] = Unit {0}
AllLt k (x ∷ xs) = (x < k) × AllLt k xs

abbrev pub AllGe : ℕ → List ℕ → Type 0
AllGe k [] = Unit {0}
AllGe k (x ∷ xs) = (k ≤ x) × AllGe k xs

abbrev pub AllGt : ℕ → List ℕ → Type 0
AllGt k [] = Unit {0}
AllGt k (x ∷ xs) = (k < x) × AllGt k xs

-- each is above those after it
abbrev pub IsFalling : List ℕ → Type 0
IsFalling [] = Unit {0}
IsFalling (x ∷ xs) = AllLt x xs × IsFalling xs

-- none is below one before it
abbrev pub IsRising : List ℕ → Type 0
IsRising [] = Unit {0}
IsRising (x ∷ xs) = AllGe x xs × IsRising xs

-- each is above those before it
abbrev pub IsStrict : List ℕ → Type 0
IsStrict [] = Unit {0}
IsStrict (x ∷ xs) = AllGt x xs × IsStrict xs
