-- Numbers in groups: of each key the numbers that are paired with it, in their order.
use Rattle.std.specs.Prelude.{ℕ, ◌==◌, ◌≡◌, if◌then◌else◌, List, [], ◌∷◌, Option, Some, None, filter, map, refl}
use Rattle.std.specs.List.{flat_map, range_with_len}

abbrev pub Groups : Type 0
Groups = List (List ℕ)

abbrev pub group : List (ℕ × ℕ) → ℕ → List ℕ
group pairs key = map (λ p. p.1) (filter (λ p. p.0 == key) pairs)

-- the groups of the keys from 0 on, so many of them
abbrev pub groups : List (ℕ × ℕ) → ℕ → Groups
groups pairs count = map (group pairs) (range_with_len 0 count)

pub three_groups : groups ((2, 5) ∷ (0, 7) ∷ (2, 4) ∷ []) 3 ≡ (7 ∷ []) ∷ [] ∷ (5 ∷ 4 ∷ []) ∷ []
three_groups = refl

-- each number of a list with the next one, where they differ; a number may stand before the list

abbrev pub chain_after : Option ℕ → List ℕ → List (ℕ × ℕ)
chain_after before [] = []
chain_after None (n ∷ rest) = chain_after (Some n) rest
chain_after (Some m) (n ∷ rest) = if m == n then chain_after (Some n) rest else (m, n) ∷ chain_after (Some n) rest

abbrev pub chains : Groups → List (ℕ × ℕ)
chains lists = flat_map (chain_after None) lists

pub two_chains : chains ((7 ∷ 8 ∷ 8 ∷ []) ∷ [] ∷ (5 ∷ 4 ∷ []) ∷ []) ≡ (7, 8) ∷ (5, 4) ∷ []
two_chains = refl
