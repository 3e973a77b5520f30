-- What holds of the block numbers of every multigraph.
use Rattle.std.specs.Prelude.{ℕ, ◌≡◌, ◌≢◌, List, [], ◌∷◌, Some, slice_get}
use Rattle.sdd_blocks.specs.Graph.{Step, Has, Differ, IsWalk, IsSimpleCycle, edges_of, nodes_of}
use Rattle.sdd_blocks.specs.Blocks.{AreBlocks}

-- a graph has one list of block numbers at most
abbrev pub OneNumbering : Type 0
OneNumbering =
    (edges : List (ℕ × ℕ)) (xs ys : List ℕ) → AreBlocks edges xs → AreBlocks edges ys → xs ≡ ys

-- all edges that the steps go along have the number
abbrev pub HaveNumber : List ℕ → List Step → ℕ → Type 0
HaveNumber blocks steps number =
    (k : ℕ) → Has (edges_of steps) k → slice_get blocks k ≡ Some number

-- the edges of one simple cycle have one number, and it isn't 0
abbrev pub OneNumberACycle : Type 0
OneNumberACycle =
    (edges : List (ℕ × ℕ)) (blocks : List ℕ) → AreBlocks edges blocks
    → (start : ℕ) (steps : List Step) → IsSimpleCycle edges start steps
    → (number : ℕ) × (number ≢ 0) × HaveNumber blocks steps number

-- a closed walk of two steps or more that meets no node twice is a simple cycle, unless it goes along
-- one edge and back
abbrev pub ClosedWalksAreCycles : Type 0
ClosedWalksAreCycles =
    (edges : List (ℕ × ℕ)) (start : ℕ) (s t : Step) (rest : List Step)
    → IsWalk edges start (s ∷ t ∷ rest) start → Differ (nodes_of (s ∷ t ∷ rest))
    → (rest ≡ [] → s.edge ≢ t.edge) → IsSimpleCycle edges start (s ∷ t ∷ rest)
