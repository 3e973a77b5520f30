-- Edges with the same ends, one after the other.
use Rattle.std.specs.Prelude.{ℕ, ◌≡◌, List, [], ◌∷◌, ◌++◌, replicate, refl}
use Rattle.sdd_blocks.specs.declared.runs.Run.{Run}

-- the edges of the runs
abbrev pub edges_in : List Run → List (ℕ × ℕ)
edges_in [] = []
edges_in (r ∷ runs) = replicate r.count r.ends ++ edges_in runs

pub edges_of_runs_example : edges_in (record { ends = (0, 1); count = 2 } ∷ record { ends = (1, 2); count = 1 } ∷ []) ≡ (0, 1) ∷ (0, 1) ∷ (1, 2) ∷ []
edges_of_runs_example = refl
