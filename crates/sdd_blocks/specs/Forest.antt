-- Disjoint sets of nodes, as a forest of parents, with the labels that it gives its nodes.
use Rattle.std.specs.Prelude.{ℕ, ◌<◌, ◌≤◌, ◌==◌, ◌≡◌, ◌⊎◌, if◌then◌else◌, List, length, slice_index}

-- no parent is above its node
abbrev pub IsForest : List ℕ → Type 0
IsForest parents = (v : ℕ) → v < length parents → slice_index parents v ≤ v

-- the labels are the roots: a node has the label of its parent, and a root its own number
pub record AreRoots (parents labels : List ℕ) : Type 0 where
  pub one_each : length labels ≡ length parents
  pub same : (v : ℕ) → v < length parents
      → slice_index labels (slice_index parents v) ≡ slice_index labels v
  pub root : (v : ℕ) → v < length parents → slice_index parents v ≡ v → slice_index labels v ≡ v

-- a label, with one label replaced by another
abbrev pub replaced : ℕ → ℕ → ℕ → ℕ
replaced old new label = if label == old then new else label

-- the labels of two nodes have become one of them
pub record AreJoined (a b : ℕ) (before after : List ℕ) : Type 0 where
  pub old : ℕ
  pub new : ℕ
  pub of_both : ((old ≡ slice_index before a) × (new ≡ slice_index before b))
      ⊎ ((old ≡ slice_index before b) × (new ≡ slice_index before a))
  pub one_each : length after ≡ length before
  pub replaced_at : (v : ℕ) → v < length before
      → slice_index after v ≡ replaced old new (slice_index before v)
