-- What the conflict graph has for the transactions, and what the protocols of its blocks add.
use Rattle.std.specs.Prelude.{ℕ, ◌-◌, ◌<◌, ◌≤◌, ◌==◌, ◌≡◌, ◌≢◌, ◌⊎◌, ◌↔◌, if◌then◌else◌, List, Some, slice_get, slice_index}
use Rattle.sdd_base.specs.Numbers.{class_no, frag_no}
use Rattle.sdd_graph.specs.declared.edge.Edge.{Edge}
use Rattle.sdd_graph.specs.declared.edge.Edge.TheVariants.{Vertical, Horizontal, Diagonal}
use Rattle.sdd_acyclic.specs.System.{System}

-- the edge at the place joins the two nodes of a class
abbrev pub IsVertical : List Edge → ℕ → ℕ → Type 0
IsVertical graph k i = slice_get graph k ≡ Some (Vertical (class_no i))

-- it joins the write nodes of the classes
abbrev pub IsHorizontal : List Edge → ℕ → ℕ → ℕ → Type 0
IsHorizontal graph k i j =
    (slice_get graph k ≡ Some (Horizontal (class_no i) (class_no j)))
    ⊎ (slice_get graph k ≡ Some (Horizontal (class_no j) (class_no i)))

-- it is the diagonal for the reader, the writer and the fragment
abbrev pub IsDiagonal : List Edge → ℕ → ℕ → ℕ → ℕ → Type 0
IsDiagonal graph k i j f = slice_get graph k ≡ Some (Diagonal (class_no i) (class_no j) (frag_no f))

-- the graph has an edge for each way in which transactions of different classes can meet
pub record Covers {T : Type 0} (S : System T) (graph : List Edge) : Type 0 where
  pub declared : (x : T) → 1 ≤ S.class x
  pub vertical : (x : T) → IsVertical graph (S.class x - 1) (S.class x)
  pub horizontal : (x y : T) (f : ℕ) → S.class x ≢ S.class y → S.Changes x f → S.Changes y f
      → (k : ℕ) × IsHorizontal graph k (S.class x) (S.class y)
  pub diagonal : (x y : T) (f : ℕ) → S.class x ≢ S.class y → S.Reads x f → S.Changes y f
      → (k : ℕ) × IsDiagonal graph k (S.class x) (S.class y) f

-- up to which time a reader waits for the writers of a block: its timestamp where the edge of its own two nodes lies in
-- the block, else the time of P2
abbrev pub time_for : ℕ → ℕ → ℕ → ℕ → ℕ
time_for own_block block ts p2 = if own_block == block then ts else p2

abbrev pub time_in : {T : Type 0} → System T → List ℕ → ℕ → T → ℕ
time_in S blocks b y = time_for (slice_index blocks (S.class y - 1)) b (S.ts y) (S.p2 y)

pub record Waits {T : Type 0} (S : System T) (graph : List Edge) (blocks : List ℕ) : Type 0 where
  -- of the writers of another class a reader sees those below its time
  pub split : (x y : T) (f k : ℕ) → S.class y ≢ S.class x → S.Reads y f → S.Changes x f
      → IsDiagonal graph k (S.class y) (S.class x) f → slice_index blocks k ≢ 0
      → S.Seen x (S.dm (S.class y) f) y ↔ (S.ts x < time_in S blocks (slice_index blocks k) y)
  -- within a class the time of P2 does not fall
  pub rises : (x y : T) → S.class x ≡ S.class y → S.ts x ≤ S.ts y → S.p2 x ≤ S.p2 y
