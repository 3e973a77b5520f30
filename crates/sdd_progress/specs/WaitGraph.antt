-- The graph of waits over the nodes of a conflict graph. Its arcs say on what a READ may wait: on a class that has not
-- yet written up to some time, and then on a READ of that class, or on one that holds back a write of that class.
use Rattle.std.specs.Prelude.{ℕ, ◌≤◌, ◌≡◌, ◌≢◌, Bool, true, false, List, Some, slice_get, slice_index}
use Rattle.sdd_blocks.specs.Graph.{Joins}
use Rattle.sdd_blocks.specs.Blocks.{AreBlocks}

-- a diagonal of protocol P2 or P3: its two classes, its place among the edges, and whether the reader waits up to its
-- own timestamp, as P3 has it, or up to the time of P2
pub record WaitDiagonal : Type 0 where
  pub reader : ℕ
  pub writer : ℕ
  pub edge : ℕ
  pub own : Bool

-- edges with their block numbers; the nodes of each class, from 1 on, and the place of the edge that joins these two;
-- the diagonals along which READs wait
pub record WaitGraph : Type 0 where
  pub edges : List (ℕ × ℕ)
  pub blocks : List ℕ
  pub classes : ℕ
  pub read : ℕ → ℕ
  pub write : ℕ → ℕ
  pub vertical : ℕ → ℕ
  pub diagonals : List WaitDiagonal

abbrev pub IsDiagonal : WaitGraph → ℕ → WaitDiagonal → Type 0
IsDiagonal G n d = slice_get G.diagonals n ≡ Some d

pub record IsClass (G : WaitGraph) (i : ℕ) : Type 0 where
  pub from : 1 ≤ i
  pub to : i ≤ G.classes

-- a diagonal joins the read node of a class with the write node of a class, and lies in a block: in that of its
-- reader's vertical edge exactly where the reader waits up to its own timestamp
pub record FitsBlocks (G : WaitGraph) (d : WaitDiagonal) : Type 0 where
  pub reader : IsClass G d.reader
  pub writer : IsClass G d.writer
  pub joins : Joins G.edges d.edge (G.read d.reader) (G.write d.writer)
  pub in_block : slice_index G.blocks d.edge ≢ 0
  pub own : d.own ≡ true → slice_index G.blocks d.edge ≡ slice_index G.blocks (G.vertical d.reader)
  pub other : d.own ≡ false → slice_index G.blocks d.edge ≢ slice_index G.blocks (G.vertical d.reader)

-- the protocols are those of the block numbers
pub record FitsWaitGraph (G : WaitGraph) : Type 0 where
  pub blocks : AreBlocks G.edges G.blocks
  -- nodes are read nodes, one a class, or write nodes
  pub apart : (i j : ℕ) → IsClass G i → IsClass G j → G.read i ≢ G.write j
  pub one_reader : (i j : ℕ) → IsClass G i → IsClass G j → G.read i ≡ G.read j → i ≡ j
  pub upright : (i : ℕ) → IsClass G i → Joins G.edges (G.vertical i) (G.read i) (G.write i)
  pub diagonal : (n : ℕ) (d : WaitDiagonal) → IsDiagonal G n d → FitsBlocks G d

-- an arc: from the read node of a class to the write node of one on which it waits up to its own timestamp; from the
-- write node of a class to its read node, or to that of a class whose READs may hold back its writes
pub data Arc (G : WaitGraph) (x y : ℕ) : Type 0 where
  waits : (n : ℕ) (d : WaitDiagonal) → IsDiagonal G n d → d.own ≡ true → x ≡ G.read d.reader → y ≡ G.write d.writer
      → Arc G x y
  within : (j : ℕ) → IsClass G j → x ≡ G.write j → y ≡ G.read j → Arc G x y
  held : (n : ℕ) (d : WaitDiagonal) → IsDiagonal G n d → x ≡ G.write d.writer → y ≡ G.read d.reader → Arc G x y

-- arcs lead from one node to the other
pub data Path (G : WaitGraph) : ℕ → ℕ → Type 0 where
  stop : {x y : ℕ} → x ≡ y → Path G x y
  go : {x y z : ℕ} → Arc G x y → Path G y z → Path G x z
