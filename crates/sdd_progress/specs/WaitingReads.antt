-- READs that wait, and why.
use Rattle.std.specs.Prelude.{ℕ, ◌+◌, ◌*◌, ◌<◌, ◌≤◌, ◌≡◌, Bool, true, false}
use Rattle.sdd_progress.specs.WaitGraph.{WaitDiagonal, WaitGraph, IsDiagonal}

-- a READ of a declared class: its class, its timestamp, its time of P2, and the ticks of its timestamp
pub record WaitingRead : Type 0 where
  pub class : ℕ
  pub ts : ℕ
  pub p2 : ℕ
  pub ticks : ℕ

-- its times are those of a Start: the time of P2 is the last one before its ticks
pub record IsStamped (r : WaitingRead) : Type 0 where
  pub least : 64 * r.ticks ≤ r.ts
  pub most : r.ts < 64 * r.ticks + 63
  pub before : r.p2 + 1 ≡ 64 * r.ticks

-- a timestamp, as a WRITE has it: no module has the number 63
pub record IsTimestamp (t : ℕ) : Type 0 where
  pub ticks : ℕ
  pub number : ℕ
  pub is : t ≡ 64 * ticks + number
  pub small : number < 63

-- the time up to which a READ waits
abbrev pub wait_time : Bool → WaitingRead → ℕ
wait_time true r = r.ts
wait_time false r = r.p2

-- The READ waits on a class because of another READ that waits: an earlier one of that class, or one that holds back a
-- write of that class which it waits for.
pub data WaitsOn (G : WaitGraph) (W : WaitingRead → Type 0) (r : WaitingRead) : Type 0 where
  reader : (n : ℕ) (d : WaitDiagonal) → IsDiagonal G n d → d.reader ≡ r.class
      → (q : WaitingRead) → W q → q.class ≡ d.writer → q.ts < wait_time d.own r
      → WaitsOn G W r
  holder : (n : ℕ) (d : WaitDiagonal) → IsDiagonal G n d → d.reader ≡ r.class
      → (q : WaitingRead) → W q
      → (m : ℕ) (e : WaitDiagonal) → IsDiagonal G m e → e.reader ≡ q.class → e.writer ≡ d.writer
      → (t : ℕ) → IsTimestamp t → wait_time e.own q ≤ t → t < wait_time d.own r
      → WaitsOn G W r
