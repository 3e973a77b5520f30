-- That the protocols are those of blocks is needed: with others two READs wait on one another.
use Rattle.sdd_progress.proofs.AllWaits.{IsStamped, IsTimestamp, WaitDiagonal, WaitGraph, WaitingRead, WaitsOn, [], arith, false, holder, inl, inr, reader, refl, subst, sym, true, ℕ, ◌*◌, ◌+◌, ◌∷◌, ◌≡◌, ◌⊎◌}

abbrev diagonal : ℕ → ℕ → ℕ → WaitDiagonal
diagonal i j k = record { reader = i; writer = j; edge = k; own = true }

-- class 1 follows P3 toward class 2, and class 3 does so toward class 1, but P2 toward class 2
abbrev graph : WaitGraph
graph =
    record {
      edges = [];
      blocks = [];
      classes = 3;
      read = λ i. 2 * i;
      write = λ i. 2 * i + 1;
      vertical = λ i. i;
      diagonals = diagonal 1 2 0 ∷ record { reader = 3; writer = 2; edge = 1; own = false } ∷ diagonal 3 1 2 ∷ [];
    }

abbrev first : WaitingRead
first = record { class = 1; ts = 66; p2 = 63; ticks = 1 }

abbrev last : WaitingRead
last = record { class = 3; ts = 67; p2 = 63; ticks = 1 }

abbrev Either : WaitingRead → Type 0
Either r = (r ≡ first) ⊎ (r ≡ last)

-- the WRITE of class 2 that the READ of class 3 holds back
write : IsTimestamp 65
write = record { ticks = 1; number = 1; is = refl; small = omega arith }

pub both_stamped : (r : WaitingRead) → Either r → IsStamped r
both_stamped r h2 = grind arith

pub each_on_other : (r : WaitingRead) → Either r → WaitsOn graph Either r
each_on_other r (inl e) =
    subst (WaitsOn graph Either) (sym e) (holder 0 (diagonal 1 2 0) refl refl last (inr refl) 1 _ refl refl refl 65 write (omega arith) (omega arith))
each_on_other r (inr e) = subst (WaitsOn graph Either) (sym e) (reader 2 (diagonal 3 1 2) refl refl first (inl refl) refl (omega arith))
