-- Runs and tours of crossings, and how a tour that comes to a class twice is shortened.
use Rattle.sdd_acyclic.proofs.All.{Below, Bool, Differ, Edge, Has, IsDiagonal, IsHorizontal, List, System, [], arith, cases_eq, cases_lt, false, inl, inr, length, suc, true, zero, ℕ, ◌+◌, ◌<◌, ◌∙◌, ◌∷◌, ◌≡◌, ◌≢◌, ◌⊎◌}

-- the first precedes the second, of another class, along the edge at the place k; it leaves its class at its
-- read node or not, and comes to the other at the read node or not
pub data Crosses {T : Type 0} (S : System T) (graph : List Edge) (x y : T) (k : ℕ) : Bool → Bool → Type 0 where
  write_write : S.ts x < S.ts y → IsHorizontal graph k (S.class x) (S.class y) → Crosses S graph x y k false false
  read_write : (f : ℕ) → S.Reads x f → S.Changes y f → (¬ S.Seen y (S.dm (S.class x) f) x)
      → IsDiagonal graph k (S.class x) (S.class y) f → Crosses S graph x y k true false
  write_read : (f : ℕ) → S.Changes x f → S.Reads y f → S.Seen x (S.dm (S.class y) f) y
      → IsDiagonal graph k (S.class y) (S.class x) f → Crosses S graph x y k false true

pub record Crossing {T : Type 0} (S : System T) (graph : List Edge) : Type 0 where
  pub from : T
  pub to : T
  pub other : S.name from ≢ S.name to
  pub apart : S.class from ≢ S.class to
  pub edge : ℕ
  pub out : Bool
  pub into : Bool
  pub crosses : Crosses S graph from to edge out into

-- each crossing comes to a class not later than the next one leaves it, and the last not later than y
abbrev pub Run : {T : Type 0} (S : System T) (graph : List Edge) → Crossing S graph
    → List (Crossing S graph) → T → Type 0
Run S graph k [] y = Below S k.to y
Run S graph k (l ∷ w) y = Below S k.to l.from × Run S graph l w y

-- the classes that the crossings leave
abbrev pub classes : {T : Type 0} (S : System T) (graph : List Edge) → List (Crossing S graph) → List ℕ
classes S graph [] = []
classes S graph (l ∷ w) = S.class l.from ∷ classes S graph w

-- a run leaves the class c on its way
pub record Leaves {T : Type 0} (S : System T) (graph : List Edge) (k : Crossing S graph)
    (w : List (Crossing S graph)) (y : T) (c : ℕ) : Type 0 where
  pub first : List (Crossing S graph)
  pub here : Crossing S graph
  pub last : List (Crossing S graph)
  pub class : S.class here.from ≡ c
  pub before : Run S graph k first here.from
  pub after : Run S graph here last y
  pub parts : length first + length last < length w

-- a tour of fewer crossings
pub record ShorterTour {T : Type 0} (S : System T) (graph : List Edge) (n : ℕ) : Type 0 where
  pub start : Crossing S graph
  pub rest : List (Crossing S graph)
  pub closes : Run S graph start rest start.from
  pub short : length rest < n

-- a run of fewer crossings
pub record ShorterRun {T : Type 0} (S : System T) (graph : List Edge) (k : Crossing S graph)
    (n : ℕ) (y : T) : Type 0 where
  pub rest : List (Crossing S graph)
  pub run : Run S graph k rest y
  pub short : length rest < n

module _ {T : Type 0} (S : System T) where
  pub below_on : (x y z : T) → Below S x y → Below S y z → Below S x z
  below_on x y z p q = record { class = p.class ∙ q.class; time = omega arith }

  -- of two of one class one is not later
  pub below_or : (x y : T) → S.class x ≡ S.class y → Below S x y ⊎ Below S y x
  below_or x y e = grind (arith, cases_lt)

  module _ (graph : List Edge) where
    pub run_on : (k : Crossing S graph) (w : List (Crossing S graph)) (y z : T) → Run S graph k w y
        → Below S y z → Run S graph k w z
    run_on k [] y z r b = below_on k.to y z r b
    run_on k (l ∷ w) y z r b = (r.0, run_on l w y z r.1 b)

    -- a run leaves a class on its way or not
    leaves_or_not : (c : ℕ) (k : Crossing S graph) (w : List (Crossing S graph)) (y : T)
        → Run S graph k w y → Leaves S graph k w y c ⊎ (¬ Has (classes S graph w) c)
    leaves_or_not c k [] y r = inr (λ h. h)
    leaves_or_not c k (l ∷ w) y r =
        elim (cases_eq (S.class l.from) c) [
          | inl e ↦ inl (record {
            first = [];
            here = l;
            last = w;
            class = e;
            before = r.0;
            after = r.1;
            parts = omega arith;
          })
          | inr n ↦ elim (leaves_or_not c l w y r.1) [
            | inl m ↦ inl (record {
              first = l ∷ m.first;
              here = m.here;
              last = m.last;
              class = m.class;
              before = (r.0, m.before);
              after = m.after;
              parts = omega arith;
            })
            | inr d ↦ inr (λ h. elim h [ inl e ↦ n e | inr p ↦ d p ])
          ]
        ]

    -- a run leaves different classes, or there is a shorter tour, or a shorter run
    repeats : (k : Crossing S graph) (w : List (Crossing S graph)) (y : T) → Run S graph k w y
        → Differ (classes S graph w) ⊎ ShorterTour S graph (length w)
        ⊎ ShorterRun S graph k (length w) y
    repeats k [] y r = inl tt
    repeats k (l ∷ w) y r =
        elim (leaves_or_not (S.class l.from) l w y r.1) [
          | inl m ↦ elim (below_or m.here.from l.from m.class) [
            | inl b ↦ inr (inl (record {
              start = l;
              rest = m.first;
              closes = run_on l m.first m.here.from l.from m.before b;
              short = omega arith;
            }))
            | inr b ↦ inr (inr (record {
              rest = m.here ∷ m.last;
              run = (below_on k.to l.from m.here.from r.0 b, m.after);
              short = omega arith;
            }))
          ]
          | inr n ↦ elim (repeats l w y r.1) [
            | inl d ↦ inl (n, d)
            | inr s ↦ elim s [
              | inl t ↦ inr (inl (record { start = t.start; rest = t.rest; closes = t.closes; short = omega arith }))
              | inr q ↦ inr (inr (record { rest = l ∷ q.rest; run = (r.0, q.run); short = omega arith }))
            ]
          ]
        ]

    -- a tour leaves different classes, or there is a shorter one
    one_shorter : (k : Crossing S graph) (w : List (Crossing S graph)) → Run S graph k w k.from
        → Differ (classes S graph (k ∷ w)) ⊎ ShorterTour S graph (length w)
    one_shorter k w r =
        elim (leaves_or_not (S.class k.from) k w k.from r) [
          | inl m ↦ elim (below_or m.here.from k.from m.class) [
            | inl b ↦ inr (record {
              start = k;
              rest = m.first;
              closes = run_on k m.first m.here.from k.from m.before b;
              short = omega arith;
            })
            | inr b ↦ inr (record {
              start = m.here;
              rest = m.last;
              closes = run_on m.here m.last k.from m.here.from m.after b;
              short = omega arith;
            })
          ]
          | inr n ↦ elim (repeats k w k.from r) [
            | inl d ↦ inl (n, d)
            | inr s ↦ elim s [
              | inl t ↦ inr t
              | inr q ↦ inr (record { start = k; rest = q.rest; closes = q.run; short = q.short })
            ]
          ]
        ]

    -- where no tour leaves different classes there is none
    tour_below : ((k : Crossing S graph) (w : List (Crossing S graph)) → Run S graph k w k.from
        → ¬ Differ (classes S graph (k ∷ w)))
        → (n : ℕ) (k : Crossing S graph) (w : List (Crossing S graph)) → length w < n → ¬ Run S graph k w k.from
    tour_below h zero k w l r = absurd (omega arith)
    tour_below h (suc n) k w l r = grind (arith, one_shorter, (tour_below h n))

    pub no_tour : ((k : Crossing S graph) (w : List (Crossing S graph)) → Run S graph k w k.from
        → ¬ Differ (classes S graph (k ∷ w)))
        → (k : Crossing S graph) (w : List (Crossing S graph)) → ¬ Run S graph k w k.from
    no_tour h k w = tour_below h (suc (length w)) k w (omega arith)
