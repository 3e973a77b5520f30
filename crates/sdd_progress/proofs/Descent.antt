-- No READ waits where each that waits does so because of another one. From one to the next the ticks never rise; where
-- they stay, a write that is held up to a time of P2 cuts off one more class, which happens no more often than there are
-- classes; and otherwise the timestamp falls.
use Rattle.sdd_progress.proofs.AllWaits.{Bool, FitsWaitGraph, IsDiagonal, IsStamped, IsTimestamp, List, NoneWaits, Path, WaitDiagonal, WaitGraph, WaitingRead, WaitsOn, [], ap, arith, cases_Bool, false, go, held, holder, inl, inr, length, reader, refl, stop, subst, suc, sym, true, wait_time, within, zero, ℕ, ◌+◌, ◌<◌, ◌∷◌, ◌≡◌, ◌≤◌}
use Rattle.sdd_progress.proofs.FewClasses.{AreCutOff, none_cut_off, few_cut_off, path_on, cut_off_on, one_more_cut_off}
use Rattle.sdd_progress.proofs.Paths.{no_path}
use Rattle.sdd_progress.specs.WaitGraph.Arc.{waits}

-- what is held from some time on has its ticks at least
held_ticks : (own : Bool) (q : WaitingRead) (t : ℕ) → IsStamped q → (i : IsTimestamp t) → wait_time own q ≤ t → q.ticks ≤ i.ticks
held_ticks own q t f i h = grind arith

module _ (G : WaitGraph) (fits : FitsWaitGraph G) (W : WaitingRead → Type 0)
    (stamped : (r : WaitingRead) → W r → IsStamped r) (waits_on : (r : WaitingRead) → W r → WaitsOn G W r)
  where
    -- arcs lead to the class on which a READ waits up to its own timestamp
    out : (r : WaitingRead) (n : ℕ) (d : WaitDiagonal) → IsDiagonal G n d → d.reader ≡ r.class → d.own ≡ true → Path G (G.read r.class) (G.write d.writer)
    out r n d at e own = go (waits n d at own (ap G.read (sym e)) refl) (stop refl)

    -- and on to a READ of that class, or to one that holds back a write of it
    to_reader : (r q : WaitingRead) (n : ℕ) (d : WaitDiagonal) → IsDiagonal G n d → d.reader ≡ r.class → d.own ≡ true
        → q.class ≡ d.writer → Path G (G.read r.class) (G.read q.class)
    to_reader r q n d at e own class =
        path_on G (G.read r.class) (G.write d.writer) (G.read q.class) (out r n d at e own)
        (go (within d.writer (fits.diagonal n d at).writer refl (ap G.read class)) (stop refl))

    to_holder : (r q : WaitingRead) (n : ℕ) (d : WaitDiagonal) → IsDiagonal G n d → d.reader ≡ r.class → d.own ≡ true
        → (m : ℕ) (h : WaitDiagonal) → IsDiagonal G m h → h.reader ≡ q.class → h.writer ≡ d.writer → Path G (G.read r.class) (G.read q.class)
    to_holder r q n d at e own m h on class writer =
        path_on G (G.read r.class) (G.write d.writer) (G.read q.class) (out r n d at e own)
        (go (held m h on (ap G.write (sym writer)) (ap G.read (sym class))) (stop refl))

    -- among READs of so many ticks at most, where those of fewer are none, and these classes are cut off
    module _ (v : ℕ) (none_below : (q : WaitingRead) → W q → q.ticks < v → ⊥) (classes : List ℕ)
        (with_one_more : (j : ℕ) (q : WaitingRead) → W q → q.ticks ≤ v → AreCutOff G (G.read q.class) (j ∷ classes) → ⊥)
      where
        by_reader : (r q : WaitingRead) → W r → W q → r.ticks ≤ v → AreCutOff G (G.read r.class) classes
            → (q.ts < r.ts → q.ticks ≤ v → AreCutOff G (G.read q.class) classes → ⊥)
            → (n : ℕ) (d : WaitDiagonal) → IsDiagonal G n d → d.reader ≡ r.class → q.class ≡ d.writer → (own : Bool) → d.own ≡ own → q.ts < wait_time own r → ⊥
        by_reader r q w x l cut next n d at e class true own h =
            let f = (stamped r w).most in
            let k = (stamped q x).least in
            next h (omega arith) (cut_off_on G (G.read r.class) (G.read q.class) classes (to_reader r q n d at e own class) cut)
        by_reader r q w x l cut next n d at e class false own h = grind arith

        by_holder : (r q : WaitingRead) → W r → W q → r.ticks ≤ v → AreCutOff G (G.read r.class) classes
            → (q.ts < r.ts → q.ticks ≤ v → AreCutOff G (G.read q.class) classes → ⊥) → (n : ℕ) (d : WaitDiagonal) → IsDiagonal G n d → d.reader ≡ r.class
            → (m : ℕ) (h : WaitDiagonal) → IsDiagonal G m h → h.reader ≡ q.class → h.writer ≡ d.writer
            → (t : ℕ) → IsTimestamp t → (own other : Bool) → d.own ≡ own → h.own ≡ other → wait_time other q ≤ t → t < wait_time own r → ⊥
        by_holder r q w x l cut next n d at e m h on class writer t i false other own u low high =
            let b : i.ticks < r.ticks = (let b = (stamped r w).before in omega arith) in
            none_below q x (omega (arith, held_ticks other q t (stamped q x) i low))
        by_holder r q w x l cut next n d at e m h on class writer t i true true own u low high =
            let a : q.ticks ≤ i.ticks = held_ticks true q t (stamped q x) i low in
            let f = (stamped r w).most in
            let s = i.is in
            next (omega arith) (omega arith) (cut_off_on G (G.read r.class) (G.read q.class) classes (to_holder r q n d at e own m h on class writer) cut)
        by_holder r q w x l cut next n d at e m h on class writer t i true false own u low high =
            let a : q.ticks ≤ i.ticks = held_ticks false q t (stamped q x) i low in
            let f = (stamped r w).most in
            let s = i.is in
            let away : ¬ Path G (G.read q.class) (G.write d.writer) =
            λ y. no_path G fits m h on u
            (subst (λ z. Path G (G.read z) (G.write h.writer)) (sym class) (subst (λ z. Path G (G.read q.class) (G.write z)) (sym writer) y)) in
            with_one_more d.writer q x (omega arith)
            (one_more_cut_off G (G.read r.class) (G.read q.class) d.writer classes cut (out r n d at e own)
            (to_holder r q n d at e own m h on class writer) (record { class = (fits.diagonal n d at).writer; no_path = away }))

        by_time : (n : ℕ) (r : WaitingRead) → W r → r.ts < n → r.ticks ≤ v → AreCutOff G (G.read r.class) classes → ⊥
        by_time zero r w l k cut = absurd (omega arith)
        by_time (suc n) r w l k cut =
            elim (waits_on r w) [
              | reader m d at e q x class high ↦ by_reader r q w x k cut (λ a b c. by_time n q x (omega arith) b c) m d at e class d.own refl high
              | holder m d at e q x p h on class writer t i low high ↦
                  by_holder r q w x k cut (λ a b c. by_time n q x (omega arith) b c) m d at e p h on class writer t i d.own h.own refl refl low high
            ]

    by_classes : (v : ℕ) → ((q : WaitingRead) → W q → q.ticks < v → ⊥) → (n : ℕ) (classes : List ℕ) → G.classes + 1 < n + length classes
        → (r : WaitingRead) → W r → r.ticks ≤ v → AreCutOff G (G.read r.class) classes → ⊥
    by_classes v none_below zero classes l r w k cut = let few = few_cut_off G (G.read r.class) classes cut in absurd (omega arith)
    by_classes v none_below (suc n) classes l r w k cut =
        by_time v none_below classes (λ j q x y z. by_classes v none_below n (j ∷ classes) (omega arith) q x y z) (suc r.ts) r w (omega arith) k cut

    by_ticks : (v : ℕ) (r : WaitingRead) → W r → r.ticks < v → ⊥
    by_ticks zero r w l = absurd (omega arith)
    by_ticks (suc v) r w l = by_classes v (by_ticks v) (suc (suc G.classes)) [] (omega arith) r w (omega arith) (none_cut_off G (G.read r.class))

    pub none_waits : (r : WaitingRead) → ¬ W r
    none_waits r w = by_ticks (suc r.ticks) r w (omega arith)

pub tested_none_wait : NoneWaits
tested_none_wait G fits test stamped waits_on r =
    elim (cases_Bool (test r)) [
      | inl w ↦ absurd (none_waits G fits (λ q. test q ≡ true) stamped waits_on r w)
      | inr no_wait ↦ no_wait
    ]
