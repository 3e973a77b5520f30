-- No arcs lead from the reader of a P2 diagonal to its writer.
use Rattle.sdd_progress.proofs.AllWaits.{Arc, AreBlocks, FitsWaitGraph, IsDiagonal, JoinedWithout, Joins, List, Neighbours, NoPathToWriter, Path, Some, Step, WaitDiagonal, WaitGraph, [], ap, arith, cases_eq, false, go, held, inl, inr, joins_back, joins_within, last, neighbours_share, refl, slice_get, slice_get-get_or, slice_index, stop, subst, sym, within, ℕ, ◌∙◌, ◌∷◌, ◌≡◌, ◌≢◌, ◌⊎◌}
use Rattle.sdd_progress.specs.WaitGraph.Arc.{waits}

joins_at : (edges : List (ℕ × ℕ)) (k a b x y : ℕ) → x ≡ a → y ≡ b → Joins edges k a b → Joins edges k x y
joins_at edges k a b x y e f j = subst (λ u. Joins edges k u y) (sym e) (subst (λ u. Joins edges k a u) (sym f) j)

-- neighbours have one block number
one_block : (edges : List (ℕ × ℕ)) (blocks : List ℕ) → AreBlocks edges blocks → (j k : ℕ) → Neighbours edges j k
    → slice_index blocks j ≢ 0 → slice_index blocks j ≡ slice_index blocks k
one_block edges blocks are j k h z =
    let at : (i a b : ℕ) → Joins edges i a b → slice_get blocks i ≡ Some (slice_index blocks i) =
    λ i a b p. slice_get-get_or blocks i 0 (let l = joins_within edges i a b p in omega (arith, l, are.one_each)) in
    (are.same j k (slice_index blocks j) (slice_index blocks k) (at j h.node h.one h.first) (at k h.node h.other h.second) z).1
    (last (neighbours_share edges j k h))

-- a path goes on from a node for the last time
pub record Leaves (G : WaitGraph) (a y : ℕ) : Type 0 where
  pub to : ℕ
  pub arc : Arc G a to
  pub rest : JoinedWithout G.edges a to y

module _ (G : WaitGraph) (fits : FitsWaitGraph G) where
  -- an arc lies along an edge
  along : (x y : ℕ) → Arc G x y → (k : ℕ) × Joins G.edges k x y
  along x y (waits n d at own e f) = (d.edge, joins_at G.edges d.edge (G.read d.reader) (G.write d.writer) x y e f (fits.diagonal n d at).joins)
  along x y (within j class e f) = grind (arith, joins_at, joins_back)
  along x y (held n d at e f) =
      (d.edge, joins_at G.edges d.edge (G.write d.writer) (G.read d.reader) x y e f (joins_back G.edges d.edge (G.read d.reader) (G.write d.writer) (fits.diagonal n d at).joins))

  -- a path from x to y avoids a node, or leaves it for the last time
  leaves : (a x y : ℕ) → Path G x y → a ≢ y → JoinedWithout G.edges a x y ⊎ Leaves G a y
  leaves a x y (stop e) apart = inl (record { steps = []; walk = e; avoids = λ h. elim h [ inl p ↦ apart (sym p ∙ e) | inr q ↦ q ] })
  leaves a x y (go {y = z} arc rest) apart =
      elim (leaves a z y rest apart) [
        | inr l ↦ inr l
        | inl j ↦ elim (cases_eq x a) [
          | inl e ↦ inr (record { to = z; arc = subst (λ u. Arc G u z) e arc; rest = j })
          | inr other ↦ (
              let k = along x z arc in
              let s : Step = record { edge = k.0; to = z } in
              inl (record { steps = s ∷ j.steps; walk = (k.1, j.walk); avoids = λ h. elim h [ inl p ↦ other p | inr q ↦ j.avoids q ] }))
        ]
      ]

  -- an arc from the reader of a P2 diagonal is one of P3, which lies in another block: so no walk leads on to the writer
  -- past the reader
  not_by : (n : ℕ) (d : WaitDiagonal) → IsDiagonal G n d → d.own ≡ false → (y : ℕ) → Arc G (G.read d.reader) y
      → ¬ JoinedWithout G.edges (G.read d.reader) y (G.write d.writer)
  not_by n d at other y (waits m e on own a b) j =
      let f = fits.diagonal n d at in
      let g = fits.diagonal m e on in
      let same : d.reader ≡ e.reader = fits.one_reader d.reader e.reader f.reader g.reader a in
      let upright : slice_index G.blocks e.edge ≡ slice_index G.blocks (G.vertical d.reader) =
      g.own own ∙ ap (λ i. slice_index G.blocks (G.vertical i)) (sym same) in
      let first : Joins G.edges e.edge (G.read d.reader) y = joins_at G.edges e.edge (G.read e.reader) (G.write e.writer) (G.read d.reader) y a b g.joins in
      let share : slice_index G.blocks e.edge ≡ slice_index G.blocks d.edge =
      one_block G.edges G.blocks fits.blocks e.edge d.edge
      (grind (arith, slice_index))
      g.in_block in
      f.other other (sym share ∙ upright)
  not_by n d at other y (within i class a b) j = fits.apart d.reader i (fits.diagonal n d at).reader class a
  not_by n d at other y (held m e on a b) j = fits.apart d.reader e.writer (fits.diagonal n d at).reader (fits.diagonal m e on).writer a

  pub no_path : (n : ℕ) (d : WaitDiagonal) → IsDiagonal G n d → d.own ≡ false → ¬ Path G (G.read d.reader) (G.write d.writer)
  no_path n d at other p =
      let f = fits.diagonal n d at in
      elim (leaves (G.read d.reader) (G.read d.reader) (G.write d.writer) p (fits.apart d.reader d.writer f.reader f.writer)) [
        | inl j ↦ j.avoids (inl refl)
        | inr l ↦ not_by n d at other l.to l.arc l.rest
      ]

pub no_path_to_writer : NoPathToWriter
no_path_to_writer = no_path
