-- The facts of committed transactions, from the laws of their places.
use Rattle.sdd_acyclic.proofs.All.{Applies, Below, Deeds, Facts, HasBarriers, IsHigh, IsLow, IsSeen, Precedes, Starts, Touches, Txn, ZeroAlone, ap, arith, cases_eq, cases_lt, inl, inr, nat_tests, rules, subst, sym, system, ℕ, ◌<◌, ◌∙◌, ◌≡◌, ◌≢◌, ◌≤◌, ◌⊎◌}

module _ {K : Type 0} (D : Deeds K) (starts : Starts D) (applies : Applies D) where
  -- of two of one class with different times the earlier is committed before the later starts
  one_after_other : (x y : Txn D) → D.class x.no ≡ D.class y.no → D.ts x.no < D.ts y.no → D.commit x.no < D.start y.no
  one_after_other x y c l =
      elim (cases_lt (D.submit x.no) (D.submit y.no)) [
        | inl s ↦ starts.in_turn x y c s
        | inr s ↦ elim (cases_eq (D.submit x.no) (D.submit y.no)) [
          | inl e ↦ let t : D.ts x.no ≡ D.ts y.no = ap (λ z. D.ts z)
              (starts.same x y (starts.one_submit x y e)) in absurd (omega arith)
          | inr n ↦ grind (arith, nat_tests)
        ]
      ]

  -- the place of an answer, wherever it is met
  pub answer_at : (x : Txn D) (f p : ℕ) → D.Reads x.no f → D.Answered x.no (D.dm (D.class x.no) f) p → p < D.commit x.no
  answer_at x f p r a = grind arith

  touches : (x y : Txn D) (f : ℕ) → D.Changes x.no f → D.Reads y.no f → Touches D x.no (D.dm (D.class y.no) f)
  touches x y f c r = record { fragment = f; changes = c; copy = starts.copied y f r }

  -- equal times, one transaction
  equal : (x y : Txn D) → D.ts x.no ≤ D.ts y.no → (D.ts x.no < D.ts y.no) ⊎ (x.no ≡ y.no)
  equal x y l = elim (cases_lt (D.ts x.no) (D.ts y.no)) [
    | inl h ↦ inl h
    | inr h ↦ inr (starts.same x y (starts.one_time x y (omega arith)))
  ]

  own_earlier : (x y : Txn D) (f : ℕ) → D.class x.no ≡ D.class y.no → D.ts x.no < D.ts y.no
      → D.Changes x.no f → D.Reads y.no f → IsSeen D x.no (D.dm (D.class y.no) f) y.no
  own_earlier x y f c l w r = grind arith

  own_later : (x y : Txn D) (f : ℕ) → D.class x.no ≡ D.class y.no → D.ts y.no ≤ D.ts x.no
      → D.Reads y.no f → ¬ IsSeen D x.no (D.dm (D.class y.no) f) y.no
  own_later x y f c l r s = grind (arith, equal)

  writers_below : (x x' y : Txn D) (f : ℕ) → Below (system D) x x' → D.Changes x.no f
      → D.Reads y.no f → IsSeen D x'.no (D.dm (D.class y.no) f) y.no → IsSeen D x.no (D.dm (D.class y.no) f) y.no
  writers_below x x' y f b w r s =
      elim (equal x x' b.time) [
        | inl l ↦
            grind (arith, nat_tests, applies.in_order x x' (D.dm (D.class y.no) f) s.applied.place b.class l (touches x y f w r) s.applied.applied)
        | inr e ↦ subst (λ z. IsSeen D z (D.dm (D.class y.no) f) y.no) (sym e) s
      ]

  readers_above : (x y y' : Txn D) (f : ℕ) → Below (system D) y y' → D.Reads y.no f
      → D.Reads y'.no f → IsSeen D x.no (D.dm (D.class y.no) f) y.no → IsSeen D x.no (D.dm (D.class y'.no) f) y'.no
  readers_above x y y' f b r r' s = grind (arith, equal, one_after_other)

  pub facts : Facts (system D)
  facts = search (rules, own_earlier, own_later, writers_below, readers_above)

  -- within a declared class the bounds rise with the times
  pub bounds_rise : (x y : Txn D) → D.class x.no ≡ D.class y.no → 1 ≤ D.class x.no
      → D.ts x.no ≤ D.ts y.no → D.p2 x.no ≤ D.p2 y.no
  bounds_rise x y c l t = grind (arith, equal)

  module _ (zero : ZeroAlone D) where
    -- and sees the first where this changes what it reads
    high_sees : (u x y : Txn D) (f : ℕ) → D.class u.no ≡ 0 → D.name y.no ≢ D.name x.no
        → D.Reads y.no f → D.Changes x.no f → (x.no ≡ u.no) ⊎ IsLow D x.no u.no
        → (u.no ≡ y.no) ⊎ IsHigh D y.no u.no → IsSeen D x.no (D.dm (D.class y.no) f) y.no
    high_sees u x y f c n r w (inl e) (inl g) = absurd (n (ap (λ z. D.name z) (sym g ∙ sym e)))
    high_sees u x y f c n r w (inr h) (inl g) = search rules
    high_sees u x y f c n r w (inl e) (inr h) = search rules
    high_sees u x y f c n r w (inr l) (inr h) =
        let d = D.dm (D.class y.no) f in
        let copy = starts.copied y f r in
        let a = starts.answered y f r in
        let own = h.applies d f copy in
        let after = applies.apply_after u d own.place own.applied in
        let mid = zero.everywhere u d f c copy in
        let first = l.applies d f mid.place (inl (touches x y f w r)) mid.answered in
        grind arith

    barrier : (u x y : Txn D) → D.class u.no ≡ 0 → D.ts x.no ≤ D.ts u.no → D.ts u.no ≤ D.ts y.no
        → ¬ Precedes (system D) y x
    barrier u x y c l h e = search (rules, high_sees)

    pub barriers : HasBarriers (system D)
    barriers = record { barrier = barrier }
