-- From a closed path of precedence to a tour of crossings; no tour of two crossings goes both ways along one edge.
use Rattle.sdd_acyclic.proofs.All.{Below, Bool, Covers, Edge, Facts, IsDiagonal, IsHorizontal, IsPath, List, Precedes, System, [], arith, by_class, by_seen, by_unseen, by_writes, cases_eq, false, inl, inr, refl, sym, true, ℕ, ◌<◌, ◌∙◌, ◌∷◌, ◌≡◌, ◌≢◌, ◌⊎◌}
use Rattle.sdd_acyclic.proofs.Tours.{Crosses, Crossing, Run, below_on, run_on}
use Rattle.sdd_acyclic.proofs.Tours.Crosses.{write_write, read_write, write_read}

-- the first stands earlier in the class of the second
pub record Earlier {T : Type 0} (S : System T) (x y : T) : Type 0 where
  pub class : S.class x ≡ S.class y
  pub time : S.ts x < S.ts y

-- a crossing leaves the class of x not earlier than x, and comes to the class of y not later than y
pub record CrossesOver {T : Type 0} (S : System T) (graph : List Edge) (x y : T) : Type 0 where
  pub crossing : Crossing S graph
  pub leaves : Below S x crossing.from
  pub comes : Below S crossing.to y

-- a run does so
pub record RunsOver {T : Type 0} (S : System T) (graph : List Edge) (x y : T) : Type 0 where
  pub start : Crossing S graph
  pub rest : List (Crossing S graph)
  pub leaves : Below S x start.from
  pub run : Run S graph start rest y

pub record Tour {T : Type 0} (S : System T) (graph : List Edge) : Type 0 where
  pub start : Crossing S graph
  pub rest : List (Crossing S graph)
  pub closes : Run S graph start rest start.from

-- one edge is one diagonal
same_diagonal : (graph : List Edge) (k i j f i' j' f' : ℕ) → IsDiagonal graph k i j f
    → IsDiagonal graph k i' j' f' → (i ≡ i') × (j ≡ j') × (f ≡ f')
same_diagonal graph k i j f i' j' f' p q = grind arith

-- and no horizontal
not_both : (graph : List Edge) (k i j a b f : ℕ) → IsHorizontal graph k i j → ¬ IsDiagonal graph k a b f
not_both graph k i j a b f e q = grind arith

module _ {T : Type 0} (S : System T) (facts : Facts S) where
  -- within a class what precedes is earlier
  one_class : (x y : T) → Precedes S x y → S.class x ≡ S.class y → S.ts x < S.ts y
  one_class x y h e = grind arith

  -- a writer is not seen by the later reader where a later writer is seen by the earlier reader
  clash : (w w' r r' : T) (f : ℕ) → Below S w w' → Below S r r' → S.Changes w f → S.Reads r f
      → S.Reads r' f → S.Seen w' (S.dm (S.class r) f) r → S.Seen w (S.dm (S.class r') f) r'
  clash w w' r r' f b c a d e s = facts.readers_above w r r' f c d e (facts.writers_below w w' r f b a d s)

  module _ (graph : List Edge) where
    -- one edge is not crossed forth and then back
    both_ways : (x y x' y' : T) (k : ℕ) (a b a' b' : Bool) → S.class x ≢ S.class y → Below S y x'
        → Below S y' x → Crosses S graph x y k a b → ¬ Crosses S graph x' y' k a' b'
    both_ways x y x' y' k _ _ _ _ d p q (write_write l e) (write_write m g) = omega arith
    both_ways x y x' y' k _ _ _ _ d p q (write_write l e) (read_write f' r' w' u' g) = grind (arith, not_both)
    both_ways x y x' y' k _ _ _ _ d p q (write_write l e) (write_read f' w' r' s' g) = grind (arith, not_both)
    both_ways x y x' y' k _ _ _ _ d p q (read_write f r w u e) (write_write m g) = grind (arith, not_both)
    both_ways x y x' y' k _ _ _ _ d p q (read_write f r w u e) (read_write f' r' w' u' g) = grind (arith, same_diagonal)
    both_ways x y x' y' k _ _ _ _ d p q (read_write f r w u e) (write_read f' w' r' s' g) = grind (arith, same_diagonal, clash)
    both_ways x y x' y' k _ _ _ _ d p q (write_read f w r s e) (write_write m g) = grind (arith, not_both)
    both_ways x y x' y' k _ _ _ _ d p q (write_read f w r s e) (read_write f' r' w' u' g) = grind (arith, same_diagonal, clash)
    both_ways x y x' y' k _ _ _ _ d p q (write_read f w r s e) (write_read f' w' r' s' g) = grind (arith, same_diagonal)

    -- two crossings that close a tour go along different edges
    pub two_edges : (k l : Crossing S graph) → Run S graph k (l ∷ []) k.from → k.edge ≢ l.edge
    two_edges k l r e = grind (arith, both_ways)

    module _ (covers : Covers S graph) where
      same : (x y : T) → x ≡ y → Below S x y
      same x y e = grind arith

      over : (x y : T) → S.name x ≢ S.name y → S.class x ≢ S.class y → (k : ℕ) (a b : Bool) → Crosses S graph x y k a b
          → CrossesOver S graph x y
      over x y n d k a b c =
          let crossing : Crossing S graph = record { from = x; to = y; other = n; apart = d; edge = k; out = a; into = b; crosses = c } in
          record { crossing = crossing; leaves = same x x refl; comes = same y y refl }

      -- between classes there is a crossing
      crossing : (x y : T) → Precedes S x y → S.class x ≢ S.class y → CrossesOver S graph x y
      crossing x y (by_class n c l) d = absurd (d c)
      crossing x y (by_writes n f a b l) d =
          let h = covers.horizontal x y f d a b in
          over x y n d h.0 false false (write_write l h.1)
      crossing x y (by_unseen n f a b u) d =
          let h = covers.diagonal x y f d a b in
          over x y n d h.0 true false (read_write f a b u h.1)
      crossing x y (by_seen n f a b s) d =
          let h = covers.diagonal y x f (λ e. d (sym e)) b a in
          over x y n d h.0 false true (write_read f a b s h.1)

      -- each step stays in a class or crosses over
      step : (x y : T) → Precedes S x y → Earlier S x y ⊎ CrossesOver S graph x y
      step x y p = elim (cases_eq (S.class x) (S.class y)) [
        | inl e ↦ inl (record { class = e; time = one_class x y p e })
        | inr n ↦ inr (crossing x y p n)
      ]

      below : (x y : T) → Earlier S x y → Below S x y
      below x y e = record { class = e.class; time = let t = e.time in omega arith }

      -- and so does a path
      along : (x : T) (m : List T) (y : T) → IsPath (Precedes S) x m y → Earlier S x y ⊎ RunsOver S graph x y
      along x [] y p =
          elim (step x y p) [
            | inl e ↦ inl e
            | inr c ↦ inr (record { start = c.crossing; rest = []; leaves = c.leaves; run = c.comes })
          ]
      along x (z ∷ m) y p =
          elim (step x z p.0) [
            | inl e ↦ elim (along z m y p.1) [
              | inl g ↦ inl (record { class = e.class ∙ g.class; time = omega arith })
              | inr r ↦ inr (record {
                start = r.start;
                rest = r.rest;
                leaves = below_on S x z r.start.from (below x z e) r.leaves;
                run = r.run;
              })
            ]
            | inr c ↦ elim (along z m y p.1) [
              | inl g ↦ inr (record {
                start = c.crossing;
                rest = [];
                leaves = c.leaves;
                run = below_on S c.crossing.to z y c.comes (below z y g);
              })
              | inr r ↦ inr (record {
                start = c.crossing;
                rest = r.start ∷ r.rest;
                leaves = c.leaves;
                run = (below_on S c.crossing.to z r.start.from c.comes r.leaves, r.run);
              })
            ]
          ]

      -- a path that leads back makes a tour
      pub tour : (x : T) (m : List T) → IsPath (Precedes S) x m x → Tour S graph
      tour x m p =
          elim (along x m x p) [
            | inl e ↦ absurd (omega arith)
            | inr r ↦ record {
              start = r.start;
              rest = r.rest;
              closes = run_on S graph r.start r.rest x r.start.from r.run r.leaves;
            }
          ]
