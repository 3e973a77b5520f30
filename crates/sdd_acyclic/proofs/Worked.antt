-- A system that meets the hypotheses, whatever the blocks: a writer of class 2 at time 5, which a reader of class 1
-- at time 10, with the bound 8, has seen, so that it precedes the reader.
use Rattle.sdd_acyclic.proofs.All.{Bool, Covers, Diagonal, Edge, Facts, IsDiagonal, IsVertical, List, Precedes, System, Vertical, Waits, [], ap, arith, by_seen, class_no, cond, false, frag_no, refl, sym, true, ℕ, ◌-◌, ◌<◌, ◌∙◌, ◌∷◌, ◌≡◌, ◌≢◌, ◌≤◌}

abbrev two : System Bool
two =
    record {
      name = λ x. cond x 0 1;
      class = λ x. cond x 1 2;
      ts = λ x. cond x 10 5;
      p2 = λ x. cond x 8 3;
      Reads = λ x f. (x ≡ true) × (f ≡ 1);
      Changes = λ x f. (x ≡ false) × (f ≡ 1);
      dm = λ i f. 1;
      Seen = λ x d y. (x ≡ false) × (y ≡ true);
    }

abbrev graph : List Edge
graph = Vertical (class_no 1) ∷ Vertical (class_no 2) ∷ Diagonal (class_no 1) (class_no 2) (frag_no 1) ∷ []

one_time : (x y : Bool) → two.ts x ≡ two.ts y → two.name x ≡ two.name y
one_time x y e = grind arith

apart : (x y : Bool) → x ≡ false → y ≡ true → two.class x ≢ two.class y
apart x y p q e = cc

rises : (x y : Bool) → two.class x ≡ two.class y → two.p2 x ≤ two.p2 y
rises x y e = grind arith

facts : Facts two
facts = grind arith

vertical : (x : Bool) → IsVertical graph (two.class x - 1) (two.class x)
vertical x = grind arith

diagonal : (x y : Bool) (f : ℕ) → x ≡ true → y ≡ false → f ≡ 1 → IsDiagonal graph 2 (two.class x) (two.class y) f
diagonal x y f p q e = cc

declared : (x : Bool) → 1 ≤ two.class x
declared x = grind arith

covers : Covers two graph
covers =
    record {
      declared = declared;
      vertical = vertical;
      horizontal = λ x y f n a b. absurd (n (ap (λ z. two.class z) (a.0 ∙ sym b.0)));
      diagonal = λ x y f n r w. (2, diagonal x y f r.0 w.0 r.1);
    }

in_time : (x y b : Bool) → x ≡ false → y ≡ true → two.ts x < cond b (two.ts y) (two.p2 y)
in_time x y b p q = grind arith

waits : (blocks : List ℕ) → Waits two graph blocks
waits blocks = grind arith

-- the writer precedes the reader
precedes : Precedes two false true
precedes = by_seen (λ e. absurd (omega arith)) 1 (refl, refl) (refl, refl) (refl, refl)
