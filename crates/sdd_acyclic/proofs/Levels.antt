-- Along the walk of a tour whose edges lie in one block a level rises.
use Rattle.sdd_acyclic.proofs.All.{Below, Bool, Edge, Facts, Has, List, Step, System, Waits, [], arith, cond, edges_of, false, inr, nat_tests, rules, slice_index, sym, true, ℕ, ◌*◌, ◌+◌, ◌-◌, ◌<◌, ◌==◌, ◌∷◌, ◌≡◌, ◌≢◌}
use Rattle.sdd_acyclic.proofs.Tours.{Crosses, Crossing, Run}
use Rattle.sdd_acyclic.proofs.Tours.Crosses.{write_write, read_write, write_read}
use Rattle.sdd_acyclic.proofs.Walks.{turn, stretch, walk}

-- the level of a transaction at the read node of its class, or at its write node: its timestamp, or for a reader
-- that waits up to another time that time, which may be equal to the timestamp of a writer that it does not see
abbrev pub level : {T : Type 0} → System T → List ℕ → ℕ → T → Bool → ℕ
level S blocks n x true = cond (slice_index blocks (S.class x - 1) == n) (2 * S.ts x + 1) (2 * S.p2 x)
level S blocks n x false = 2 * S.ts x + 1

-- the edges that the steps go along lie in the block
abbrev pub LieIn : List ℕ → ℕ → List Step → Type 0
LieIn blocks n steps = (j : ℕ) → Has (edges_of steps) j → slice_index blocks j ≡ n

turn_rest : (blocks : List ℕ) (n c : ℕ) (a b : Bool) (rest : List Step)
    → LieIn blocks n (turn c a b rest) → LieIn blocks n rest
turn_rest blocks n c a b rest h = grind arith

-- not seen: the reader's time is at most the writer's
unseen : (b : Bool) (t s p : ℕ) → t ≢ s → ¬ (s < cond b t p) → cond b (2 * t + 1) (2 * p) < 2 * s + 1
unseen b t s p n h = grind arith

seen : (b : Bool) (t s p : ℕ) → s < cond b t p → 2 * s + 1 < cond b (2 * t + 1) (2 * p)
seen b t s p h = grind arith

module _ {T : Type 0} (S : System T) (graph : List Edge) (blocks : List ℕ) (facts : Facts S)
    (waits : Waits S graph blocks) where
  -- a crossing rises
  crossing_rises : (x y : T) (k : ℕ) (a b : Bool) → Crosses S graph x y k a b → S.name x ≢ S.name y
      → S.class x ≢ S.class y → slice_index blocks k ≢ 0
      → level S blocks (slice_index blocks k) x a < level S blocks (slice_index blocks k) y b
  crossing_rises x y k _ _ (write_write l e) o d z = omega arith
  crossing_rises x y k _ _ (read_write f r w u e) o d z =
      unseen (slice_index blocks (S.class x - 1) == slice_index blocks k) (S.ts x) (S.ts y)
      (S.p2 x) (λ t. o (facts.one_time x y t))
      (λ l. u ((waits.split y x f k d r w e z).1 l))
  crossing_rises x y k _ _ (write_read f w r s e) o d z =
      seen (slice_index blocks (S.class y - 1) == slice_index blocks k) (S.ts y) (S.ts x) (S.p2 y)
      ((waits.split x y f k (λ t. d (sym t)) r w e z).0 s)

  stretch_rises : (n : ℕ) (k l : Crossing S graph) (rest : List Step) → n ≢ 0 → Below S k.to l.from
      → LieIn blocks n (stretch S graph k l rest) → level S blocks n k.from k.out < level S blocks n l.from l.out
  stretch_rises n k l rest z b h = search (rules, crossing_rises)

  stretch_rest : (n : ℕ) (k l : Crossing S graph) (rest : List Step)
      → LieIn blocks n (stretch S graph k l rest) → LieIn blocks n rest
  stretch_rest n k l rest h = turn_rest blocks n (S.class l.from) k.into l.out rest (λ j m. h j (inr m))

  -- so does the walk
  pub walk_rises : (n : ℕ) (k : Crossing S graph) (w : List (Crossing S graph))
      (l : Crossing S graph) → n ≢ 0 → Run S graph k w l.from → LieIn blocks n (walk S graph k w l)
      → level S blocks n k.from k.out < level S blocks n l.from l.out
  walk_rises n k [] l z r h = stretch_rises n k l [] z r h
  walk_rises n k (a ∷ w) l z r h =
      let first : level S blocks n k.from k.out < level S blocks n a.from a.out =
      stretch_rises n k a (walk S graph a w l) z r.0 h in
      grind (arith, nat_tests, level, stretch_rest, walk, (walk_rises n a w l z r.1 (stretch_rest n k a (walk S graph a w l) h)))
