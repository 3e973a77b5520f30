-- No transaction of class 0 is on a cycle of precedence.
use Rattle.sdd_acyclic.proofs.All.{Declared, HasBarriers, IsOrderly, IsPath, List, Precedes, System, [], arith, cases_lt, declared, inl, inr, path_join, ◌++◌, ◌<◌, ◌∷◌, ◌≡◌, ◌≤◌, ◌⊎◌}
use Rattle.sdd_acyclic.proofs.Over.{precedes_over}

-- a path comes by a transaction of class 0
pub record ComesBy {T : Type 0} (S : System T) (x y : T) : Type 0 where
  pub here : T
  pub first : List T
  pub last : List T
  pub class : S.class here ≡ 0
  pub before : IsPath (Precedes S) x first here
  pub after : IsPath (Precedes S) here last y

module _ {T : Type 0} (S : System T) where
  -- what follows a transaction of class 0 stands above it
  next_above : HasBarriers S → (u y z : T) → S.class u ≡ 0 → S.ts u ≤ S.ts y → Precedes S y z → S.ts u < S.ts z
  next_above h u y z c l p = elim (cases_lt (S.ts u) (S.ts z)) [ inl g ↦ g | inr g ↦ absurd (h.barrier u z y c g l p) ]

  above : HasBarriers S → (u y : T) (m : List T) (z : T) → S.class u ≡ 0 → S.ts u ≤ S.ts y
      → IsPath (Precedes S) y m z → S.ts u < S.ts z
  above h u y [] z c l p = next_above h u y z c l p
  above h u y (x ∷ m) z c l p = let g = next_above h u y x c l p.0 in above h u x m z c (omega arith) p.1

  zero_or_not : (x : T) → (S.class x ≡ 0) ⊎ (1 ≤ S.class x)
  zero_or_not x = elim (cases_lt 0 (S.class x)) [ inl l ↦ inr l | inr l ↦ inl (omega arith) ]

  -- a path between declared transactions comes by one of class 0 or not
  comes_by_or_not : (x : T) (m : List T) (y : T) (p : 1 ≤ S.class x) (q : 1 ≤ S.class y) → IsPath (Precedes S) x m y
      → ComesBy S x y ⊎ ((l : List (Declared S))
      × IsPath (Precedes (declared S)) (record { txn = x; class = p }) l
      (record { txn = y; class = q }))
  comes_by_or_not x [] y p q h =
      inr ([], precedes_over (λ d. d.txn) S (record { txn = x; class = p }) (record { txn = y; class = q }) h)
  comes_by_or_not x (z ∷ m) y p q h =
      elim (zero_or_not z) [
        | inl c ↦ inl (record { here = z; first = []; last = m; class = c; before = h.0; after = h.1 })
        | inr r ↦ elim (comes_by_or_not z m y r q h.1) [
          | inl b ↦ inl (record {
            here = b.here;
            first = z ∷ b.first;
            last = b.last;
            class = b.class;
            before = (h.0, b.before);
            after = b.after;
          })
          | inr l ↦ inr (
            record { txn = z; class = r } ∷ l.0,
            (precedes_over (λ d. d.txn) S (record { txn = x; class = p }) (record { txn = z; class = r }) h.0, l.1),
          )
        ]
      ]

  -- where the declared transactions are orderly and those of class 0 are barriers, all are orderly
  pub orderly_with_barriers : HasBarriers S → IsOrderly (Precedes (declared S)) → IsOrderly (Precedes S)
  orderly_with_barriers h o x m p =
      elim (zero_or_not x) [
        | inl c ↦ let l = above h x x m x c (omega arith) p in absurd (omega arith)
        | inr r ↦ elim (comes_by_or_not x m x r r p) [
          | inl b ↦
              let round = path_join (Precedes S) b.here b.last x b.first b.here b.after b.before in
              absurd (omega (arith, above h b.here b.here (b.last ++ x ∷ b.first) b.here b.class (omega arith) round))
          | inr l ↦ o (record { txn = x; class = r }) l.0 l.1
        ]
      ]
