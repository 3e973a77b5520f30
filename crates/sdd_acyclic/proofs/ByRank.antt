-- A relation under which a rank never falls is orderly where it is so among those of each rank.
use Rattle.sdd_acyclic.proofs.All.{IsOrderly, IsPath, List, Ranked, [], arith, refl, ℕ, ◌∷◌, ◌≡◌, ◌≤◌}

module _ {T : Type 0} (R : T → T → Type 0) (rank : T → ℕ) (rises : (x y : T) → R x y → rank x ≤ rank y) where
  rises_along : (x : T) (m : List T) (y : T) → IsPath R x m y → rank x ≤ rank y
  rises_along x [] y p = rises x y p
  rises_along x (z ∷ m) y p = let one = rises x z p.0 in let rest = rises_along z m y p.1 in omega arith

  -- a path between two of one rank stays in it
  stays : (n : ℕ) (x : T) (m : List T) (y : T) (e : rank x ≡ n) (f : rank y ≡ n) → IsPath R x m y
      → (l : List (Ranked rank n)) × IsPath (λ (a b : Ranked rank n). R a.item b.item)
      (record { item = x; is = e }) l (record { item = y; is = f })
  stays n x [] y e f p = ([], p)
  stays n x (z ∷ m) y e f p =
      let rest = rises_along z m y p.1 in
      let g : rank z ≡ n = omega (arith, rises x z p.0) in
      let r = stays n z m y g f p.1 in
      (record { item = z; is = g } ∷ r.0, (p.0, r.1))

  pub orderly_by_rank : ((n : ℕ) → IsOrderly (λ (a b : Ranked rank n). R a.item b.item)) → IsOrderly R
  orderly_by_rank h x m p =
      let r = stays (rank x) x m x refl refl p in
      h (rank x) (record { item = x; is = refl }) r.0 r.1
