-- A relation that is closed by one number after the other has all chains of it, and only these.
use Rattle.sdd_ask.proofs.All.{Relation, WIDTH, and_from, and_parts, ap, arith, cases_eq, closed, inl, inr, or_cases, or_left, or_right, subst, suc, true, zero, ℕ, ◌&&◌, ◌<◌, ◌||◌, ◌∙◌, ◌≡◌, ◌≤◌}

pub data Chain (related : Relation) : ℕ → ℕ → Type 0 where
  link : (i j : ℕ) → related i j ≡ true → Chain related i j
  join : (i k j : ℕ) → Chain related i k → Chain related k j → Chain related i j

module _ (related : Relation) where
  abbrev At : ℕ → ℕ → ℕ → Type 0
  At n i j = closed related n i j ≡ true

  pub closed_chain : (n i j : ℕ) → At n i j → Chain related i j
  closed_chain zero i j e = link i j e
  closed_chain (suc n) i j e =
      elim (or_cases (closed related n i j) (closed related n i n && closed related n n j) e) [
        | inl h ↦ closed_chain n i j h
        | inr h ↦
            let p = and_parts (closed related n i n) (closed related n n j) h in
            join i n j (closed_chain n i n p.0) (closed_chain n n j p.1)
      ]

  pub still_related : (n i j : ℕ) → related i j ≡ true → At n i j
  still_related zero i j e = e
  still_related (suc n) i j e =
      or_left (closed related n i j) (closed related n i n && closed related n n j) (still_related n i j e)

  across : (n i j : ℕ) → At n i n → At n n j → At (suc n) i j
  across n i j a b =
      or_right (closed related n i j) (closed related n i n && closed related n n j)
      (and_from (closed related n i n) (closed related n n j) a b)

  to_last : (n i : ℕ) → At (suc n) i n → At n i n
  to_last n i e =
      elim (or_cases (closed related n i n) (closed related n i n && closed related n n n) e) [
        | inl h ↦ h
        | inr h ↦ (and_parts (closed related n i n) (closed related n n n) h).0
      ]

  from_last : (n j : ℕ) → At (suc n) n j → At n n j
  from_last n j e =
      elim (or_cases (closed related n n j) (closed related n n n && closed related n n j) e) [
        | inl h ↦ h
        | inr h ↦ (and_parts (closed related n n n) (closed related n n j) h).1
      ]

  -- chains through the numbers below n
  pub transitive : (n i m j : ℕ) → m < n → At n i m → At n m j → At n i j
  transitive zero i m j l a b = absurd (omega arith)
  transitive (suc n) i m j l a b =
      elim (cases_eq m n) [
        | inl e ↦
            across n i j (to_last n i (subst (λ z. At (suc n) i z) e a)) (from_last n j (subst (λ z. At (suc n) z j) e b))
        | inr d ↦
            let less : m < n = omega arith in
            elim (or_cases (closed related n i m) (closed related n i n && closed related n n m) a) [
              | inl p ↦ elim (or_cases (closed related n m j) (closed related n m n && closed related n n j) b) [
                | inl q ↦ or_left (closed related n i j) (closed related n i n && closed related n n j) (transitive n i m j less p q)
                | inr q ↦
                    let w = and_parts (closed related n m n) (closed related n n j) q in
                    across n i j (transitive n i m n less p w.0) w.1
              ]
              | inr p ↦
                  let v = and_parts (closed related n i n) (closed related n n m) p in
                  elim (or_cases (closed related n m j) (closed related n m n && closed related n n j) b) [
                    | inl q ↦ across n i j v.0 (transitive n n m j less v.1 q)
                    | inr q ↦ across n i j v.0 (and_parts (closed related n m n) (closed related n n j) q).1
                  ]
            ]
      ]

-- relations that agree below the width stay so
pub closed_agree : (one other : Relation)
    → ((i j : ℕ) → i < WIDTH → j < WIDTH → one i j ≡ other i j)
    → (n i j : ℕ) → n ≤ WIDTH → i < WIDTH → j < WIDTH → closed one n i j ≡ closed other n i j
closed_agree one other same zero i j l a b = same i j a b
closed_agree one other same (suc n) i j l a b =
    let m : n ≤ WIDTH = omega arith in
    let c : n < WIDTH = omega arith in
    ap (λ z. z || (closed one n i n && closed one n n j)) (closed_agree one other same n i j m a b)
    ∙ ap (λ z. closed other n i j || (z && closed one n n j)) (closed_agree one other same n i n m a c)
    ∙ ap (λ z. closed other n i j || (closed other n i n && z)) (closed_agree one other same n n j m c b)
