-- Orders, by their first number and the rest.
use Rattle.sdd_short_runs.proofs.All.{BeginsWith, without, Catalogue, Contains, Contains-cases, Contains-filter, Contains-from_filter, Contains-here, Contains-later, Contains-nil, Database, Effect, Explains, HasOrder, IsOrderOf, List, Txn, [], ap, arith, eq-eqb, inl, inr, ne_eqb, not, refl, sym, true, ℕ, ◌==◌, ◌∷◌, ◌≡◌}

head_is : {A : Type 0} (x y : A) (xs ys : List A) → x ∷ xs ≡ y ∷ ys → x ≡ y
head_is x y xs ys e = cc

tail_is : {A : Type 0} (x y : A) (xs ys : List A) → x ∷ xs ≡ y ∷ ys → xs ≡ ys
tail_is x y xs ys e = cc

-- what is left of an order without its first number
rest_of : (numbers : List ℕ) (n : ℕ) (rest : List ℕ) → IsOrderOf numbers (n ∷ rest) → IsOrderOf (without numbers n) rest
rest_of numbers n rest is =
    record {
      same = λ m. (
        (λ h.
            let k = Contains-from_filter (λ (x : ℕ). not (x == n)) numbers m h in
            elim (Contains-cases n rest m ((is.same m).0 k.0)) [
              | inl e ↦ absurd (differ m n e k.1)
              | inr later ↦ later
            ]),
        (λ h.
            Contains-filter (λ (x : ℕ). not (x == n)) numbers m (ap not (ne_eqb m n (is.once.0 m h)))
            ((is.same m).1 (Contains-later n rest m h))),
      );
      once = is.once.1;
    }
  where
    differ : (m k : ℕ) → m ≡ k → not (m == k) ≡ true → ⊥
    differ m k e passes = grind (arith, eq-eqb)

module _ (cat : Catalogue) (txns : ℕ → Txn) (effects : ℕ → Effect) (last db : Database) where
  -- with no number left the database is the last one
  pub none_left : HasOrder cat txns effects last db [] → last ≡ db
  none_left has = by has.order has.of has.explains
    where
      by : (order : List ℕ) → IsOrderOf [] order → Explains cat txns effects last db order → last ≡ db
      by [] of explains = sym explains.rows
      by (n ∷ rest) of explains = absurd (Contains-nil n ((of.same n).1 (Contains-here n rest)))

  -- and else some number is the first
  pub first_of : (numbers : List ℕ) → (numbers ≡ [] → ⊥) → HasOrder cat txns effects last db numbers → (n : ℕ) × BeginsWith cat txns effects last db numbers n
  first_of numbers some has = by has.order has.of has.explains
    where
      none_there : (xs : List ℕ) → ((n : ℕ) → Contains xs n → Contains [] n) → xs ≡ []
      none_there [] within = refl
      none_there (x ∷ xs) within = absurd (Contains-nil x (within x (Contains-here x xs)))

      by : (order : List ℕ) → IsOrderOf numbers order → Explains cat txns effects last db order → (n : ℕ) × BeginsWith cat txns effects last db numbers n
      by [] of explains = absurd (some (none_there numbers (λ n. (of.same n).0)))
      by (n ∷ rest) of explains = (
        n,
        record {
          there = (of.same n).1 (Contains-here n rest);
          reply = head_is _ _ _ _ explains.replies;
          rest = record {
            order = rest;
            of = rest_of numbers n rest of;
            explains = record { replies = tail_is _ _ _ _ explains.replies; rows = explains.rows };
          };
        },
      )
