-- The search for an order, number by number.
use Rattle.sdd_short_runs.proofs.All.{BeginsWith, Bool, Catalogue, Change, Contains, Contains-cases, Contains-nil, Database, Effect, HasOrder, List, Txn, [], after_changes, after_effects, ap, arith, changed_by, effect, eq-eqb, false, filter, flat_map, fold-append, inl, inr, length, not, refl, slice_index_or, subst, sym, take, take_more, true, without, ℕ, ◌++◌, ◌+◌, ◌<◌, ◌==◌, ◌∙◌, ◌∷◌, ◌≡◌, ◌≤◌}
use Rattle.std.proofs.lemmas.List.Elements.{Contains-push_cases}

at_most : (p : ℕ → Bool) (xs : List ℕ) → length (filter p xs) ≤ length xs
at_most p [] = omega arith
at_most p (x ∷ xs) = let l = at_most p xs in grind (arith, l)

-- one number less
pub without_less : (xs : List ℕ) (n : ℕ) → Contains xs n → length (without xs n) < length xs
without_less [] n h = absurd (Contains-nil n h)
without_less (x ∷ xs) n h =
    elim (Contains-cases x xs n h) [
      | inl e ↦ (let l = at_most (λ m. not (m == n)) xs in let here = eq-eqb x n (sym e) in grind (arith, l, here))
      | inr later ↦ (let l = without_less xs n later in grind (arith, l))
    ]

-- where none of the first i numbers has it, and the next one hasn't, none of the first i + 1 has it
pub none_more : (P : ℕ → Type 0) (xs : List ℕ) (i : ℕ) → i < length xs → ((n : ℕ) → Contains (take i xs) n → P n → ⊥)
    → (P (slice_index_or xs i 0) → ⊥) → (n : ℕ) → Contains (take (i + 1) xs) n → P n → ⊥
none_more P xs i l before here n h p =
    elim (Contains-push_cases (take i xs) (slice_index_or xs i 0) n (subst (λ z. Contains z n) (take_more xs i 0 l) h)) [
      | inl old ↦ before n old p
      | inr e ↦ here (subst P (sym e) p)
    ]

-- the changes made so far, and behind them those of an effect
pub made_more : (cat : Catalogue) (base : Database) (made more : List Change) (changes : List Change) → changes ≡ made ++ more
    → after_changes cat base changes ≡ after_changes cat (after_changes cat base made) more
made_more cat base made more changes e = ap (after_changes cat base) e ∙ fold-append (changed_by cat) base made more

-- the changes of effects, one after the other
pub made_all : (cat : Catalogue) (db : Database) (effects : List Effect) → after_changes cat db (flat_map (λ (e : Effect). e.changes) effects) ≡ after_effects cat db effects
made_all cat db [] = refl
made_all cat db (e ∷ effects) =
    fold-append (changed_by cat) db e.changes (flat_map (λ (f : Effect). f.changes) effects) ∙ made_all cat (after_changes cat db e.changes) effects

module _ (cat : Catalogue) (txns : ℕ → Txn) (effects : ℕ → Effect) (last db : Database) (left : List ℕ) (n : ℕ) (found : Effect)
    (is : found ≡ effect cat db (txns n)) where
  -- no order begins with a number whose reply is another
  pub other_reply : (b : Bool) → b ≡ false → (found.reply ≡ (effects n).reply → b ≡ true) → BeginsWith cat txns effects last db left n → ⊥
  other_reply b wrong same begins = differ (sym wrong ∙ same (ap (λ (e : Effect). e.reply) is ∙ begins.reply))
    where
      differ : ◌≡◌ {A = Bool} false true → ⊥
      differ e = cc

  -- nor with one after which there is none
  pub no_rest : (after : Database) (rest : List ℕ) (b : Bool) → b ≡ false → after ≡ after_changes cat db found.changes → rest ≡ without left n
      → (HasOrder cat txns effects last after rest → b ≡ true) → BeginsWith cat txns effects last db left n → ⊥
  no_rest after rest b wrong made are has begins =
      differ (sym wrong ∙ has (subst (λ d. HasOrder cat txns effects last d rest) (sym (made ∙ ap (λ (e : Effect). after_changes cat db e.changes) is))
      (subst (HasOrder cat txns effects last (after_changes cat db (effect cat db (txns n)).changes)) (sym are) begins.rest)))
    where
      differ : ◌≡◌ {A = Bool} false true → ⊥
      differ e = cc
