-- Of the members of a list one is ready: none of them precedes it.
use Rattle.sdd_links.proofs.All.{Contains, Contains-cases, Contains-here, Contains-later, Contains-nil, IsOrderly, IsPath, List, [], arith, inl, inr, refl, rules, subst, sym, ◌++◌, ◌∷◌, ◌≡◌, ◌⊎◌}
use Rattle.sdd_links.proofs.Paths.{path_join}

-- a member that none precedes, and that is s or leads to it
pub record ReadyFor {T : Type 0} (R : T → T → Type 0) (xs : List T) (s : T) : Type 0 where
  pub ready : T
  pub member : Contains xs ready
  pub first : (z : T) → Contains xs z → ¬ R z ready
  pub leads : (ready ≡ s) ⊎ ((m : List T) × IsPath R ready m s)

-- the relation is decided for those that are in it
module _ {T : Type 0} (R : T → T → Type 0) (In : T → Type 0) (decide : (x y : T) → In x → In y → R x y ⊎ (¬ R x y)) (orderly : IsOrderly R) where
  abbrev AllIn : List T → Type 0
  AllIn xs = (x : T) → Contains xs x → In x

  rest_in : (x : T) (xs : List T) → AllIn (x ∷ xs) → AllIn xs
  rest_in x xs all z m = all z (Contains-later x xs z m)

  -- some member precedes x or none does
  some_or_none : (xs : List T) → AllIn xs → (x : T) → In x
      → ((z : T) × Contains xs z × R z x) ⊎ ((z : T) → Contains xs z → ¬ R z x)
  some_or_none [] all x i = inr (λ z h. absurd (Contains-nil z h))
  some_or_none (y ∷ xs) all x i =
      elim (decide y x (all y (Contains-here y xs)) i) [
        | inl r ↦ inl (y, Contains-here y xs, r)
        | inr n ↦ grind (arith, rest_in, Contains-later, Contains-cases, (some_or_none xs (rest_in y xs all) x i))
      ]

  -- on from what x leads to
  leads_on : (x y z : T) → ((x ≡ y) ⊎ ((m : List T) × IsPath R x m y)) → R y z → (m : List T) × IsPath R x m z
  leads_on x y z (inl e) r = ([], subst (λ v. R v z) (sym e) r)
  leads_on x y z (inr p) r = (p.0 ++ y ∷ [], path_join R x p.0 y [] z p.1 r)

  leads_far : (x y z : T) → ((m : List T) × IsPath R x m y) → ((y ≡ z) ⊎ ((m : List T) × IsPath R y m z))
      → (m : List T) × IsPath R x m z
  leads_far x y z p e = search (rules, path_join)

  -- with one member more
  ready_head : (x : T) (xs : List T) → AllIn (x ∷ xs) → ((s : T) → Contains xs s → ReadyFor R xs s) → ReadyFor R (x ∷ xs) x
  ready_head x xs all h =
      elim (some_or_none xs (rest_in x xs all) x (all x (Contains-here x xs))) [
        | inl s ↦
            let y = h s.0 s.1 in
            let path = leads_on y.ready s.0 x y.leads s.2 in
            record {
              ready = y.ready;
              member = Contains-later x xs y.ready y.member;
              first = λ z m. elim (Contains-cases x xs z m) [
                | inl e ↦ λ r. orderly x (y.ready ∷ path.0) (subst (λ v. R v y.ready) e r, path.1)
                | inr k ↦ y.first z k
              ];
              leads = inr path;
            }
        | inr n ↦ record {
          ready = x;
          member = Contains-here x xs;
          first = λ z m. elim (Contains-cases x xs z m) [ inl e ↦ λ r. orderly x [] (subst (λ v. R v x) e r) | inr k ↦ n z k ];
          leads = inl refl;
        }
      ]

  ready_tail : (x : T) (xs : List T) → AllIn (x ∷ xs) → ReadyFor R (x ∷ xs) x → (s : T) → ReadyFor R xs s → ReadyFor R (x ∷ xs) s
  ready_tail x xs all h s y =
      elim (decide x y.ready (all x (Contains-here x xs)) (all y.ready (Contains-later x xs y.ready y.member))) [
        | inl r ↦ record {
          ready = h.ready;
          member = h.member;
          first = h.first;
          leads = inr (leads_far h.ready y.ready s (leads_on h.ready x y.ready h.leads r) y.leads);
        }
        | inr n ↦ grind (arith, Contains-later, Contains-cases)
      ]

  pub ready_for : (xs : List T) → AllIn xs → (s : T) → Contains xs s → ReadyFor R xs s
  ready_for [] all s h = absurd (Contains-nil s h)
  ready_for (x ∷ xs) all s h = grind (arith, rest_in, ready_head, Contains-cases, ReadyFor, ready_tail, (ready_for xs (rest_in x xs all)))
