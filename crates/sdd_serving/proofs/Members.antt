-- Between the two forms of membership.
use Rattle.sdd_serving.proofs.All.{Contains, Contains-cases, Contains-here, Contains-later, Contains-nil, Has, List, [], inl, inr, subst, sym, ◌∷◌}

pub to_has : {A : Type 0} (xs : List A) (x : A) → Contains xs x → Has xs x
to_has [] x h = Contains-nil x h
to_has (y ∷ xs) x h = elim (Contains-cases y xs x h) as (λ s. Has (y ∷ xs) x) [ inl e ↦ inl (sym e) | inr rest ↦ inr (to_has xs x rest) ]

pub of_has : {A : Type 0} (xs : List A) (x : A) → Has xs x → Contains xs x
of_has [] x h = absurd h
of_has (y ∷ xs) x (inl e) = subst (Contains (y ∷ xs)) e (Contains-here y xs)
of_has (y ∷ xs) x (inr h) = Contains-later y xs x (of_has xs x h)
