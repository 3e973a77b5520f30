-- Members of lists that are made of others.
use Rattle.sdd_laws.proofs.All.{AllByRecursion, Bool, Contains, Contains-here, Contains-later, IsIn, List, Option, Some, [], at_in, filter, filter_map, flat_map, inl, inr, map, subst, sym, true, ◌∷◌, ◌≡◌}
use Rattle.sdd_order.proofs.InOrder.{each}
use Rattle.sdd_links.proofs.Members as order

-- between the two forms of membership

pub is_in : {A : Type 0} (xs : List A) (x : A) → Contains xs x → IsIn x xs
is_in xs x h = subst (λ y. IsIn y xs) h.2 (at_in xs h.0 x h.1)

pub contained : {A : Type 0} (xs : List A) (x : A) → IsIn x xs → Contains xs x
contained [] x h = absurd h
contained (y ∷ xs) x (inl e) = subst (Contains (y ∷ xs)) (sym e) (Contains-here y xs)
contained (y ∷ xs) x (inr h) = Contains-later y xs x (contained xs x h)

-- what all have, a member has
pub each_has : {A : Type 0} (P : A → Type 0) (xs : List A) (x : A) → AllByRecursion P xs → Contains xs x → P x
each_has P xs x all h = each P xs all x h

pub all_have : {A : Type 0} (P : A → Type 0) (xs : List A) → ((x : A) → Contains xs x → P x) → AllByRecursion P xs
all_have P [] h = tt
all_have P (y ∷ xs) h = (h y (Contains-here y xs), all_have P xs (λ x rest. h x (Contains-later y xs x rest)))

module _ {A B : Type 0} (f : A → B) where
  pub Contains-map : (xs : List A) (x : A) → Contains xs x → Contains (map f xs) (f x)
  Contains-map = order.Contains-map f

  pub Contains-from_map : (xs : List A) (y : B) → Contains (map f xs) y → (x : A) × Contains xs x × (y ≡ f x)
  Contains-from_map = order.Contains-from_map f

module _ {A : Type 0} (p : A → Bool) where
  pub Contains-filter : (xs : List A) (x : A) → Contains xs x → p x ≡ true → Contains (filter p xs) x
  Contains-filter xs x h passes = order.Contains-filter p xs x passes h

  pub Contains-from_filter : (xs : List A) (x : A) → Contains (filter p xs) x → Contains xs x × (p x ≡ true)
  Contains-from_filter = order.Contains-from_filter p

module _ {A B : Type 0} (g : A → List B) where
  pub Contains-flat_map : (xs : List A) (x : A) (y : B) → Contains xs x → Contains (g x) y → Contains (flat_map g xs) y
  Contains-flat_map = order.Contains-flat_map g

  pub Contains-from_flat_map : (xs : List A) (y : B) → Contains (flat_map g xs) y
      → (x : A) × Contains xs x × Contains (g x) y
  Contains-from_flat_map = order.Contains-from_flat_map g

module _ {A B : Type 0} (g : A → Option B) where
  pub Contains-filter_map : (xs : List A) (x : A) (y : B) → Contains xs x → g x ≡ Some y → Contains (filter_map g xs) y
  Contains-filter_map = order.Contains-filter_map g

  pub Contains-from_filter_map : (xs : List A) (y : B) → Contains (filter_map g xs) y
      → (x : A) × Contains xs x × (g x ≡ Some y)
  Contains-from_filter_map = order.Contains-from_filter_map g
