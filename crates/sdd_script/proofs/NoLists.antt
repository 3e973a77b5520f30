-- Events of which none is a `redeclare` stand where they may, whatever the lists.
use Rattle.sdd_script.proofs.All.{All, AllByRecursion, AreTimely, Catalogue, Event, List, Redeclare, Some, [], false, is_redeclare, recursion_from_All, slice_get, subst, suc, zero, ℕ, ◌∷◌, ◌≡◌}
use Rattle.sdd_script.proofs.StepLaws.{some_is}

-- an event that is no `redeclare`, by cases
abbrev pub IsNoRedeclare : Event → Type 0
IsNoRedeclare e = is_redeclare e ≡ false

item_of : {A : Type 0} (P : A → Type 0) (xs : List A) → AllByRecursion P xs → (i : ℕ) (x : A) → slice_get xs i ≡ Some x → P x
item_of P [] h i x e = absurd cc
item_of P (y ∷ xs) h zero x e = subst P (some_is y x e) h.0
item_of P (y ∷ xs) h (suc i) x e = item_of P xs h.1 i x e

pub timely_without : (cat : Catalogue) (lists : ℕ) (es : List Event) → All IsNoRedeclare es → AreTimely cat lists es
timely_without cat lists es h i is = let none : is_redeclare Redeclare ≡ false =
    item_of IsNoRedeclare es (recursion_from_All IsNoRedeclare es h) i Redeclare is in absurd cc
