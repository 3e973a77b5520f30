-- Which pipes a network has: those of each data module and each class.
use Rattle.std.proofs.Common.{arith, inl, inr, refl, subst}
use Rattle.std.specs.Prelude.{ℕ, suc, ◌≡◌, ◌≤◌, List, [], ◌∷◌, flat_map, length, slice_get, Some}
use Rattle.sdd_app_inside.proofs.watch.obligations.Submitting.{le_true}
use Rattle.sdd_app_inside.proofs.watch.obligations.invariants.Lists.{in_either, in_range}
use Rattle.sdd_app_inside.proofs.watch.obligations.tm.Lists.{of_map as in_mapped}
use Rattle.sdd_app_inside.specs.watch.obligations.All.{D, Input, IsSiteOf, dm_no, numbers_to, setting_of}
use Rattle.sdd_app_inside.specs.watch.obligations.dm.Copies.{classes_of}
use Rattle.sdd_app_inside.specs.watch.moments.Moments.{all_pipes, pipes_at_module}
use Rattle.sdd_app_inside.proofs.watch.moments.PipesVisited.{IsPipeOf}

pub at_flat : {A B : Type 0} (f : A → List B) (Q : B → Type 0) (xs : List A)
    → ((k : ℕ) (x : A) → slice_get xs k ≡ Some x → (j : ℕ) (y : B) → slice_get (f x) j ≡ Some y → Q y)
    → (i : ℕ) (y : B) → slice_get (flat_map f xs) i ≡ Some y → Q y
at_flat f Q [] h i y e = cc
at_flat f Q (x ∷ xs) h i y e = elim (in_either (f x) (flat_map f xs) i y e) [
  | inl p ↦ h 0 x refl i y p
  | inr p ↦ at_flat f Q xs (λ k z t. h (suc k) z t) p.0 y p.1
]

module_here : (g : Input) (d : ℕ) → 1 ≤ d → d ≤ g.catalogue.dms → IsSiteOf g (D (dm_no d))
module_here g d l m = rw (le_true 1 d l, le_true d g.catalogue.dms m) refl

pub pipe_there : (g : Input) (i : ℕ) (p : ℕ × ℕ) → slice_get (all_pipes g) i ≡ Some p → IsPipeOf g p
pipe_there g =
    at_flat (pipes_at_module g) (IsPipeOf g) (numbers_to g.catalogue.dms) (λ k d e j p q.
    let m = in_range 1 g.catalogue.dms k d e in
    let c = in_mapped (λ (n : ℕ). (d, n)) (classes_of (setting_of g (D (dm_no d)))) j p q in
    let n = in_range 0 (suc (length g.catalogue.classes)) j c.0 c.1 in
    subst (IsPipeOf g) c.2 (record { site = module_here g d m.0 (omega (arith, m.1)); class = omega (arith, n.1) }))
