-- Which modules a committed transaction touches.
use Rattle.sdd_lawful.proofs.All.{AllByRecursion, Bool, Catalogue, Change, Committed, DmNo, Fragment, GoesTo, Input, IsModule, IsPlaced, IsSoundCatalogue, List, Log, Some, Touches, [], any_at, ap, arith, at_number, by_change, by_no_class, changes_at, changes_to, cond, dec_le, dm_no, eqb-true, false, filter, fragment_at, get_or_past, has_copy, inl, inr, length, list_any, or_left, or_right, recursion_from_All, refl, same_number, slice_get, sound_fragments, subst, suc, sym, true, true_or_false, zero, ℕ, ◌-◌, ◌<◌, ◌==◌, ◌∙◌, ◌∷◌, ◌≡◌, ◌⊎◌}
use Rattle.sdd_lawful.proofs.Committed.{IsCommittedIn}

-- a module with a copy is there

copies_there : (cat : Catalogue) → IsSoundCatalogue cat → (f : ℕ) → AllByRecursion (λ (d : DmNo). IsModule cat d.0) (fragment_at cat f).copies
copies_there cat sound f = elim (dec_le (length cat.fragments) (f - 1)) [
  | yes p ↦ subst (λ (x : Fragment). AllByRecursion (λ (d : DmNo). IsModule cat d.0) x.copies) (sym (get_or_past cat.fragments (f - 1) _ p)) tt
  | no p ↦ elim (dec_le 1 f) [
    | yes q ↦ grind (arith, recursion_from_All, fragment_at, at_number, sound_fragments)
    | no q ↦ (let e : f ≡ 0 = omega (arith, q) in
        subst (λ (x : Fragment). AllByRecursion (λ (d : DmNo). IsModule cat d.0) x.copies) (sym (ap (fragment_at cat) e))
        (recursion_from_All _ (fragment_at cat 1).copies
        (at_number (IsPlaced (length cat.relations) cat.dms) cat.fragments 1 _ (sound_fragments cat sound) (omega arith)
        (omega (arith, p))).copies))
  ]
]

each_at : (P : DmNo → Type 0) (xs : List DmNo) (k : ℕ) (x : DmNo) → AllByRecursion P xs → slice_get xs k ≡ Some x → P x
each_at P [] k x h e = cc
each_at P (y ∷ xs) zero x h e = let p : y ≡ x = cc in subst P p h.0
each_at P (y ∷ xs) (suc k) x h e = each_at P xs k x h.1 e

pub copy_module : (cat : Catalogue) → IsSoundCatalogue cat → (d f : ℕ) → has_copy cat d f ≡ true → IsModule cat d
copy_module cat sound d f e = grind (arith, any_at, eqb-true, each_at, copies_there)

pub goes_module : (cat : Catalogue) → IsSoundCatalogue cat → (t : Committed) (d : ℕ) → GoesTo cat t d → IsModule cat d
goes_module cat sound t d e = grind (arith, copy_module)

-- changes of which a module has a copy

pub passing : {A : Type 0} (p : A → Bool) (xs : List A) (k : ℕ) (x : A) → slice_get xs k ≡ Some x → p x ≡ true → 0 < length (filter p xs)
passing p [] k x e f = cc
passing {A = A} p (y ∷ xs) zero x e f = let q : ◌≡◌ {A = A} y x = cc in rw (ap p q ∙ f) (omega arith)
passing p (y ∷ xs) (suc k) x e f = grind (arith, (passing p xs k x e f))

pub some_passes : {A : Type 0} (p : A → Bool) (xs : List A) → 0 < length (filter p xs) → (k : ℕ) × (x : A) × (slice_get xs k ≡ Some x) × (p x ≡ true)
some_passes p [] h = absurd (omega arith)
some_passes p (y ∷ xs) h = elim (true_or_false (p y)) [
  | inl e ↦ (0, y, refl, e)
  | inr e ↦ (let i = some_passes p xs (rw e at h) in (suc i.0, i.1, i.2, i.3))
]

pub any_there : {A : Type 0} (p : A → Bool) (xs : List A) (k : ℕ) (x : A) → slice_get xs k ≡ Some x → p x ≡ true → list_any p xs ≡ true
any_there p [] k x e f = cc
any_there {A = A} p (y ∷ xs) zero x e f = let q : ◌≡◌ {A = A} y x = cc in or_left (p y) (list_any p xs) (ap p q ∙ f)
any_there p (y ∷ xs) (suc k) x e f = or_right (p y) (list_any p xs) (any_there p xs k x e f)

pub touches_some : (g : Input) (log : Log) (t : Committed) (x : IsCommittedIn g log t) (d : ℕ) → Touches g.catalogue t d
    → 0 < length (changes_to g x.bases x.running (dm_no d))
touches_some g log t x d h = grind (arith, any_at, eqb-true, passing, has_copy, list_any)

pub goes_some : (g : Input) (log : Log) (t : Committed) (x : IsCommittedIn g log t) (d : ℕ) → GoesTo g.catalogue t d
    → ((t.start.class == 0) ≡ true) ⊎ (0 < length (changes_to g x.bases x.running (dm_no d)))
goes_some g log t x d (by_change h) = inr (touches_some g log t x d h)
goes_some g log t x d (by_no_class e m) = inl (ap (λ y. y == 0) e)

pub some_goes : (cat : Catalogue) (t : Committed) (xs : List Change) (d : ℕ) → t.changes ≡ xs → IsModule cat d
    → ((t.start.class == 0) ≡ true) ⊎ (0 < length (changes_at cat d xs)) → GoesTo cat t d
some_goes cat t xs d same m h = grind (arith, eqb-true, some_passes, has_copy, any_there, same_number)

pub kept_there : {A : Type 0} (p : A → Bool) (xs : List A) (k : ℕ) (x : A) → slice_get xs k ≡ Some x → p x ≡ true
    → (j : ℕ) × (slice_get (filter p xs) j ≡ Some x)
kept_there p [] k x e f = cc
kept_there {A = A} p (y ∷ xs) zero x e f = let q : ◌≡◌ {A = A} y x = cc in (0, rw (ap p q ∙ f) (ap (λ z. Some z) q))
kept_there {A = A} p (y ∷ xs) (suc k) x e f =
    let i = kept_there p xs k x e f in
    elim (p y) as (λ b. (j : ℕ) × (slice_get (cond b (y ∷ filter p xs) (filter p xs)) j ≡ Some x)) [ true ↦ (suc i.0, i.1) | false ↦ i ]
