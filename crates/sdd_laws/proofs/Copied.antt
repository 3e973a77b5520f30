-- In every catalogue a fragment has a copy, so that class 0 reads it somewhere.
use Rattle.sdd_laws.proofs.All.{AllByRecursion, Catalogue, Contains, Contains-here, Contains-range, DmNo, Fragment, FragmentPart, IsSoundCatalogue, List, Parts, Some, [], arith, at_number, dm_no, each_image, each_unfound, eq-eqb, fragment_at, fragment_from, has_copy, length, length-map, lowest_copy, map, nat_tests, no_faults, numbers_to, parts_of, passes_member, refl, relation_names, sound_fragments, subst, sym, true, ℕ, ◌==◌, ◌∷◌, ◌≡◌, ◌≤◌}
use Rattle.sdd_laws.proofs.Lists.{found_where_any}
use Rattle.sdd_lang.specs.All.{IsPlaced}

abbrev HasCopies : Fragment → Type 0
HasCopies f = 1 ≤ length f.copies

each_copied : (cat : Catalogue) → IsSoundCatalogue cat → AllByRecursion HasCopies cat.fragments
each_copied cat sound =
    let parts : Parts = parts_of cat in
    let each =
    each_unfound _ (λ f. 1 ≤ length f.copies)
    (λ before f found. (grind arith)) [] parts.fragments (no_faults parts sound.valid).fragments in
    let there : AllByRecursion HasCopies (map (fragment_from (relation_names parts.relations)) parts.fragments) =
    each_image (fragment_from (relation_names parts.relations)) (λ (f : FragmentPart). 1 ≤ length f.copies) HasCopies
    (λ f h. subst (λ n. 1 ≤ n) (sym (length-map f.copies dm_no)) h) parts.fragments each in
    subst (λ c. AllByRecursion HasCopies c.fragments) sound.same there

-- the first copy
copy_in : (copies : List DmNo) → 1 ≤ length copies → (d : DmNo) × Contains copies d
copy_in [] l = absurd (omega arith)
copy_in (d ∷ copies) l = (d, Contains-here d copies)

pub some_copy : (cat : Catalogue) → IsSoundCatalogue cat → (f : ℕ) → 1 ≤ f → f ≤ length cat.fragments
    → (d : ℕ) × (lowest_copy cat f ≡ Some d)
some_copy cat sound f from to =
    let part = fragment_at cat f in
    let placed : IsPlaced (length cat.relations) cat.dms part = grind (arith, nat_tests, at_number, sound_fragments) in
    let first = copy_in part.copies (at_number HasCopies cat.fragments f _ (each_copied cat sound) from to) in
    let here = first.1 in
    let within : (1 ≤ first.0.0) × (first.0.0 ≤ cat.dms) = grind (arith, nat_tests) in
    let low = within.0 in
    let high = within.1 in
    let has : has_copy cat first.0.0 f ≡ true =
    passes_member (λ (d : DmNo). d.0 == first.0.0) part.copies first.0 here (eq-eqb first.0.0 first.0.0 refl) in
    found_where_any (λ dm. has_copy cat dm f) (numbers_to cat.dms)
    (passes_member (λ dm. has_copy cat dm f) (numbers_to cat.dms) first.0.0 (Contains-range 1 cat.dms first.0.0 low (omega arith)) has)
