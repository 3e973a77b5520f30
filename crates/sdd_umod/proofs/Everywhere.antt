-- Undeclared transactions read every fragment somewhere: each one has a copy.
use Rattle.sdd_umod.proofs.All.{AllByRecursion, Bool, Catalogue, DmNo, Fragment, FragmentPart, IsSoundCatalogue, IsThere, List, Parts, Txn, [], ap, arith, at_number, both_empty, catalogue_of, dm_no, each_image, each_unfound, eq-eqb, false, false≢true, find, fragment_at, fragment_from, has_copy, is_some, length, length-map, list_all, list_any, lowest_copy, no_faults, or_left, parts_of, range_with_len, read_set, read_set_there, reads_at, recursion_from_All, refl, relation_names, sound_fragments, subst, suc, sym, true, unbroken, zero, ℕ, ◌+◌, ◌<◌, ◌==◌, ◌∙◌, ◌∷◌, ◌≡◌, ◌≤◌}

-- each fragment has a copy

abbrev IsCopied : Fragment → Type 0
IsCopied f = (length f.copies == 0) ≡ false

copied_from : (relations : List (List ℕ)) (f : FragmentPart) → (length f.copies == 0) ≡ false → IsCopied (fragment_from relations f)
copied_from relations f e = subst (λ n. (n == 0) ≡ false) (sym (length-map f.copies dm_no)) e

all_copied : (cat : Catalogue) → IsSoundCatalogue cat → AllByRecursion IsCopied cat.fragments
all_copied cat sound =
    let parts : Parts = parts_of cat in
    let none = no_faults parts sound.valid in
    let each = each_unfound _ (λ (f : FragmentPart). (length f.copies == 0) ≡ false)
    (λ before f found. (grind (arith, both_empty, unbroken))) [] parts.fragments none.fragments in
    let there : AllByRecursion IsCopied (catalogue_of parts).fragments =
    each_image (fragment_from (relation_names parts.relations)) _ IsCopied (copied_from (relation_names parts.relations)) parts.fragments each in
    subst (λ (c : Catalogue). AllByRecursion IsCopied c.fragments) sound.same there

-- so there is a lowest module with a copy

found_within : (p : ℕ → Bool) (a n d : ℕ) → a ≤ d → d < a + n → p d ≡ true → is_some (find p (range_with_len a n)) ≡ true
found_within p a zero d low high e = absurd (omega arith)
found_within p a (suc n) d low high e = grind (arith, found_within p (a + 1) n d)

found_of : (cat : Catalogue) (f : ℕ) (copies : List DmNo) → (fragment_at cat f).copies ≡ copies → (length copies == 0) ≡ false
    → AllByRecursion (λ (d : DmNo). (1 ≤ d.0) × (d.0 ≤ cat.dms)) copies → is_some (lowest_copy cat f) ≡ true
found_of cat f [] is some within = absurd (false≢true (sym some))
found_of cat f (d ∷ rest) is some within =
    let low : 1 ≤ d.0 = within.0.0 in
    let high : d.0 ≤ cat.dms = within.0.1 in
    found_within (λ dm. has_copy cat dm f) 1 cat.dms d.0 low (omega arith)
    (ap (λ dms. list_any (λ (x : DmNo). x.0 == d.0) dms) is ∙ or_left (d.0 == d.0) (list_any (λ (x : DmNo). x.0 == d.0) rest) (eq-eqb d.0 d.0 refl))

all_somewhere : (cat : Catalogue) (fs : List ℕ) → IsSoundCatalogue cat → AllByRecursion (IsThere cat) fs → list_all (λ f. is_some (reads_at cat 0 f)) fs ≡ true
all_somewhere cat [] sound all = refl
all_somewhere cat (f ∷ fs) sound all = grind (arith, at_number, sound_fragments, all_copied, found_of, recursion_from_All, all_somewhere cat fs sound)

pub reads_all : (cat : Catalogue) (txn : Txn) → IsSoundCatalogue cat → list_all (λ f. is_some (reads_at cat 0 f)) (read_set cat txn) ≡ true
reads_all cat txn sound = all_somewhere cat (read_set cat txn) sound (recursion_from_All (IsThere cat) (read_set cat txn) (read_set_there cat txn))
