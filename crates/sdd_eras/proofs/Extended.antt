-- Classes after those that are there.
use Rattle.sdd_eras.proofs.All.{Catalogue, ClassPart, IsSoundCatalogue, IsValid, List, Parts, [], ap, append-nil, append_assoc, arith, catalogue_of, faults_of_added_classes, faults_of_class, found_from, found_in, map-append, map-map, no_faults, parts_of, refl, sym, with_added_classes, with_classes, ◌++◌, ◌∙◌, ◌∷◌, ◌≡◌}
use Rattle.sdd_lang.specs.catalog.Rules.{faults_of}

-- what is found in two lists joined
pub found_in_both : {A B : Type 0} (f : List A → A → List B) (before xs ys : List A)
    → found_from f before (xs ++ ys) ≡ found_from f before xs ++ found_from f (before ++ xs) ys
found_in_both f before [] ys = ap (λ b. found_from f b ys) (sym (append-nil before))
found_in_both f before (x ∷ xs) ys = grind (arith, append_assoc, (found_in_both f (before ++ x ∷ []) xs ys))

-- of five lists joined the last is left where the others are empty
pub last_of_five : {A : Type 0} (a b c d e : List A) → a ≡ [] → b ≡ [] → c ≡ [] → d ≡ [] → a ++ b ++ c ++ d ++ e ≡ e
last_of_five a b c d e no_a no_b no_c no_d = rw (no_a, no_b, no_c, no_d) refl

-- the faults of valid parts with other classes are those of the classes
pub faults_of_classes : (parts : Parts) (classes : List ClassPart) → IsValid parts
    → faults_of (with_classes classes parts) ≡ found_in (faults_of_class parts) classes
unfolding faults_of
faults_of_classes parts classes valid = grind (arith, no_faults, last_of_five)

-- with further classes they are those of these
pub further_are_all : (cat : Catalogue) (classes : List ClassPart) → IsSoundCatalogue cat
    → faults_of (with_classes ((parts_of cat).classes ++ classes) (parts_of cat)) ≡ faults_of_added_classes cat classes
further_are_all cat classes sound =
    let parts : Parts = parts_of cat in
    faults_of_classes parts (parts.classes ++ classes) sound.valid
    ∙ found_in_both (faults_of_class parts) [] parts.classes classes
    ∙ ap (λ own. own ++ (found_from (faults_of_class parts) parts.classes classes)) (no_faults parts sound.valid).classes

-- the catalogue of the parts with further classes
pub extended_is : (cat : Catalogue) (classes : List ClassPart) → IsSoundCatalogue cat
    → catalogue_of (with_classes ((parts_of cat).classes ++ classes) (parts_of cat)) ≡ with_added_classes classes cat
extended_is cat classes sound = grind (arith, map-append, map-map)
