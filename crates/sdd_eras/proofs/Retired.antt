-- Classes that retire keep the rules.
use Rattle.sdd_eras.proofs.All.{CatRule, Catalogue, ClassPart, DuplicateName, IsSoundCatalogue, IsValid, List, MAX_CLASSES, MAX_READS, Parts, Text, TooMany, UnknownName, [], ap, arith, both_empty, catalogue_of, class_of, class_rules, drop, emptied, emptied_part, empty_of_map, faults_at, faults_of_class, found_from, found_in, has_name, is_from_1_to, length, length-map, map, map-append, nat_le, nat_lt, no_faults, not, parts_of, read_rules, refl, retired, retired_parts, suc, take, when, with_classes, write_rules, zero, ℕ, ◌++◌, ◌+◌, ◌∙◌, ◌∷◌, ◌≡◌}
use Rattle.sdd_eras.proofs.Extended.{faults_of_classes}
use Rattle.sdd_lang.specs.catalog.declared.fault.Part.TheVariants.{Class}
use Rattle.sdd_lang.specs.catalog.declared.fault.Counted.TheVariants as counted

abbrev names_of : List ClassPart → List Text
names_of classes = map (λ c. c.name) classes

-- the rules on a class, by how many classes stand before it and by their names
abbrev rules_behind : Parts → ℕ → List Text → ClassPart → List CatRule
rules_behind parts count names c =
    when (nat_le MAX_CLASSES count) (TooMany counted.Class)
    ++ when (has_name names c.name) DuplicateName
    ++ when (not (is_from_1_to parts.tms c.tm)) UnknownName
    ++ when (nat_lt MAX_READS (length c.reads)) (TooMany counted.Read)
    ++ found_in (read_rules parts) c.reads
    ++ found_in (write_rules parts) c.writes

-- after classes of the same names the same rules are broken
pub same_rules : (parts : Parts) (before earlier : List ClassPart) (c : ClassPart) → names_of before ≡ names_of earlier
    → class_rules parts earlier c ≡ class_rules parts before c
same_rules parts before earlier c same = grind (arith, length-map, rules_behind, names_of)

-- of six lists that are empty together the first three are
pub three_of_six : {A : Type 0} (a b c d e f : List A) → a ++ b ++ c ++ d ++ e ++ f ≡ [] → a ++ b ++ c ≡ []
three_of_six a b c d e f none = grind (arith, both_empty)

-- an emptied class breaks no rule that the class doesn't break
pub emptied_is_fine : (parts : Parts) (before : List ClassPart) (c : ClassPart) → class_rules parts before c ≡ []
    → class_rules parts before (emptied_part c) ≡ []
emptied_is_fine parts before c e = grind (arith, three_of_six, nat_le, names_of)

-- a class that is found fine stays so after classes of the same names
pub fine_behind : (parts : Parts) (before earlier : List ClassPart) (c : ClassPart) → names_of before ≡ names_of earlier
    → faults_of_class parts before c ≡ [] → class_rules parts earlier c ≡ []
fine_behind parts before earlier c same e = same_rules parts before earlier c same ∙ empty_of_map _ _ e

-- no rule broken is no fault
abbrev no_faults_at : (number : ℕ) {rules : List CatRule} → rules ≡ [] → faults_at Class number rules ≡ []
no_faults_at number e = ap (faults_at Class number) e

pub both_are_empty : {A : Type 0} (xs ys : List A) → xs ≡ [] → ys ≡ [] → xs ++ ys ≡ []
both_are_empty xs ys no_x no_y = rw (no_x, no_y) refl

pub one_more : (before earlier : List ClassPart) (c d : ClassPart) → names_of before ≡ names_of earlier → c.name ≡ d.name
    → names_of (before ++ c ∷ []) ≡ names_of (earlier ++ d ∷ [])
one_more before earlier c d same name = grind (arith, map-append, names_of)

-- classes of which the first so many are emptied have no fault where they have none
pub retired_unfound : (parts : Parts) (before earlier : List ClassPart) (n : ℕ) (classes : List ClassPart) → names_of before ≡ names_of earlier
    → found_from (faults_of_class parts) before classes ≡ [] → found_from (faults_of_class parts) earlier (retired_parts n classes) ≡ []
retired_unfound parts before earlier zero [] same e = refl
retired_unfound parts before earlier (suc n) [] same e = refl
retired_unfound parts before earlier zero (c ∷ cs) same e =
    let split = both_empty (faults_of_class parts before c) (found_from (faults_of_class parts) (before ++ c ∷ []) cs) e in
    let rest = retired_unfound parts (before ++ c ∷ []) (earlier ++ c ∷ []) zero cs (one_more before earlier c c same refl) split.1 in
    both_are_empty _ _ (no_faults_at (length earlier + 1) (fine_behind parts before earlier c same split.0)) rest
retired_unfound parts before earlier (suc n) (c ∷ cs) same e =
    let split = both_empty (faults_of_class parts before c) (found_from (faults_of_class parts) (before ++ c ∷ []) cs) e in
    let here : class_rules parts earlier (emptied_part c) ≡ [] = emptied_is_fine parts earlier c (fine_behind parts before earlier c same split.0) in
    let rest = retired_unfound parts (before ++ c ∷ []) (earlier ++ emptied_part c ∷ []) n cs
    (one_more before earlier c (emptied_part c) same refl) split.1 in
    both_are_empty _ _ (no_faults_at (length earlier + 1) here) rest

-- parts of which the first so many classes are emptied keep the rules
pub retired_valid : (parts : Parts) (n : ℕ) → IsValid parts → IsValid (with_classes (retired_parts n parts.classes) parts)
retired_valid parts n valid =
    faults_of_classes parts (retired_parts n parts.classes) valid
    ∙ retired_unfound parts [] [] n parts.classes refl (no_faults parts valid).classes

-- emptied parts are those of emptied classes
pub retired_by_numbers : (names : List Text) (n : ℕ) (classes : List ClassPart)
    → map (class_of names) (retired_parts n classes) ≡ map emptied (take n (map (class_of names) classes)) ++ drop n (map (class_of names) classes)
retired_by_numbers names zero [] = refl
retired_by_numbers names (suc n) (c ∷ cs) = ap (λ rest. emptied (class_of names c) ∷ rest) (retired_by_numbers names n cs)
retired_by_numbers names _ _ = refl

-- the catalogue of the parts whose first so many classes are emptied
pub retired_is : (cat : Catalogue) (n : ℕ) → IsSoundCatalogue cat
    → catalogue_of (with_classes (retired_parts n (parts_of cat).classes) (parts_of cat)) ≡ retired n cat
retired_is cat n sound = grind (arith, retired_by_numbers)

-- a catalogue has as many classes as its parts
pub as_many_parts : (cat : Catalogue) → length (parts_of cat).classes ≡ length cat.classes
as_many_parts cat = length-map cat.classes _
