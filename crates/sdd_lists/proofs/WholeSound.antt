-- The catalogue with the classes of all lists of a valid workload is that of its own valid parts, and its names are names.
use Rattle.sdd_lists.proofs.All.{All, All-from_recursion, AllByRecursion, AreNamed, Catalogue, Class, ClassPart, Fragment, IsName, IsNamed, IsSoundCatalogue, IsValid, IsValidClass, List, Parts, Text, Workload, [], ap, arith, catalogue_of, class_of, classes_in, extended, extended_is, faults_of_added_classes, further_are_all, joined, map, numbered, parts_back, parts_of, recursion_from_All, refl, subst, sym, whole, whole_in, with_added_classes, with_classes, ◌++◌, ◌∙◌, ◌∷◌, ◌≡◌}
use Rattle.sdd_lists.proofs.OtherClasses.{whole_over}
use Rattle.sdd_lists.proofs.Steps.{IsExtendedBy, added_is, begins, follows_more, none_broken}
use Rattle.sdd_script.specs.catalog.Rules as rules_of

-- with further classes that break no rule a catalogue is still that of its own valid parts
extended_sound : (cat : Catalogue) (classes : List ClassPart) → IsSoundCatalogue cat → faults_of_added_classes cat classes ≡ []
    → IsSoundCatalogue (with_added_classes classes cat)
extended_sound cat classes sound none =
    let parts : Parts = with_classes ((parts_of cat).classes ++ classes) (parts_of cat) in
    let valid : rules_of.IsValid parts = further_are_all cat classes sound ∙ none in
    let back : parts_of (catalogue_of parts) ≡ parts = parts_back parts (catalogue_of parts) valid refl in
    subst IsSoundCatalogue (extended_is cat classes sound) (record { valid = subst rules_of.IsValid (sym back) valid; same = ap catalogue_of back })

lists_sound : (cat last : Catalogue) (lists : List (List ClassPart)) → IsSoundCatalogue last → IsExtendedBy cat last lists
    → IsSoundCatalogue (whole last (numbered cat lists))
lists_sound cat last [] sound s = sound
lists_sound cat last (first ∷ lists) sound s =
    let next : Catalogue = with_added_classes first last in
    let more = lists_sound cat next lists (extended_sound last first sound (none_broken cat last first lists s))
    (follows_more cat last next first lists s refl) in
    subst (λ (c : Catalogue). IsSoundCatalogue (whole c (numbered cat lists))) (added_is cat last first (ap (λ (c : Catalogue). c.fragments) s.is)) more

pub whole_sound : (cat : Catalogue) (work : Workload) → IsSoundCatalogue cat → IsValid cat work → IsSoundCatalogue (whole_in cat work)
whole_sound cat work sound valid = lists_sound cat cat work.lists sound (begins cat cat work.lists refl valid.lists)

-- names of classes

abbrev HasName : Class → Type 0
HasName c = IsName c.name

both_named : (xs ys : List Class) → AllByRecursion HasName xs → AllByRecursion HasName ys → AllByRecursion HasName (xs ++ ys)
both_named [] ys a b = b
both_named (x ∷ xs) ys a b = (a.0, both_named xs ys a.1 b)

list_named : (cat : Catalogue) (names : List Text) (first : List ClassPart) (rest : List ClassPart)
    → AllByRecursion (IsValidClass cat) (first ++ rest)
    → AllByRecursion HasName (map (class_of names) first) × AllByRecursion (IsValidClass cat) rest
list_named cat names [] rest valid = (tt, valid)
list_named cat names (c ∷ first) rest valid = grind (arith, (list_named cat names first rest valid.1))

lists_named : (cat : Catalogue) (names : List Text) (last : Catalogue) (lists : List (List ClassPart))
    → AllByRecursion HasName last.classes → AllByRecursion (IsValidClass cat) (joined lists)
    → AllByRecursion HasName (whole last (map (map (class_of names)) lists)).classes
lists_named cat names last [] own valid = own
lists_named cat names last (first ∷ lists) own valid =
    let parts = list_named cat names first (joined lists) valid in
    lists_named cat names (extended (map (class_of names) first) last) lists
    (both_named last.classes (map (class_of names) first) own parts.0) parts.1

pub whole_named : (cat : Catalogue) (work : Workload) → AreNamed cat → IsValid cat work → AreNamed (whole_in cat work)
whole_named cat work named valid =
    let other = whole_over cat cat.classes (classes_in cat work) in
    let listed = valid.lists in
    record {
      relations = subst (λ (c : Catalogue). All IsNamed c.relations) (sym other) named.relations;
      fragments = subst (λ (c : Catalogue). All (λ (f : Fragment). IsName f.name) c.fragments) (sym other) named.fragments;
      classes = All-from_recursion HasName (whole_in cat work).classes
          (lists_named cat (map (λ (f : Fragment). f.name) cat.fragments) cat work.lists (recursion_from_All HasName cat.classes named.classes)
          (recursion_from_All (IsValidClass cat) (joined work.lists) listed.classes));
    }
