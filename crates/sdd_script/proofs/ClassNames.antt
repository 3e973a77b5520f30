-- The names of a catalogue's classes: they differ, and they are found by numbers.
use Rattle.sdd_script.proofs.All.{Bool, Catalogue, Class, ClassPart, Fragment, IsSoundCatalogue, List, [], ap, append-nil, append_assoc, arith, both_empty, bytes_eq, class_names, class_part, false, faults_of_class, found_from, get_or, has_name, joined, length, list_any, list_any-append, list_any-map, map, map-append, map-map, name_of_class, no_faults, numbers_to, part_names, parts_of, range_with_len, refl, repeats, subst, suc, sym, tm_no, true, ℕ, ◌++◌, ◌+◌, ◌-◌, ◌<◌, ◌||◌, ◌∙◌, ◌∷◌, ◌≡◌}
use Rattle.sdd_script.proofs.NamePlaces.{none_any, repeats_not}
use Rattle.sdd_lang.specs.All.{Parts}

-- ---- they differ

no_repeats : (parts : Parts) (before xs : List ClassPart) → repeats (part_names before) ≡ false
    → found_from (faults_of_class parts) before xs ≡ [] → repeats (part_names (before ++ xs)) ≡ false
no_repeats parts before [] r e = subst (λ (l : List ClassPart). repeats (part_names l) ≡ false) (sym (append-nil before)) r
no_repeats parts before (c ∷ xs) r e =
    let h = both_empty (faults_of_class parts before c) (found_from (faults_of_class parts) (before ++ c ∷ []) xs) e in
    let other = none_any (bytes_eq c.name) (part_names before) (grind arith) in
    let one : repeats (part_names (before ++ c ∷ [])) ≡ false =
    subst (λ (l : List (List ℕ)). repeats l ≡ false) (sym (map-append (λ (k : ClassPart). k.name) before (c ∷ [])))
    (repeats_not (part_names before) c.name r other) in
    subst (λ (l : List ClassPart). repeats (part_names l) ≡ false) (append_assoc before (c ∷ []) xs) (no_repeats parts (before ++ c ∷ []) xs one h.1)

pub class_names_differ : (cat : Catalogue) → IsSoundCatalogue cat → repeats (class_names cat) ≡ false
class_names_differ cat s =
    let parts : Parts = parts_of cat in
    let differ : repeats (part_names parts.classes) ≡ false = no_repeats parts [] parts.classes refl (no_faults parts s.valid).classes in
    subst (λ (l : List (List ℕ)). repeats l ≡ false) (map-map (λ (c : ClassPart). c.name)
    (class_part (map (λ (f : Fragment). f.name) cat.fragments)) cat.classes) differ

-- ---- they are found by numbers

any_number : {A : Type 0} (p : ℕ → Bool) (q : A → Bool) (xs : List A) (d : A) (a : ℕ)
    → ((i : ℕ) → i < length xs → p (a + i) ≡ q (get_or xs i d))
    → list_any p (range_with_len a (length xs)) ≡ list_any q xs
any_number p q [] d a h = refl
any_number p q (x ∷ xs) d a h =
    let zero_more : a + 0 ≡ a = omega arith in
    let here : p a ≡ q x = ap p (sym zero_more) ∙ h 0 (omega arith) in
    let later = any_number p q xs d (a + 1) (λ i lt. let next : a + 1 + i ≡ a + suc i = omega arith in ap p next ∙ h (suc i) (omega arith)) in
    ap (λ (b : Bool). b || list_any p (range_with_len (a + 1) (length xs))) here ∙ ap (λ (b : Bool). q x || b) later

abbrev no_class : Class
no_class = record { name = []; tm = tm_no 0; reads = []; writes = [] }

-- a name is that of a class exactly where a number has it
pub named_by_number : (cat : Catalogue) (name : List ℕ)
    → list_any (λ class. bytes_eq name (name_of_class cat class))
    (numbers_to (length cat.classes)) ≡ has_name (class_names cat) name
named_by_number cat name =
    any_number (λ class. bytes_eq name (name_of_class cat class)) (λ (c : Class). bytes_eq name c.name) cat.classes no_class 1 (λ i lt.
    let place : 1 + i - 1 ≡ i = omega arith in
    ap (λ (n : ℕ). bytes_eq name (get_or cat.classes n no_class).name) place)
    ∙ sym (list_any-map (bytes_eq name) (λ (c : Class). c.name) cat.classes)

-- ---- the name of one of several class lists

abbrev named : List ℕ → ClassPart → Bool
named name c = bytes_eq name c.name

any_joined : (q : ClassPart → Bool) (lists : List (List ClassPart)) → list_any q (joined lists) ≡ list_any (λ (l : List ClassPart). list_any q l) lists
any_joined q [] = refl
any_joined q (l ∷ lists) = list_any-append q l (joined lists) ∙ ap (λ (b : Bool). list_any q l || b) (any_joined q lists)

pub classes_or_last : (name : List ℕ) (classes : List ClassPart) (last : List ClassPart)
    → list_any (λ (c : ClassPart). bytes_eq name c.name)
    (classes ++ last) ≡ (list_any (λ (c : ClassPart). bytes_eq name c.name) classes || list_any
    (λ (c : ClassPart). bytes_eq name c.name) last)
classes_or_last name classes last = list_any-append (named name) classes last

pub catalogue_or_lists : (cat : Catalogue) (classes : List ClassPart) (name : List ℕ)
    → has_name (class_names cat ++ part_names classes) name ≡ (has_name (class_names cat) name || list_any (λ (c : ClassPart). bytes_eq name c.name) classes)
catalogue_or_lists cat classes name = grind (arith, list_any-append, list_any-map)

-- ---- a test of two, of which the second is asked where the first fails

either_first : (b l k : Bool) → b ≡ l → b ≡ true → b ≡ (l || k)
either_first b l k e t = grind arith

either_second : (b l d k : Bool) → b ≡ l → b ≡ false → d ≡ k → d ≡ (l || k)
either_second b l d k e f g = grind arith

abbrev pub in_lists : List ℕ → List (List ClassPart) → Bool
in_lists name lists = list_any (λ (l : List ClassPart). list_any (λ (c : ClassPart). bytes_eq name c.name) l) lists

abbrev pub in_classes : List ℕ → List ClassPart → Bool
in_classes name classes = list_any (λ (c : ClassPart). bytes_eq name c.name) classes

pub declared_in_lists : (name : List ℕ) (lists : List (List ClassPart)) (classes : List ClassPart)
    (b : Bool) → b ≡ in_lists name lists → b ≡ true → b ≡ in_classes name (joined lists ++ classes)
declared_in_lists name lists classes b e t =
    either_first b (in_lists name lists) (in_classes name classes) e t ∙ sym (grind (arith, list_any-append, named, list_any, any_joined))

pub declared_in_open_list : (name : List ℕ) (lists : List (List ClassPart)) (classes : List ClassPart)
    (b d : Bool) → b ≡ in_lists name lists → b ≡ false → d ≡ in_classes name classes
    → d ≡ in_classes name (joined lists ++ classes)
declared_in_open_list name lists classes b d e f g =
    either_second b (in_lists name lists) d (in_classes name classes) e f g
    ∙ sym (grind (arith, list_any-append, named, list_any, any_joined))
