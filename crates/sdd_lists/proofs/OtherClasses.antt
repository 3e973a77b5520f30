-- Catalogues that differ from a given one in their classes alone, with class lists that may still be added.
use Rattle.sdd_lists.proofs.All.{AllByRecursion, AreValidLists, Bool, Catalogue, Class, ClassPart, FitsTxn, Fragment, IsValidClass, List, MAX_CLASSES, Text, Txn, [], all_before, ap, append_assoc, arith, bytes_eq, class_of, class_part, drop, emptied, eras, false, faults_of_added_classes, has_name, if_false, joined, length, length-append, length-map, list_any, map, map-append, map-map, or_false, part_names, parts_of, recursion_from_All, refl, repeats, slice_index_or, subst, suc, sym, take, take-append-drop, whole, zero, ℕ, ◌++◌, ◌+◌, ◌∙◌, ◌∷◌, ◌≡◌, ◌≤◌}
use Rattle.sdd_lists.proofs.Rules.{classes_fine}

-- the catalogue with other classes
abbrev pub over : Catalogue → List Class → Catalogue
over cat classes = record cat { classes = classes }

abbrev names_of : List Class → List Text
names_of classes = map (λ (c : Class). c.name) classes

-- class lists that may be added to these, one after the other
pub record MayFollow (cat : Catalogue) (own : List Class) (lists : List (List ClassPart)) : Type 0 where
  pub classes : AllByRecursion (IsValidClass cat) (joined lists)
  pub names : repeats (names_of own ++ part_names (joined lists)) ≡ false
  pub few : length own + length (joined lists) ≤ MAX_CLASSES

pub all_may_follow : (cat : Catalogue) (lists : List (List ClassPart)) → AreValidLists cat lists → MayFollow cat cat.classes lists
all_may_follow cat lists valid = grind (arith, recursion_from_All)

-- it is so too of classes with the same names
by_names : (cat : Catalogue) (own other : List Class) (lists : List (List ClassPart)) → names_of other ≡ names_of own
    → MayFollow cat own lists → MayFollow cat other lists
by_names cat own other lists same may = grind (arith, length-map)

-- classes that are emptied keep their names
emptied_names : (n : ℕ) (own : List Class) → names_of (map emptied (take n own) ++ drop n own) ≡ names_of own
emptied_names n own =
    map-append (λ (c : Class). c.name) (map emptied (take n own)) (drop n own)
    ∙ ap (λ (l : List Text). l ++ names_of (drop n own)) (map-map (λ (c : Class). c.name) emptied (take n own))
    ∙ sym (map-append (λ (c : Class). c.name) (take n own) (drop n own))
    ∙ ap names_of (take-append-drop n own)

pub retired_may : (cat : Catalogue) (own : List Class) (n : ℕ) (lists : List (List ClassPart))
    → MayFollow cat own lists → MayFollow cat (map emptied (take n own) ++ drop n own) lists
retired_may cat own n lists may = by_names cat own _ lists (emptied_names n own) may

part_names_of : (cat : Catalogue) (own : List Class) → part_names (parts_of (over cat own)).classes ≡ names_of own
part_names_of cat own = map-map (λ (c : ClassPart). c.name) (class_part (map (λ (f : Fragment). f.name) cat.fragments)) own

joined_names : (own : List Text) (first : List ClassPart) (lists : List (List ClassPart))
    → own ++ part_names (first ++ joined lists) ≡ (own ++ part_names first) ++ part_names (joined lists)
joined_names own first lists = grind (arith, map-append, append_assoc)

any_in_front : (p : Text → Bool) (xs ys : List Text) → list_any p (xs ++ ys) ≡ false → list_any p xs ≡ false
any_in_front p [] ys e = refl
any_in_front p (x ∷ xs) ys e =
    let h = or_false (p x) (list_any p (xs ++ ys)) e in
    let more = any_in_front p xs ys h.1 in
    rw (h.0, more) refl

repeats_in_front : (xs ys : List Text) → repeats (xs ++ ys) ≡ false → repeats xs ≡ false
repeats_in_front [] ys e = refl
repeats_in_front (x ∷ xs) ys e =
    let h = if_false (has_name (xs ++ ys) x) (repeats (xs ++ ys)) e in
    let more = repeats_in_front xs ys h.1 in
    rw ((any_in_front (bytes_eq x) xs ys h.0), more) refl

pub none_further : (cat : Catalogue) (own : List Class) (first : List ClassPart) (lists : List (List ClassPart))
    → MayFollow cat own (first ∷ lists) → faults_of_added_classes (over cat own) first ≡ []
none_further cat own first lists may =
    let as_many : length (parts_of (over cat own)).classes ≡ length own = length-map own _ in
    let once : repeats ((names_of own ++ part_names first) ++ part_names (joined lists)) ≡ false =
    subst (λ (l : List Text). repeats l ≡ false) (joined_names (names_of own) first lists) may.names in
    let fronts : repeats (names_of own ++ part_names first) ≡ false =
    repeats_in_front (names_of own ++ part_names first) (part_names (joined lists)) once in
    classes_fine cat (parts_of (over cat own)).classes first
    (all_before (IsValidClass cat) first (joined lists) may.classes).0
    (subst (λ (l : List Text). repeats (l ++ part_names first) ≡ false) (sym (part_names_of cat own)) fronts)
    (omega (arith, may.few, as_many, length-append first (joined lists)))

pub others_may : (cat : Catalogue) (names : List Text) (own : List Class) (first : List ClassPart) (lists : List (List ClassPart))
    → MayFollow cat own (first ∷ lists) → MayFollow cat (own ++ map (class_of names) first) lists
others_may cat names own first lists may =
    let as_many : length (own ++ map (class_of names) first) ≡ length own + length first =
    length-append own (map (class_of names) first) ∙ ap (λ n. length own + n) (length-map first (class_of names)) in
    record {
      classes = (all_before (IsValidClass cat) first (joined lists) may.classes).1;
      names = grind (arith, repeats, joined_names, names_of, part_names, joined, map-append, map-map);
      few = omega (arith, may.few, as_many, length-append first (joined lists));
    }

-- each catalogue in force, and the whole one, differs from the given one in its classes alone

pub whole_over : (cat : Catalogue) (own : List Class) (lists : List (List Class))
    → whole (over cat own) lists ≡ over cat (whole (over cat own) lists).classes
whole_over cat own [] = refl
whole_over cat own (classes ∷ lists) = whole_over cat (own ++ classes) lists

pub era_over : (cat : Catalogue) (own : List Class) (lists : List (List Class)) (n : ℕ)
    → slice_index_or (eras (over cat own) lists) n cat ≡ over cat (slice_index_or (eras (over cat own) lists) n cat).classes
era_over cat own [] zero = refl
era_over cat own (classes ∷ lists) (suc n) = era_over cat ((map emptied (take (length own) own) ++ drop (length own) own) ++ classes) lists n
era_over cat own _ _ = refl

-- so what fits the one fits the other

abbrev fits_over : (cat : Catalogue) (own : List Class) (txn : Txn) → FitsTxn cat txn → FitsTxn (over cat own) txn
fits_over cat own txn fits = record { module_is_there = fits.module_is_there; few = fits.few; statements = fits.statements }

pub fits_by : (cat other : Catalogue) (txn : Txn) → other ≡ over cat other.classes → FitsTxn cat txn → FitsTxn other txn
fits_by cat other txn is fits = subst (λ (c : Catalogue). FitsTxn c txn) (sym is) (fits_over cat other.classes txn fits)

pub fits_era : (cat : Catalogue) (lists : List (List Class)) (n : ℕ) (txn : Txn) → FitsTxn cat txn → FitsTxn (slice_index_or (eras cat lists) n cat) txn
fits_era cat lists n txn fits = fits_by cat (slice_index_or (eras cat lists) n cat) txn (era_over cat cat.classes lists n) fits
