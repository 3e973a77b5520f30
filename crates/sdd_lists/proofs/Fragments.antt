-- The fragments that a class list names, among the parts of the catalogue.
use Rattle.sdd_lists.proofs.All.{Bool, Catalogue, Fragment, FragmentPart, IsFragment, List, Option, Some, Text, [], any_of_find, ap, arith, bytes_eq, bytes_eq-Decides, cond, contains, copies_in, copies_of, differ_again, false, find, fragment_at, fragment_named, fragment_names, fragment_part, get_or_default, has_name, has_name_of_items, is_kept_at, kept_at, length, list_any-map, map, option_map, parts_of, pos, range_with_len, refl, rel_no, slice_index_or, slice_index_or as get_or, some_there, suc, sym, true, ℕ, ◌+◌, ◌<◌, ◌==◌, ◌∙◌, ◌∷◌, ◌≡◌}

-- what is found by numbers is found among the members with these numbers
found_along : {A : Type 0} (p : A → Bool) (at : ℕ → A) (xs : List A) (a : ℕ) → ((k : ℕ) (d : A) → k < length xs → at (a + k) ≡ get_or xs k d)
    → option_map at (find (λ n. p (at n)) (range_with_len a (length xs))) ≡ find p xs
found_along p at [] a are = refl
found_along p at (x ∷ xs) a are =
    let here : at a ≡ x = ap at (omega arith) ∙ are 0 x (omega arith) in
    let more = found_along p at xs (a + 1) (λ k d lt. ap at (omega arith) ∙ are (suc k) d (omega arith)) in
    elim (p x) as (λ b. p x ≡ b
    → option_map at (cond (p (at a)) (Some a) (find (λ n. p (at n)) (range_with_len (a + 1) (length xs))))
    ≡ cond b (Some x) (find p xs)) [
      | true ↦ λ e. let same : p (at a) ≡ true = ap p here ∙ e in rw same (ap Some here)
      | false ↦ λ e. let same : p (at a) ≡ false = ap p here ∙ e in rw same more
    ] refl

-- equal tests find the same
same_found : {A : Type 0} (p q : A → Bool) (xs : List A) → ((x : A) → p x ≡ q x) → find p xs ≡ find q xs
same_found p q [] same = refl
same_found p q (x ∷ xs) same = let here = same x in let more = same_found p q xs same in rw (here, more) refl

made_if : {A B : Type 0} (f : A → B) (b : Bool) (x : A) (o : Option A) (r : Option B) → r ≡ option_map f o
    → cond b (Some (f x)) r ≡ option_map f (cond b (Some x) o)
made_if f b x o r e = grind arith

-- what is found among made members is made of what is found
found_made : {A B : Type 0} (p : B → Bool) (f : A → B) (xs : List A) → find p (map f xs) ≡ option_map f (find (λ x. p (f x)) xs)
found_made p f [] = refl
found_made p f (x ∷ xs) = made_if f (p (f x)) x (find (λ y. p (f y)) xs) (find p (map f xs)) (found_made p f xs)

either_way : (a b : Text) → bytes_eq a b ≡ bytes_eq b a
either_way a b = sym (grind (arith, bytes_eq-Decides, differ_again))

abbrev relations_of : Catalogue → List Text
relations_of cat = map (λ r. r.name) cat.relations

abbrev placed : Catalogue → ℕ → Fragment
placed cat i = slice_index_or cat.fragments i (record { name = []; rel = rel_no 0; least = pos 0; greatest = pos 0; copies = [] })

at_number : (cat : Catalogue) (k : ℕ) (d : Fragment) → k < length cat.fragments → fragment_at cat (1 + k) ≡ get_or cat.fragments k d
at_number cat k d lt = ap (placed cat) (omega arith) ∙ get_or_default cat.fragments k _ d lt

-- the fragment of a name among the parts
part_found : (cat : Catalogue) (name : Text) → find (λ (f : FragmentPart). bytes_eq name f.name) (parts_of cat).fragments
    ≡ option_map (fragment_part (relations_of cat)) (option_map (fragment_at cat) (fragment_named cat name))
part_found cat name =
    let test : Fragment → Bool = λ f. bytes_eq f.name name in
    let along : option_map (fragment_at cat) (fragment_named cat name) ≡ find test cat.fragments =
    found_along test (fragment_at cat) cat.fragments 1 (at_number cat) in
    found_made (λ (f : FragmentPart). bytes_eq name f.name) (fragment_part (relations_of cat)) cat.fragments
    ∙ ap (option_map (fragment_part (relations_of cat)))
    (same_found (λ (f : Fragment). bytes_eq name f.name) test cat.fragments (λ f. either_way name f.name) ∙ sym along)

-- a fragment that is there is one of the parts
pub is_named : (cat : Catalogue) (name : Text) → IsFragment cat name → has_name (fragment_names (parts_of cat).fragments) name ≡ true
is_named cat name there =
    let number = some_there (fragment_named cat name) there.1 in
    let found = part_found cat name ∙ ap (λ (o : Option ℕ). option_map (fragment_part (relations_of cat)) (option_map (fragment_at cat) o)) number.1 in
    sym (has_name_of_items (λ (f : FragmentPart). f.name) name (parts_of cat).fragments)
    ∙ any_of_find (λ (f : FragmentPart). bytes_eq name f.name) (parts_of cat).fragments _ found

-- and its copies are those of the part
pub is_copied : (cat : Catalogue) (name : Text) (dm : ℕ) → IsFragment cat name → is_kept_at cat dm name ≡ true
    → contains (copies_of name (parts_of cat).fragments) dm ≡ true
is_copied cat name dm there kept =
    let number = some_there (fragment_named cat name) there.1 in
    let found = part_found cat name ∙ ap (λ (o : Option ℕ). option_map (fragment_part (relations_of cat)) (option_map (fragment_at cat) o)) number.1 in
    ap (λ o. contains (copies_in o) dm) found
    ∙ list_any-map (λ n. n == dm) (λ d. d.0) (fragment_at cat number.0).copies ∙ (sym (kept_at cat dm name number.0 number.1) ∙ kept)
