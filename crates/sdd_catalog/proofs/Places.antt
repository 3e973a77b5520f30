-- The place of the first item with a name.
use Rattle.sdd_catalog.proofs.All.{Bool, FragmentPart, IfSome, List, None, Option, Some, Text, [], ap, arith, bytes_eq, cond, drop, drop_more, false, find, fragment_names, get_or, has_name, is_some, length, list_any, map, nat_list_eq_equiv, nat_tests, place_of, position_from, refl, same_Some, subst, sym, ℕ, ◌+◌, ◌<◌, ◌∙◌, ◌∷◌, ◌≡◌, ◌≤◌}
use Rattle.sdd_catalog.proofs.NameLemmas.{IsFound, found_at, position_from-map}

-- there is a place exactly where some item passes
pub some_place : {A : Type 0} (p : A → Bool) (i : ℕ) (xs : List A) → is_some (position_from p i xs) ≡ list_any p xs
some_place p i [] = refl
some_place p i (x ∷ xs) = grind (arith, is_some, position_from, list_any, (some_place p (i + 1) xs))

-- the first item that passes stands at the place
pub found_place : {A : Type 0} (p : A → Bool) (xs : List A) (d : A) (k : ℕ) → position_from p 0 xs ≡ Some k → IsFound p 0 xs d k
found_place p xs d k e =
    let found = found_at p 0 xs d (sym (some_place p 0 xs) ∙ ap is_some e) in
    subst (IsFound p 0 xs d) (omega (arith, same_Some (0 + found.0) k (sym found.1.place ∙ e))) found.1

-- the item at the place of a name among the names of items
pub named_place : {A : Type 0} (f : A → Text) (name : Text) (xs : List A) (d : A) (k : ℕ) → place_of name (map f xs) ≡ Some k
    → IsFound (λ x. bytes_eq name (f x)) 0 xs d k
named_place f name xs d k e = found_place (λ x. bytes_eq name (f x)) xs d k (sym (position_from-map (bytes_eq name) f 0 xs) ∙ e)

-- a place is that of an item
pub place_within : {A : Type 0} (f : A → Text) (name : Text) (xs : List A) (o : Option ℕ) → o ≡ place_of name (map f xs)
    → IfSome o (λ place. place < length xs)
place_within f name (x ∷ xs) (Some k) e = (named_place f name (x ∷ xs) x k (sym e)).within
place_within f name _ _ e = cc

-- the first item with a name
pub item_at_place : {A : Type 0} (f : A → Text) (name : Text) (xs : List A) (k : ℕ) (x : A)
    → Some k ≡ place_of name (map f xs) → x ≡ get_or xs k x → Some x ≡ find (λ x. bytes_eq name (f x)) xs
item_at_place f name xs k x e is = ap Some is ∙ sym (named_place f name xs x k (sym e)).item

-- where a name has no place, no item has it
none_found : {A : Type 0} (p : A → Bool) (xs : List A) → list_any p xs ≡ false → find p xs ≡ None
none_found p [] e = refl
none_found p (x ∷ xs) e = grind (arith, nat_tests, (none_found p xs))

pub no_item_at_place : {A : Type 0} (f : A → Text) (name : Text) (xs : List A) → None ≡ place_of name (map f xs)
    → None ≡ find (λ x. bytes_eq name (f x)) xs
no_item_at_place {A} f name xs e =
    let p : A → Bool = λ x. bytes_eq name (f x) in
    sym (none_found p xs (sym (some_place p 0 xs) ∙ ap is_some (sym (position_from-map (bytes_eq name) f 0 xs)) ∙ ap is_some (sym e)))

-- whether a name has a place
pub place_there : (name : Text) (names : List Text) (o : Option ℕ) → o ≡ place_of name names → is_some o ≡ has_name names name
place_there name names o e = ap is_some e ∙ some_place (bytes_eq name) 0 names

-- the places of names from an item on, by those after it
pub one_place_back : (fragments : List FragmentPart) (i j : ℕ) (f : FragmentPart) (key : List ℕ) (old new : List ℕ → Option ℕ)
    → j ≡ i + 1 → i < length fragments → f ≡ get_or fragments i f → key ≡ f.name
    → ((name : List ℕ) → new name ≡ cond (bytes_eq key name) (Some i) (old name))
    → ((name : List ℕ) → old name ≡ position_from (λ f. bytes_eq name f.name) j (drop j fragments))
    → (name : List ℕ) → new name ≡ position_from (λ f. bytes_eq name f.name) i (drop i fragments)
one_place_back fragments i j f key old new next within is same updates before name = grind (arith, drop_more, nat_list_eq_equiv)

-- the places from the first item on are all places
pub all_places : (fragments : List FragmentPart) (i : ℕ) (made : List ℕ → Option ℕ) → i ≤ 0
    → ((name : List ℕ) → made name ≡ position_from (λ f. bytes_eq name f.name) i (drop i fragments))
    → (name : List ℕ) → made name ≡ place_of name (fragment_names fragments)
all_places fragments i made done places name = grind (arith, nat_tests, position_from-map)
