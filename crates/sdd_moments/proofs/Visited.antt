-- A loop that changes each member of a list, each of which stands for a place: those before the place at hand are as they shall
-- be, and the others still as they were.
use Rattle.sdd_moments.proofs.All.{Bool, List, Option, Some, [], ap, append-nil, append_assoc, arith, cond, drop, filter, filter-append, filter_map, filter_map-append, flat_map, flat_map-append, get_or, length, length-map, map, map-append, refl, slice_get, slice_set, subst, suc, sym, take, take-append_seam, zero, ℕ, ◌++◌, ◌<◌, ◌∙◌, ◌∷◌, ◌≡◌, ◌≤◌}

-- as they are when so many are changed
abbrev pub changed_to : {S W : Type 0} → (S → W) → (S → W) → ℕ → List S → List W
changed_to old new i places = map new (take i places) ++ map old (drop i places)

-- the place at hand: its member still is as it was, and once that is changed they are so for the next number
pub record PlaceAt {S W : Type 0} (old new : S → W) (places : List S) (kept : List W) (i j : ℕ) (x : W) : Type 0 where
  pub place : S
  pub is_there : slice_get places i ≡ Some place
  pub stood : x ≡ old place
  pub further : take j places ≡ take i places ++ place ∷ []
  pub changed : (next : W) → next ≡ new place → slice_set kept i next ≡ changed_to old new j places

at_place : {S W : Type 0} (old new : S → W) (places : List S) (i : ℕ) (x : W) → i < length places
    → x ≡ get_or (changed_to old new i places) i x → PlaceAt old new places (changed_to old new i places) i (suc i) x
at_place old new [] i x few is = absurd (omega (arith, few))
at_place old new (p ∷ places) zero x few is = record {
  place = p;
  is_there = refl;
  stood = is;
  further = refl;
  changed = λ next e. ap (λ y. y ∷ map old places) e;
}
at_place old new (p ∷ places) (suc i) x few is =
    let r = at_place old new places i x (omega (arith, few)) is in
    record {
      place = r.place;
      is_there = r.is_there;
      stood = r.stood;
      further = ap (λ ps. p ∷ ps) r.further;
      changed = λ next e. ap (λ ys. new p ∷ ys) (r.changed next e);
    }

pub place_at : {S W : Type 0} (old new : S → W) (places : List S) (kept : List W) (i j : ℕ) (x : W) → j ≡ suc i → i < length places
    → kept ≡ changed_to old new i places → x ≡ get_or kept i x → PlaceAt old new places kept i j x
place_at old new places kept i j x more few e is =
    subst (λ ws. PlaceAt old new places ws i j x) (sym e)
    (subst (λ n. PlaceAt old new places (changed_to old new i places) i n x) (sym more)
    (at_place old new places i x few (is ∙ ap (λ ws. get_or ws i x) e)))

-- all of them are changed, once the loop is over
pub all_changed : {S W : Type 0} (old new : S → W) (i : ℕ) (places : List S) → length places ≤ i → changed_to old new i places ≡ map new places
all_changed old new zero [] past = refl
all_changed old new (suc i) [] past = refl
all_changed old new zero (p ∷ places) past = absurd (omega (arith, past))
all_changed old new (suc i) (p ∷ places) past = ap (λ ys. new p ∷ ys) (all_changed old new i places (omega (arith, past)))

pub length_changed : {S W : Type 0} (old new : S → W) (i : ℕ) (places : List S) → length (changed_to old new i places) ≡ length places
length_changed old new zero places = length-map places old
length_changed old new (suc i) [] = refl
length_changed old new (suc i) (p ∷ places) = ap suc (length_changed old new i places)

-- Places are passed over where what stands there shall be as it was.
pub passed_to : {S W : Type 0} (old new : S → W) (places : List S) (i j : ℕ) → i ≤ j
    → ((k : ℕ) (p : S) → i ≤ k → k < j → slice_get places k ≡ Some p → new p ≡ old p) → changed_to old new i places ≡ changed_to old new j places
passed_to old new [] zero zero more same = refl
passed_to old new [] zero (suc j) more same = refl
passed_to old new [] (suc i) zero more same = refl
passed_to old new [] (suc i) (suc j) more same = refl
passed_to old new (p ∷ places) zero zero more same = refl
passed_to old new (p ∷ places) zero (suc j) more same =
    let here = sym (same 0 p (omega arith) (omega arith) refl) in
    let rest = passed_to old new places zero j (omega arith) (λ k q low high e. same (suc k) q (omega arith) (omega (arith, high)) e) in
    (λ i. here i ∷ rest i)
passed_to old new (p ∷ places) (suc i) zero more same = absurd (omega (arith, more))
passed_to old new (p ∷ places) (suc i) (suc j) more same =
    ap (λ ys. new p ∷ ys)
    (passed_to old new places i j (omega (arith, more)) (λ k q low high e. same (suc k) q (omega (arith, low)) (omega (arith, high)) e))

-- A list is put together of groups, and of some of them nothing is taken.
module _ {A B C : Type 0} (F : List B → List C) (nil : F [] ≡ []) (join : (xs ys : List B) → F (xs ++ ys) ≡ F xs ++ F ys) (h : A → List B) where
  pub groups_passed : (places : List A) (i j : ℕ) → i ≤ j
      → ((k : ℕ) (p : A) → i ≤ k → k < j → slice_get places k ≡ Some p → F (h p) ≡ [])
      → F (flat_map h (take i places)) ≡ F (flat_map h (take j places))
  groups_passed [] zero zero more none = refl
  groups_passed [] zero (suc j) more none = refl
  groups_passed [] (suc i) zero more none = refl
  groups_passed [] (suc i) (suc j) more none = refl
  groups_passed (p ∷ places) zero zero more none = refl
  groups_passed (p ∷ places) zero (suc j) more none =
      groups_passed places zero j (omega arith) (λ k q low high e. none (suc k) q (omega arith) (omega (arith, high)) e)
      ∙ ap (λ ys. ys ++ F (flat_map h (take j places))) (sym (none 0 p (omega arith) (omega arith) refl))
      ∙ sym (join (h p) (flat_map h (take j places)))
  groups_passed (p ∷ places) (suc i) zero more none = absurd (omega (arith, more))
  groups_passed (p ∷ places) (suc i) (suc j) more none =
      join (h p) (flat_map h (take i places))
      ∙ ap (λ ys. F (h p) ++ ys) (groups_passed places i j (omega (arith, more))
      (λ k q low high e. none (suc k) q (omega (arith, low)) (omega (arith, high)) e))
      ∙ sym (join (h p) (flat_map h (take j places)))

-- what is made of a place more

pub mapped_last : {A B : Type 0} (f : A → B) (xs : List A) (x : A) (all : List A) (made now : List B) (y : B)
    → made ≡ map f xs → now ≡ made ++ y ∷ [] → y ≡ f x → all ≡ xs ++ x ∷ [] → now ≡ map f all
mapped_last f xs x all made now y e push is more =
    push ∙ ap (λ ys. ys ++ y ∷ []) e ∙ ap (λ z. map f xs ++ z ∷ []) is ∙ sym (map-append f xs (x ∷ [])) ∙ ap (map f) (sym more)

-- of those places alone that pass a test

pub filtered_one : {A B : Type 0} (t : A → Bool) (f : A → B) (x : A) → map f (filter t (x ∷ [])) ≡ cond (t x) (f x ∷ []) []
filtered_one t f x = grind arith

-- in groups
pub group_more : {A B : Type 0} (h : A → List B) (xs : List A) (x : A) (all : List A) → all ≡ xs ++ x ∷ [] → flat_map h all ≡ flat_map h xs ++ h x
group_more h xs x all more =
    ap (flat_map h) more ∙ flat_map-append h xs (x ∷ []) ∙ ap (λ ys. flat_map h xs ++ ys) (append-nil (h x))

-- those of further members that pass a test, after those of others
pub filtered_join : {A B : Type 0} (t : A → Bool) (f : A → B) (xs ys : List A) (first mid last : List B) → mid ≡ first ++ map f (filter t xs)
    → last ≡ mid ++ map f (filter t ys) → last ≡ first ++ map f (filter t (xs ++ ys))
filtered_join t f xs ys first mid last e h =
    h ∙ ap (λ zs. zs ++ map f (filter t ys)) e ∙ append_assoc first (map f (filter t xs)) (map f (filter t ys))
    ∙ ap (λ zs. first ++ zs) (sym (map-append f (filter t xs) (filter t ys)) ∙ ap (map f) (sym (filter-append t xs ys)))

pub picked_join : {A B : Type 0} (f : A → Option B) (xs ys : List A) (first mid last : List B) → mid ≡ first ++ filter_map f xs
    → last ≡ mid ++ filter_map f ys → last ≡ first ++ filter_map f (xs ++ ys)
picked_join f xs ys first mid last e h =
    h ∙ ap (λ zs. zs ++ filter_map f ys) e ∙ append_assoc first (filter_map f xs) (filter_map f ys)
    ∙ ap (λ zs. first ++ zs) (sym (filter_map-append f xs ys))

-- what a loop over a slice wrote
pub written_back : {A B : Type 0} (f g : B → A) (xs : List B) (old new : List A) (n : ℕ) → n ≡ length old → old ≡ map f xs → new ≡ map g xs
    → take n (new ++ drop (length new) old) ≡ map g xs
written_back f g xs old new n count was is =
    let long : n ≡ length new = count ∙ ap length was ∙ length-map xs f ∙ sym (length-map xs g) ∙ sym (ap length is) in
    ap (λ k. take k (new ++ drop (length new) old)) long ∙ take-append_seam new (drop (length new) old) ∙ is
