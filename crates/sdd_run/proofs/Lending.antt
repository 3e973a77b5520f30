-- The class lists as they are lent to a world: one more, and all of them.
use Rattle.sdd_run.proofs.All.{AllZip, Catalogue, ClassList, Entry, Era, IsTable, List, Some, [], ap, arith, era_of_list, eras_with_tables, get_or, length, map, map-append, refl, slice_get, subst, suc, sym, tail_of, take, take_all, take_more, zero, ℕ, ◌++◌, ◌+◌, ◌-◌, ◌<◌, ◌∙◌, ◌∷◌, ◌≡◌, ◌≤◌}

-- one protocol table more

zip_more : (cats : List Catalogue) (tables : List (List Entry)) (cat : Catalogue) (table : List Entry) → AllZip IsTable cats tables → IsTable cat table
    → AllZip IsTable (cats ++ cat ∷ []) (tables ++ table ∷ [])
zip_more [] [] cat table h k = (k, tt)
zip_more (c ∷ cats) (t ∷ tables) cat table h k = (h.0, zip_more cats tables cat table h.1 k)
zip_more _ _ cat table h k = absurd h

pub tabled_more : (cats : List Catalogue) (i : ℕ) (cat : Catalogue) (tables : List (List Entry)) (table : List Entry)
    → i < length cats → cat ≡ get_or cats i cat → AllZip IsTable (take i cats) tables → IsTable cat table
    → AllZip IsTable (take (i + 1) cats) (tables ++ table ∷ [])
tabled_more cats i cat tables table l is h k =
    subst (λ cs. AllZip IsTable cs (tables ++ table ∷ [])) (ap (λ y. take i cats ++ y ∷ []) is ∙ sym (take_more cats i cat l))
    (zip_more (take i cats) tables cat table h k)

-- the list at a place

at_place : (cats : List Catalogue) (tables : List (List Entry)) (k : ℕ) (cat : Catalogue) (table : List Entry)
    → slice_get cats k ≡ Some cat → slice_get tables k ≡ Some table
    → slice_get (eras_with_tables cats tables) k ≡ Some (record { catalogue = cat; table = table })
at_place (c ∷ cats) (t ∷ tables) zero cat table e f = grind arith
at_place (c ∷ cats) (t ∷ tables) (suc k) cat table e f = at_place cats tables k cat table e f
at_place _ _ k cat table e f = absurd (cc)

pub list_there : (cats : List Catalogue) (tables : List (List Entry)) (k : ℕ) (cat : Catalogue) (table : List Entry)
    → k < length cats → k < length tables → cat ≡ get_or cats k cat → table ≡ get_or tables k table
    → slice_get (eras_with_tables cats tables) k ≡ Some (record { catalogue = cat; table = table })
list_there cats tables k cat table l m e f = at_place cats tables k cat table (there cats k cat l e) (there tables k table m f)
  where
    there : {A : Type 0} (xs : List A) (k : ℕ) (x : A) → k < length xs → x ≡ get_or xs k x → slice_get xs k ≡ Some x
    there [] k x l e = absurd (omega (arith, l))
    there (y ∷ xs) zero x l e = ap (λ z. Some z) (sym e)
    there (y ∷ xs) (suc k) x l e = there xs k x (omega (arith, l)) e

pub first_there : (tables : List (List Entry)) (table : List Entry) → 0 < length tables → table ≡ get_or tables 0 table → slice_get tables 0 ≡ Some table
first_there [] table l e = absurd (omega (arith, l))
first_there (t ∷ tables) table l e = ap (λ z. Some z) (sym e)

-- the lists after the first, one more

take_at : {A : Type 0} (xs : List A) (k : ℕ) (x : A) → slice_get xs k ≡ Some x → take (suc k) xs ≡ take k xs ++ x ∷ []
take_at [] k x e = absurd (cc)
take_at (y ∷ xs) zero x e = let p : y ≡ x = cc in ap (λ z. z ∷ []) p
take_at (y ∷ xs) (suc k) x e = ap (λ l. y ∷ l) (take_at xs k x e)

up_one : {A : Type 0} (xs : List A) (k : ℕ) (x : A) → slice_get xs k ≡ Some x → 1 ≤ k → take (k + 1 - 1) (tail_of xs) ≡ take (k - 1) (tail_of xs) ++ x ∷ []
up_one xs zero x e l = absurd (omega (arith, l))
up_one xs (suc k) x e l =
    let a : suc k + 1 - 1 ≡ suc k = omega arith in
    ap (λ n. take n (tail_of xs)) a ∙ take_at (tail_of xs) k x (grind arith) ∙ ap (λ n. take n (tail_of xs) ++ x ∷ []) (sym (omega arith))

pub lent_more : (eras : List Era) (k : ℕ) (list : ClassList) (lists more : List ClassList) → slice_get eras k ≡ Some (era_of_list list) → 1 ≤ k
    → more ≡ lists ++ list ∷ [] → map era_of_list lists ≡ take (k - 1) (tail_of eras) → map era_of_list more ≡ take (k + 1 - 1) (tail_of eras)
lent_more eras k list lists more e l grown h = grind (arith, map-append, up_one)

-- all of them

pub as_many : (cats : List Catalogue) (tables : List (List Entry)) → length tables ≡ length cats → length (eras_with_tables cats tables) ≡ length cats
as_many [] tables e = refl
as_many (c ∷ cats) [] e = absurd (omega (arith, e))
as_many (c ∷ cats) (t ∷ tables) e = ap (λ n. suc n) (as_many cats tables (omega (arith, e)))

pub all_lent : (eras : List Era) (k : ℕ) (lists : List ClassList) → length eras ≤ k → map era_of_list lists ≡ take (k - 1) (tail_of eras)
    → map era_of_list lists ≡ tail_of eras
all_lent eras k lists l h = grind (arith, take_all)
