-- Choices that agree in the linked and listed columns of a group stand for each other.
use Rattle.sdd_exec.proofs.All.{Agrees, AllAlike, AllInside, Choice, Condition, Const, IsThereIn, LinksAlike, List, MeetsInside, OutsAlike, Ref, Row, Same, [], arith, both, cases_Bool, cond, drop, false, get_or-drop, get_or-map-range_with_len, is_taken, is_there, length, lt-ltb, map, meets, meets_all, nat_lt, picked, refl, slice_index, slice_index_or, spliced, suc, sym, true, value_at, ℕ, ⊎_elim, ◌+◌, ◌-◌, ◌<◌, ◌∙◌, ◌∷◌, ◌≡◌}
use Rattle.sdd_exec.proofs.Complete.{place_is_there, value_agrees}

-- a choice each of whose places is one of its part is there
there_by_places : (parts : List (List Row)) (t : Choice) → ((p : ℕ) → p < length parts → slice_index t p < length (slice_index_or parts p []))
    → is_there parts t ≡ true
there_by_places [] t h = refl
there_by_places (rows ∷ parts) t h =
    let first : nat_lt (slice_index t 0) (length rows) ≡ true = lt-ltb _ _ (h 0 (omega arith)) in
    rw first (there_by_places parts (drop 1 t) (λ p less. let one : 1 + p ≡ suc p = omega arith in rw (get_or-drop 1 t p 0, one) (h (suc p) (omega arith))))

pub spliced_at : (n : ℕ) (group : List ℕ) (c t : Choice) (p : ℕ) → p < n
    → slice_index (spliced n group c t) p ≡ cond (is_taken group p) (slice_index c p) (slice_index t p)
spliced_at n group c t p h = get_or-map-range_with_len (λ (q : ℕ). cond (is_taken group q) (slice_index c q) (slice_index t q)) 0 n p p 0 h (omega arith)

module _ (parts : List (List Row)) (group : List ℕ) (c t : Choice) where
  abbrev new : Choice
  new = spliced (length parts) group c t

  pub new_in : Agrees parts group c new
  new_in p less e = sym (spliced_at (length parts) group c t p less ∙ rw e refl)

  pub new_out : (p : ℕ) → p < length parts → is_taken group p ≡ false → slice_index t p ≡ slice_index new p
  new_out p less e = sym (spliced_at (length parts) group c t p less ∙ rw e refl)

  pub value_in : (r : Ref) → is_taken group (r.part - 1) ≡ true → value_at (picked parts c) r ≡ value_at (picked parts new) r
  value_in r e = value_agrees parts c new r (λ less. new_in (r.part - 1) less e)

  pub new_there : IsThereIn parts group c → is_there parts t ≡ true → is_there parts new ≡ true
  new_there here there =
      there_by_places parts new
      (λ p less.
      ⊎_elim
      (λ (yes : is_taken group p ≡ true). rw (← new_in p less yes) (here p less yes))
      (λ (no : is_taken group p ≡ false). rw (← new_out p less no) (place_is_there parts t p less there))
      (cases_Bool (is_taken group p)))

  meets_one : (k : Condition) → MeetsInside parts group c k → LinksAlike parts group c t k → meets (picked parts t) k ≡ true
      → meets (picked parts new) k ≡ true
  meets_one k inside alike h = grind (arith, ⊎_elim, value_in, value_agrees, new_out, cases_Bool, new)

  pub meets_new : (conds : List Condition) → AllInside parts group c conds → AllAlike parts group c t conds → meets_all conds (picked parts t) ≡ true
      → meets_all conds (picked parts new) ≡ true
  meets_new [] inside alike h = refl
  meets_new (k ∷ conds) inside alike h =
      let b = both _ _ h in
      rw (meets_one k inside.0 alike.0 b.0) (meets_new conds inside.1 alike.1 b.1)

  pub outs_new : (out : List Ref) → OutsAlike parts group c t out → map (value_at (picked parts new)) out ≡ map (value_at (picked parts t)) out
  outs_new [] alike = refl
  outs_new (r ∷ out) alike = grind (arith, new, ⊎_elim, value_in, value_agrees, new_out, cases_Bool, (outs_new out alike.1))

-- what is alike with one choice is alike with each that agrees with it in the group
pub links_on : (parts : List (List Row)) (group : List ℕ) (d c t : Choice) (conds : List Condition) → Agrees parts group c t
    → AllAlike parts group d c conds
    → AllAlike parts group d t conds
links_on parts group d c t [] agrees h = tt
links_on parts group d c t (Const left op value ∷ conds) agrees h = (tt, links_on parts group d c t conds agrees h.1)
links_on parts group d c t (Same left right ∷ conds) agrees h = grind (arith, value_agrees, (links_on parts group d c t conds agrees h.1))

pub outs_on : (parts : List (List Row)) (group : List ℕ) (d c t : Choice) (out : List Ref) → Agrees parts group c t → OutsAlike parts group d c out
    → OutsAlike parts group d t out
outs_on parts group d c t [] agrees h = tt
outs_on parts group d c t (r ∷ out) agrees h = grind (arith, value_agrees, (outs_on parts group d c t out agrees h.1))
