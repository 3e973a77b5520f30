-- What is found of the choices of all parts that come of a choice of some.
use Rattle.sdd_exec.proofs.All.{Agrees, AllInside, Choice, Condition, Const, Has, Has-append, Has-filter_from, Has-map_from, IsDead, IsDone, IsExplored, IsExploredBy, IsThereIn, List, NoneComes, NoneComesBy, Ref, Row, Same, StillHas, Tie, [], ap, are_taken, arith, both, cases_Bool, eqb-false, eqb-true, false, inl, is_taken, is_there, key_for, key_of, keyed, length, link_between, links_of, list_all-append, lists_decide, marks_of, meets_all, outs_of, passes, picked, placed, places, refl, same_row, slice_index, slice_index_or, slice_index_or as get_or, spliced, subst, suc, sym, take, take_more, ties_of, true, value_at, value_decides, values_of, ℕ, ⊎_elim, ◌++◌, ◌+◌, ◌-◌, ◌<◌, ◌==◌, ◌∙◌, ◌∷◌, ◌≡◌}
use Rattle.sdd_exec.proofs.Complete.{has_keyed, has_place, keys_agree, keys_meet, passes_all, place_is_there, placed_at, same_places, taken_or_new, ties_hold, value_agrees}
use Rattle.sdd_exec.proofs.Inside.{inside_extended, sound_start, there_extended}
use Rattle.sdd_exec.proofs.Picked.{row_of_picked}
use Rattle.sdd_exec.proofs.Sifted.{alike_by_values, outs_by_values}
use Rattle.sdd_exec.proofs.Splices.{meets_new, new_in, new_there, outs_new}

-- the places of a part's rows that its ties allow behind a choice
abbrev pub allowed : List (List Row) → List Condition → List ℕ → ℕ → Choice → List ℕ
allowed parts conds taken part c =
    let ties : List Tie = ties_of taken part conds in
    places (keyed part conds ties 0 (slice_index_or parts part [])) (key_for ties (picked parts c))

-- a choice of all parts that agrees with this one has its place among them
place_allowed : (parts : List (List Row)) (conds : List Condition) (taken : List ℕ) (part : ℕ) (c t : Choice) → part < length parts
    → is_there parts t ≡ true → meets_all conds (picked parts t) ≡ true → Agrees parts taken c t
    → Has (allowed parts conds taken part c) (slice_index t part)
place_allowed parts conds taken part c t less there met agrees =
    let ties : List Tie = ties_of taken part conds in
    let rows : List Row = slice_index_or parts part [] in
    let place : ℕ = slice_index t part in
    let row : Row = slice_index_or rows place [] in
    let is_row : slice_index_or (picked parts t) part [] ≡ row = row_of_picked parts t part in
    let each = ties_hold taken part (picked parts t) conds met in
    let key : key_of ties row ≡ key_for ties (picked parts c) =
    rw is_row at (keys_meet taken part (picked parts t) ties each) ∙ sym (keys_agree parts c t taken part ties agrees each) in
    let passing : passes part conds row ≡ true = rw is_row at (passes_all (picked parts t) part conds met) in
    let in_pairs : Has (keyed part conds ties 0 rows) (key_of ties row, 0 + place) = has_keyed part conds ties 0 rows place
    (place_is_there parts t part less there) passing in
    let zero_first : 0 + place ≡ place = omega arith in
    let found : Has (keyed part conds ties 0 rows) (key_for ties (picked parts c), place) = rw (key, zero_first) at in_pairs in
    has_place _ _ place found

-- and agrees with this one at that place
agrees_next : (parts : List (List Row)) (taken : List ℕ) (part : ℕ) (c t : Choice) → Agrees parts taken c t
    → Agrees parts (taken ++ part ∷ []) (placed (length parts) c part (slice_index t part)) t
agrees_next parts taken part c t agrees p less among =
    placed_at (length parts) c part (slice_index t part) p less
    ∙ ⊎_elim
    (λ (new : (p == part) ≡ true). let same : p ≡ part = eqb-true _ _ new in rw new (rw same refl))
    (grind (arith, ⊎_elim, eqb-false, taken_or_new))
    (cases_Bool (p == part))

-- a key and place of a part's rows
key_from : (part : ℕ) (conds : List Condition) (ties : List Tie) (i : ℕ) (rows : List Row) (key : Row) (place : ℕ)
    → Has (keyed part conds ties i rows) (key, place)
    → (j : ℕ) × (j < length rows) × (i + j ≡ place) × (passes part conds (slice_index_or rows j []) ≡ true) × (key_of ties (slice_index_or rows j []) ≡ key)
key_from part conds ties i [] key place has = absurd has
key_from part conds ties i (row ∷ rows) key place has =
    let later : Has (keyed part conds ties (i + 1) rows) (key, place) → (j : ℕ) × (j < length (row ∷ rows)) × (i + j ≡ place) ×
    (passes part conds (slice_index_or (row ∷ rows) j []) ≡ true) × (key_of ties (slice_index_or (row ∷ rows) j []) ≡ key) =
    λ more.
    let r = key_from part conds ties (i + 1) rows key place more in
    let less : r.0 < length rows = r.1 in
    let at : i + 1 + r.0 ≡ place = r.2 in
    (suc r.0, omega arith, omega arith, r.3, r.4) in
    ⊎_elim
    (λ (yes : passes part conds row ≡ true).
    let both : Has ((key_of ties row, i) ∷ keyed part conds ties (i + 1) rows) (key, place) = rw yes at has in
    ⊎_elim
    (λ (e : (key_of ties row, i) ≡ (key, place)).
    let at : i ≡ place = ap (λ (p : Row × ℕ). p.1) e in
    let same : key_of ties row ≡ key = ap (λ (p : Row × ℕ). p.0) e in
    (0, omega arith, omega arith, yes, same))
    later both)
    (λ (none : passes part conds row ≡ false). later (rw none at has))
    (cases_Bool (passes part conds row))

-- a choice whose rows are there and meet the conditions inside keeps that at each place that is allowed
pub sound_next : (parts : List (List Row)) (conds : List Condition) (taken : List ℕ) (part : ℕ) (c : Choice) (place : ℕ) → part < length parts
    → is_taken taken part ≡ false → IsThereIn parts taken c × AllInside parts taken c conds → Has (allowed parts conds taken part c) place
    → IsThereIn parts (taken ++ part ∷ []) (placed (length parts) c part place) × AllInside parts (taken ++ part ∷ []) (placed (length parts) c part place) conds
sound_next parts conds taken part c place less new sound has =
    let ties : List Tie = ties_of taken part conds in
    let rows : List Row = slice_index_or parts part [] in
    let one = Has-map_from (λ (p : Row × ℕ). p.1) _ place has in
    let two = Has-filter_from (λ (p : Row × ℕ). same_row p.0 (key_for ties (picked parts c))) (keyed part conds ties 0 rows) one.0 one.1 in
    let key : one.0.0 ≡ key_for ties (picked parts c) = (lists_decide value_decides _ _).0 two.1 in
    let three = key_from part conds ties 0 rows one.0.0 one.0.1 two.0 in
    let at : 0 + three.0 ≡ one.0.1 = three.2 in
    let same : three.0 ≡ place = omega (arith, at, one.2) in (
      there_extended parts taken part place c less new sound.0 (subst (λ (p : ℕ). p < length rows) same three.1),
      inside_extended parts taken part place c less new conds sound.1 (subst (λ (p : ℕ). passes part conds (slice_index_or rows p []) ≡ true) same three.3)
          (subst (λ (p : ℕ). key_of ties (slice_index_or rows p []) ≡ key_for ties (picked parts c)) same (three.4 ∙ key)),
    )

-- choices that agree in a group have one value in each of its columns
values_agree : (parts : List (List Row)) (group : List ℕ) (c t : Choice) (columns : List Ref) → Agrees parts group c t
    → are_taken group columns ≡ true → values_of parts columns c ≡ values_of parts columns t
values_agree parts group c t [] agrees h = refl
values_agree parts group c t (r ∷ columns) agrees h =
    let b = both _ _ h in
    let one : value_at (picked parts c) r ≡ value_at (picked parts t) r = value_agrees parts c t r (λ less. agrees (r.part - 1) less b.0) in
    let rest = values_agree parts group c t columns agrees b.1 in
    cc

links_taken : (group : List ℕ) (conds : List Condition) → are_taken group (links_of group conds) ≡ true
links_taken group [] = refl
links_taken group (Const left op value ∷ conds) = links_taken group conds
links_taken group (Same left right ∷ conds) = grind (arith, link_between, ⊎_elim, cases_Bool, (links_taken group conds))

outs_taken : (group : List ℕ) (out : List Ref) → are_taken group (outs_of group out) ≡ true
outs_taken group [] = refl
outs_taken group (r ∷ out) = grind (arith, ⊎_elim, cases_Bool, (outs_taken group out))

marks_taken : (group : List ℕ) (conds : List Condition) (out : List Ref) → are_taken group (marks_of conds out group) ≡ true
marks_taken group conds out =
    list_all-append (λ (r : Ref). is_taken group (r.part - 1)) (links_of group conds) (outs_of group out) ∙ rw (links_taken group conds, outs_taken group out) refl

values_split : (parts : List (List Row)) (xs ys : List Ref) (d c : Choice) → values_of parts (xs ++ ys) d ≡ values_of parts (xs ++ ys) c
    → (values_of parts xs d ≡ values_of parts xs c) × (values_of parts ys d ≡ values_of parts ys c)
values_split parts [] ys d c e = (refl, e)
values_split parts (x ∷ xs) ys d c e =
    let rest = values_split parts xs ys d c cc in
    let first = rest.0 in
    (cc, rest.1)

-- where all with its marks are done, a choice is explored
pub done_explored : (parts : List (List Row)) (conds : List Condition) (out : List Ref) (group : List ℕ) (c : Choice) (found : List Row)
    → IsDone parts conds out (marks_of conds out group) (values_of parts (marks_of conds out group) c) found → IsExplored parts conds out group c found
done_explored parts conds out group c found done t there met agrees =
    done t there met (sym (values_agree parts group c t (marks_of conds out group) agrees (marks_taken group conds out)))

-- where it has all listed columns and they are found, a choice is explored
pub answered_explored : (parts : List (List Row)) (conds : List Condition) (out : List Ref) (group : List ℕ) (c : Choice) (found : List Row)
    → are_taken group out ≡ true → Has found (values_of parts out c) → IsExplored parts conds out group c found
answered_explored parts conds out group c found listed has t there met agrees = subst (Has found) (values_agree parts group c t out agrees listed) has

-- where a choice is explored whose rows are there and meet the conditions inside, all with its marks are done
pub explored_done : (parts : List (List Row)) (conds : List Condition) (out : List Ref) (group : List ℕ) (c : Choice) (found : List Row)
    → IsThereIn parts group c × AllInside parts group c conds → IsExplored parts conds out group c found
    → IsDone parts conds out (marks_of conds out group) (values_of parts (marks_of conds out group) c) found
explored_done parts conds out group c found sound explored t there met same =
    let e = values_split parts (links_of group conds) (outs_of group out) t c same in
    subst (Has found) (outs_new parts group c t out (outs_by_values parts group c t out (sym e.1)))
    (explored (spliced (length parts) group c t) (new_there parts group c t sound.0 there)
    (meets_new parts group c t conds sound.1 (alike_by_values parts group c t conds (sym e.0)) met) (new_in parts group c t))

-- where none comes of any choice with its links, none comes of a choice
pub dead_none : (parts : List (List Row)) (conds : List Condition) (group : List ℕ) (c : Choice)
    → IsDead parts conds (links_of group conds) (values_of parts (links_of group conds) c) → NoneComes parts conds group c
dead_none parts conds group c dead t there met agrees =
    dead t there met (sym (values_agree parts group c t (links_of group conds) agrees (links_taken group conds)))

-- where none comes of a choice whose rows are there and meet the conditions inside, none comes of any with its links
pub none_dead : (parts : List (List Row)) (conds : List Condition) (group : List ℕ) (c : Choice) → IsThereIn parts group c × AllInside parts group c conds
    → NoneComes parts conds group c → IsDead parts conds (links_of group conds) (values_of parts (links_of group conds) c)
none_dead parts conds group c sound none t there met same =
    none (spliced (length parts) group c t) (new_there parts group c t sound.0 there)
    (meets_new parts group c t conds sound.1 (alike_by_values parts group c t conds (sym same)) met) (new_in parts group c t)

-- the places of a part are explored one by one
pub explored_more : (parts : List (List Row)) (conds : List Condition) (out : List Ref) (group : List ℕ) (c : Choice) (part : ℕ) (ps : List ℕ) (i d : ℕ)
    (old new : List Row) → i < length ps → StillHas old new → IsExploredBy parts conds out group c part (take i ps) old
    → IsExplored parts conds out (group ++ part ∷ []) (placed (length parts) c part (get_or ps i d)) new
    → IsExploredBy parts conds out group c part (take (i + 1) ps) new
explored_more parts conds out group c part ps i d old new less still before one t there met agrees has =
    let split : Has (take i ps ++ get_or ps i d ∷ []) (slice_index t part) = subst (λ (l : List ℕ). Has l (slice_index t part)) (take_more ps i d less) has in
    ⊎_elim
    (λ earlier. still (values_of parts out t) (before t there met agrees earlier))
    (λ last.
    ⊎_elim
    (λ (same : get_or ps i d ≡ slice_index t part).
    one t there met
    (subst (λ (p : ℕ). Agrees parts (group ++ part ∷ []) (placed (length parts) c part p) t) (sym same) (agrees_next parts group part c t agrees)))
    (λ none. absurd none)
    last)
    (Has-append (take i ps) (get_or ps i d ∷ []) (slice_index t part) split)

-- when all that are allowed were, the choice is explored
pub explored_all : (parts : List (List Row)) (conds : List Condition) (out : List Ref) (group : List ℕ) (c : Choice) (part : ℕ) (found : List Row)
    → part < length parts → IsExploredBy parts conds out group c part (allowed parts conds group part c) found → IsExplored parts conds out group c found
explored_all parts conds out group c part found less all t there met agrees =
    all t there met agrees (place_allowed parts conds group part c t less there met agrees)

-- where all parts are taken, a choice is explored when its own row is found
pub told_explored : (parts : List (List Row)) (conds : List Condition) (out : List Ref) (group : List ℕ) (c : Choice) (found : List Row)
    → ((p : ℕ) → p < length parts → is_taken group p ≡ true)
    → (is_there parts c ≡ true → meets_all conds (picked parts c) ≡ true → Has found (values_of parts out c)) → IsExplored parts conds out group c found
told_explored parts conds out group c found whole told t there met agrees =
    let same = same_places parts c t (λ p less. agrees p less (whole p less)) in
    let e = same.0 in
    rw e at (told (same.1 ∙ there) (rw e met))

-- the same of choices of which none comes: they are explored where nothing is found
pub none_more : (parts : List (List Row)) (conds : List Condition) (group : List ℕ) (c : Choice) (part : ℕ) (ps : List ℕ) (i d : ℕ) → i < length ps
    → NoneComesBy parts conds group c part (take i ps) → NoneComes parts conds (group ++ part ∷ []) (placed (length parts) c part (get_or ps i d))
    → NoneComesBy parts conds group c part (take (i + 1) ps)
none_more parts conds group c part ps i d less before one = explored_more parts conds [] group c part ps i d [] [] less (λ row has. has) before one

pub none_all : (parts : List (List Row)) (conds : List Condition) (group : List ℕ) (c : Choice) (part : ℕ) → part < length parts
    → NoneComesBy parts conds group c part (allowed parts conds group part c) → NoneComes parts conds group c
none_all parts conds group c part less all = explored_all parts conds [] group c part [] less all

pub none_told : (parts : List (List Row)) (conds : List Condition) (group : List ℕ) (c : Choice)
    → ((p : ℕ) → p < length parts → is_taken group p ≡ true) → (is_there parts c ≡ true → meets_all conds (picked parts c) ≡ true → ⊥)
    → NoneComes parts conds group c
none_told parts conds group c whole told = told_explored parts conds [] group c [] whole told

-- nothing is taken yet
pub sound_none : (parts : List (List Row)) (conds : List Condition) (taken : List ℕ) → taken ≡ []
    → IsThereIn parts taken [] × AllInside parts taken [] conds
sound_none parts conds taken none = rw none (sound_start parts conds [] (inl refl))
