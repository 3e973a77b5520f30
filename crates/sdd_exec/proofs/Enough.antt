-- The kept choices stay enough to tell the answer.
use Rattle.sdd_exec.proofs.All.{Agrees, Answers, AreEnough, AreSound, Choice, Condition, Has, Has-filter, Has-filter_from, Has-filter_map, Has-filter_map_from, Has-flat_map, Has-map, Has-map_from, IsAnswered, IsOutside, IsSifted, List, NoRepeats, None, Ref, Row, Some, TellsAnswer, Tie, TooMany, Tuple, [], all_rows, ap, arith, cases_Bool, choices_of_part, distinct, distinct_same, eq-eqb, extended, false, filter_map, inl, inr, is_taken, is_there, joined, key_for, key_of, keyed, length, lt-ltb, map, meets_all, nat_lt, pair_of, pairs_of, passes, picked, placed, product, refl, row_from, selection, slice_index, slice_index_or, subst, sym, ties_of, true, value_at, within, ℕ, ⊎_elim, ◌++◌, ◌+◌, ◌<◌, ◌==◌, ◌∙◌, ◌∷◌, ◌≡◌, ◌⊎◌}
use Rattle.sdd_exec.proofs.Complete.{place_is_there, passes_all, ties_hold, keys_meet, keys_agree, has_keyed, has_place, placed_at, taken_or_new, same_places}
use Rattle.sdd_exec.proofs.Distinct.{in_distinct, no_more_rows}
use Rattle.sdd_exec.proofs.Inside.{place_old, sound_part, sound_joined}
use Rattle.sdd_exec.proofs.Picked.{row_of_picked}
use Rattle.sdd_exec.proofs.Product.{picked_in_product, choice_of, found_row}
use Rattle.sdd_exec.proofs.Sifted.{sifted_answers}

each_or_many : (room : ℕ) (P Q : Row → Type 0) → ((row : Row) → P row → Q row ⊎ TooMany room Q) → (rows : List Row)
    → ((row : Row) → Has rows row → P row)
    → ((row : Row) → Has rows row → Q row) ⊎ TooMany room Q
each_or_many room P Q step [] all = inl (λ row has. absurd has)
each_or_many room P Q step (r ∷ rows) all =
    ⊎_elim
    (grind (arith, ⊎_elim, (each_or_many room P Q step rows (λ row has. all row (inr has)))))
    (λ many. inr many)
    (step r (all r (inl refl)))

-- each of these rows has P, or else more than there is room for
abbrev IsEnough : List Row → ℕ → (Row → Type 0) → Type 0
IsEnough rows room P = ((row : Row) → Has rows row → P row) ⊎ TooMany room P

enough_step : (rows : List Row) (room : ℕ) (P Q : Row → Type 0) → ((row : Row) → P row → Q row ⊎ TooMany room Q) → IsEnough rows room P
    → IsEnough rows room Q
enough_step rows room P Q step enough =
    ⊎_elim
    (λ all. each_or_many room P Q step rows all)
    (λ many.
    ⊎_elim
    (λ each. inr (many.0, many.1, many.2, each))
    (λ more. inr more)
    (each_or_many room P Q step many.0 many.3))
    enough

module _ (parts : List (List Row)) (conds : List Condition) (out : List Ref) (room : ℕ) (taken : List ℕ) (kept : List Choice) (part : ℕ)
    (less : part < length parts) (new : is_taken taken part ≡ false) where
  -- a choice agrees with a kept one in the parts that were taken
  abbrev Before : Choice → Type 0
  Before t = (c : Choice) × Has kept c × Agrees parts taken c t

  before_outside : IsOutside parts (part ∷ []) Before
  before_outside s t same before = grind (arith, ⊎_elim, taken_or_new, cases_Bool)

  in_part : (row : Row) → IsAnswered parts conds out taken kept row → Answers parts conds out Before (part ∷ []) (choices_of_part parts conds part) row
  in_part row a =
      let t : Choice = a.0 in
      let there : is_there parts t ≡ true = a.1 in
      let met : meets_all conds (picked parts t) ≡ true = a.2 in
      let rows : List Row = slice_index_or parts part [] in
      let place : ℕ = slice_index t part in
      let passing : passes part conds (slice_index_or rows place []) ≡ true = rw (row_of_picked parts t part) at (passes_all (picked parts t) part conds met) in
      let in_pairs : Has (keyed part conds [] 0 rows) ([], 0 + place) = has_keyed part conds [] 0 rows place (place_is_there parts t part less there) passing in
      let zero_first : 0 + place ≡ place = omega arith in
      let found : Has (keyed part conds [] 0 rows) ([], place) = rw zero_first at in_pairs in (
        t,
        there,
        met,
        a.3,
        a.5,
        (
          placed (length parts) [] part place,
          Has-map (placed (length parts) [] part) _ place (has_place _ [] place found),
          λ p within yes.
              let same : part ≡ p = (⊎_elim (λ yes. absurd cc) (λ same. same) (taken_or_new [] part p yes)) in
              subst (λ (q : ℕ). slice_index (placed (length parts) [] part place) q ≡ slice_index t q) same
              (placed_at (length parts) [] part place part less ∙ rw (eq-eqb part part refl) refl),
        ),
      )

  in_joined : (thin : List Choice) (row : Row) → Answers parts conds out Before (part ∷ []) thin row
      → Answers parts conds out (λ t. Unit {0}) (taken ++ part ∷ []) (joined parts conds taken part thin kept) row
  in_joined thin row a =
      let t : Choice = a.0 in
      let there : is_there parts t ≡ true = a.1 in
      let met : meets_all conds (picked parts t) ≡ true = a.2 in
      let c : Choice = a.4.0 in
      let th : Choice = a.5.0 in
      let ties : List Tie = ties_of taken part conds in
      let rows : List Row = slice_index_or parts part [] in
      let place : ℕ = slice_index t part in
      let first : (part == part) ≡ true = eq-eqb part part refl in
      let inside : is_taken (part ∷ []) part ≡ true = rw first refl in
      let at : slice_index th part ≡ place = a.5.2 part less inside in
      let is_row : slice_index_or (picked parts t) part [] ≡ slice_index_or rows place [] = row_of_picked parts t part in
      let each = ties_hold taken part (picked parts t) conds met in
      let key : key_of ties (slice_index_or rows place []) ≡ key_for ties (picked parts c) =
      rw is_row at (keys_meet taken part (picked parts t) ties each) ∙ sym (keys_agree parts c t taken part ties a.4.2 each) in
      let here : nat_lt place (length rows) ≡ true = lt-ltb _ _ (place_is_there parts t part less there) in
      let pair : pair_of parts ties part th ≡ Some (key_of ties (slice_index_or rows place []), place) = rw (at, here) refl in
      let in_pairs : Has (pairs_of parts ties part thin) (key_of ties (slice_index_or rows place []), place) = Has-filter_map
      (pair_of parts ties part) thin th _ a.5.1 pair in
      let found : Has (pairs_of parts ties part thin) (key_for ties (picked parts c), place) = rw key at in_pairs in
      let next : Choice = placed (length parts) c part place in (
        t,
        there,
        met,
        a.3,
        tt,
        (
          next,
          Has-flat_map (extended parts part ties (pairs_of parts ties part thin)) kept c next a.4.1
              (Has-map (placed (length parts) c part) _ place (has_place _ _ place found)),
          λ p within yes.
              ⊎_elim
              (λ old. place_old parts taken part place c less new p within old ∙ a.4.2 p within old)
              (grind (arith, slice_index, placed_at))
              (taken_or_new taken part p yes),
        ),
      )

  sound_kept : (group : List ℕ) (choices some : List Choice) → AreSound parts conds group choices → ((c : Choice) → Has some c → Has choices c)
      → AreSound parts conds group some
  sound_kept group choices some sound only c has = sound c (only c has)

  -- one more part
  pub sifted_next : (thin next : List Choice) → AreSound parts conds taken kept → AreEnough parts conds out room taken kept
      → IsSifted parts conds out room (part ∷ []) (choices_of_part parts conds part) thin
      → IsSifted parts conds out room (taken ++ part ∷ []) (joined parts conds taken part thin kept) next
      → AreSound parts conds (taken ++ part ∷ []) next × AreEnough parts conds out room (taken ++ part ∷ []) next
  sifted_next thin next sound enough first second =
      let group : List ℕ = taken ++ part ∷ [] in
      let sound_thin : AreSound parts conds (part ∷ []) thin = sound_kept (part ∷ []) (choices_of_part parts conds part) thin
      (sound_part parts conds part less) first.only in
      let sound_next : AreSound parts conds group next =
      sound_kept group (joined parts conds taken part thin kept) next (sound_joined parts conds taken part thin kept less new sound first.only) second.only in
      let all : List Row = all_rows parts conds out in
      let thinned : IsEnough all room (Answers parts conds out Before (part ∷ []) thin) =
      enough_step all room (IsAnswered parts conds out taken kept) (Answers parts conds out Before (part ∷ []) thin)
      (λ row a. sifted_answers parts conds out room Before (part ∷ []) (choices_of_part parts conds part) thin row before_outside sound_thin first (in_part row a)) enough in (
        sound_next,
        enough_step all room (Answers parts conds out Before (part ∷ []) thin) (IsAnswered parts conds out group next)
            (λ row a. sifted_answers parts conds out room (λ t. Unit {0}) group (joined parts conds taken part thin kept) next row
            (λ s t same rest. tt) sound_next second (in_joined thin row a)) thinned,
      )

pub enough_start : (parts : List (List Row)) (conds : List Condition) (out : List Ref) (room : ℕ) → AreEnough parts conds out room [] ([] ∷ [])
enough_start parts conds out room = grind (arith, Has-map_from, Has-filter_from, choice_of)

-- a row that stands when all parts are taken is found, and is one of the answer
found_at_end : (parts : List (List Row)) (conds : List Condition) (out : List Ref) (taken : List ℕ) (kept : List Choice)
    → ((p : ℕ) → p < length parts → is_taken taken p ≡ true)
    → (row : Row) → IsAnswered parts conds out taken kept row → Has (filter_map (row_from parts out conds) kept) row × Has (all_rows parts conds out) row
found_at_end parts conds out taken kept all row a =
    let t : Choice = a.0 in
    let c : Choice = a.5.0 in
    let same = same_places parts c t (λ p within. a.5.2 p within (all p within)) in
    let is_row : row_from parts out conds c ≡ Some row = rw ((same.1 ∙ a.1), same.0, a.2, a.3) refl in
    let in_all : Has (selection conds (product parts)) (picked parts t) = Has-filter (meets_all conds) (product parts) (picked parts t)
    (picked_in_product parts t a.1) a.2 in (
      Has-filter_map (row_from parts out conds) kept c row a.5.1 is_row,
      subst (Has (all_rows parts conds out)) a.3 (Has-map (λ (tuple : Tuple). map (value_at tuple) out) _ (picked parts t) in_all),
    )

-- what is found is of the answer
pub found_is_answer : (parts : List (List Row)) (conds : List Condition) (out : List Ref) (kept : List Choice) (row : Row)
    → Has (filter_map (row_from parts out conds) kept) row → Has (all_rows parts conds out) row
found_is_answer parts conds out kept row has =
    let one = Has-filter_map_from (row_from parts out conds) kept row has in
    let c : Choice = one.0 in
    let f = found_row (is_there parts c) (meets_all conds (picked parts c)) (map (value_at (picked parts c)) out) row one.2 in
    let in_all : Has (selection conds (product parts)) (picked parts c) = Has-filter (meets_all conds) (product parts) (picked parts c)
    (picked_in_product parts c f.0) f.1 in
    subst (Has (all_rows parts conds out)) f.2 (Has-map (λ (tuple : Tuple). map (value_at tuple) out) _ (picked parts c) in_all)

pub no_room_for : (room : ℕ) (rows xs : List Row) → room < length rows → NoRepeats rows → ((row : Row) → Has rows row → Has xs row)
    → within room (distinct xs) ≡ None
no_room_for room rows xs more once all = grind (arith, no_more_rows, in_distinct, nat_lt, lt-ltb)

-- when all parts are taken, the kept choices tell the answer
pub tells_answer : (parts : List (List Row)) (conds : List Condition) (out : List Ref) (room : ℕ) (taken : List ℕ) (kept : List Choice)
    → ((p : ℕ) → p < length parts → is_taken taken p ≡ true) → AreEnough parts conds out room taken kept → TellsAnswer parts conds out room kept
tells_answer parts conds out room taken kept all enough =
    let found : List Row = filter_map (row_from parts out conds) kept in
    ⊎_elim
    (λ each.
    ap (within room)
    (distinct_same found (all_rows parts conds out) (λ row has. found_is_answer parts conds out kept row has)
    (λ row has. (found_at_end parts conds out taken kept all row (each row has)).0)))
    (λ many.
    no_room_for room many.0 found many.1 many.2 (λ row has. (found_at_end parts conds out taken kept all row (many.3 row has)).0)
    ∙ sym (no_room_for room many.0 (all_rows parts conds out) many.1 many.2 (λ row has. (found_at_end parts conds out taken kept all row (many.3 row has)).1)))
    enough
