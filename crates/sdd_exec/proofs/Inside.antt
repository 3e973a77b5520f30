-- Choices that were extended by a row which its ties and its own conditions allow: their rows are there, and meet the conditions inside.
use Rattle.sdd_exec.proofs.All.{AllInside, AreSound, Bool, Choice, Condition, Const, Has, Has-filter_from, Has-filter_map_from, Has-flat_map_from, Has-map_from, IsThereIn, List, MeetsInside, None, Option, Ref, Row, Same, Some, Tie, Tuple, [], ap, arith, both, cases_Bool, choices_of_part, column, cond, cons_option, eq-eqb, eqb-true, extended, false, is_taken, joined, key_for, key_of, keyed, length, lists_decide, meets, nat_lt, pair_of, pairs_of, passes, passes_one, picked, placed, places, refl, same_row, slice_index, slice_index_or, subst, suc, sym, tie_of, ties_of, true, value_at, value_decides, ℕ, ⊎_elim, ◌++◌, ◌+◌, ◌-◌, ◌<◌, ◌==◌, ◌∙◌, ◌∷◌, ◌≡◌}
use Rattle.sdd_exec.proofs.Complete.{value_agrees, placed_at, taken_or_new}
use Rattle.sdd_exec.proofs.Picked.{value_in_picked}

-- a part that was taken isn't one that wasn't
other_part : (taken : List ℕ) (part p : ℕ) → is_taken taken part ≡ false → is_taken taken p ≡ true → (p == part) ≡ false
other_part taken part p new old = grind (arith, ⊎_elim, eqb-true, cases_Bool)

keys_tail : (row : Row) (tuple : Tuple) (o : Option Tie) (ts : List Tie) → key_of (cons_option o ts) row ≡ key_for (cons_option o ts) tuple
    → key_of ts row ≡ key_for ts tuple
keys_tail row tuple None ts e = e
keys_tail row tuple (Some t) ts e = cc

keys_head : (row : Row) (tuple : Tuple) (t : Tie) (o : Option Tie) (ts : List Tie) → o ≡ Some t
    → key_of (cons_option o ts) row ≡ key_for (cons_option o ts) tuple → column row t.column ≡ value_at tuple t.to
keys_head row tuple t None ts same e = absurd cc
keys_head row tuple t (Some u) ts same e = cc

module _ (parts : List (List Row)) (taken : List ℕ) (part place : ℕ) (c : Choice) (less : part < length parts) (new : is_taken taken part ≡ false) where
  abbrev d : Choice
  d = placed (length parts) c part place

  abbrev row : Row
  row = slice_index_or (slice_index_or parts part []) place []

  abbrev group : List ℕ
  group = taken ++ part ∷ []

  place_new : slice_index d part ≡ place
  place_new = let same : (part == part) ≡ true = eq-eqb part part refl in placed_at (length parts) c part place part less ∙ rw same refl

  pub place_old : (p : ℕ) → p < length parts → is_taken taken p ≡ true → slice_index d p ≡ slice_index c p
  place_old p within old = let other = other_part taken part p new old in placed_at (length parts) c part place p within ∙ rw other refl

  value_old : (r : Ref) → is_taken taken (r.part - 1) ≡ true → value_at (picked parts d) r ≡ value_at (picked parts c) r
  value_old r old = value_agrees parts d c r (λ within. place_old (r.part - 1) within old)

  pub there_extended : IsThereIn parts taken c → place < length (slice_index_or parts part []) → IsThereIn parts group d
  there_extended there here p within among = grind (arith, ⊎_elim, place_old, slice_index, d, slice_index_or, place_new, taken_or_new)

  same_met : (left right : Ref) → value_at (picked parts d) left ≡ value_at (picked parts d) right → meets (picked parts d) (Same left right) ≡ true
  same_met left right e = (value_decides (value_at (picked parts d) left) (value_at (picked parts d) right)).1 e

  same_inside : (left right : Ref) (ts : List Tie) → MeetsInside parts taken c (Same left right) → passes_one part row (Same left right) ≡ true
      → key_of (cons_option (tie_of taken part (Same left right)) ts) row ≡ key_for (cons_option (tie_of taken part (Same left right)) ts) (picked parts c)
      → MeetsInside parts group d (Same left right)
  same_inside left right ts inside passing keys among also =
      ⊎_elim
      (λ (l : is_taken taken (left.part - 1) ≡ true).
      ⊎_elim
      (λ (r : is_taken taken (right.part - 1) ≡ true).
      same_met left right (value_old left l ∙ (value_decides (value_at (picked parts c) left) (value_at (picked parts c) right)).0 (inside l r) ∙ sym (value_old right r)))
      (λ (r : part ≡ right.part - 1).
      same_met left right
      (value_old left l
      ∙ sym (keys_head row (picked parts c) (record { column = right.column; to = left }) _ ts (grind (arith, other_part, eq-eqb)) keys)
      ∙ sym (value_in_picked parts d right ∙ rw (← r) (ap (λ (p : ℕ). column (slice_index_or (slice_index_or parts part []) p []) right.column) place_new))))
      (taken_or_new taken part (right.part - 1) also))
      (grind (arith, ⊎_elim, is_taken, same_met, value_in_picked, d, slice_index_or, place_new, keys_head, row, picked, column, value_old, eq-eqb, value_decides, taken_or_new))
      (taken_or_new taken part (left.part - 1) among)

  pub inside_extended : (conds : List Condition) → AllInside parts taken c conds → passes part conds row ≡ true
      → key_of (ties_of taken part conds) row ≡ key_for (ties_of taken part conds) (picked parts c) → AllInside parts group d conds
  inside_extended [] inside passing keys = tt
  inside_extended (Const left op value ∷ conds) inside passing keys =
      let b = both _ _ passing in
      let one : passes_one part row (Const left op value) ≡ true = b.0 in (
        λ among.
            ⊎_elim
            (λ old. rw (value_old left old) (inside.0 old))
            (grind (arith, eq-eqb, value_in_picked, d, column, slice_index_or, place_new))
            (taken_or_new taken part (left.part - 1) among),
        inside_extended conds inside.1 b.1 keys,
      )
  inside_extended (Same left right ∷ conds) inside passing keys =
      let b = both _ _ passing in (
        same_inside left right (ties_of taken part conds) inside.0 b.0 keys,
        inside_extended conds inside.1 b.1 (keys_tail row (picked parts c) (tie_of taken part (Same left right)) (ties_of taken part conds) keys),
      )

keyed_from : (part : ℕ) (conds : List Condition) (ties : List Tie) (i : ℕ) (rows : List Row) (key : Row) (place : ℕ)
    → Has (keyed part conds ties i rows) (key, place)
    → (j : ℕ) × (j < length rows) × (i + j ≡ place) × (passes part conds (slice_index_or rows j []) ≡ true)
keyed_from part conds ties i [] key place has = absurd has
keyed_from part conds ties i (row ∷ rows) key place has =
    let later : Has (keyed part conds ties (i + 1) rows) (key, place) → (j : ℕ) × (j < length (row ∷ rows)) × (i + j ≡ place) ×
    (passes part conds (slice_index_or (row ∷ rows) j []) ≡ true) =
    λ more.
    let r = keyed_from part conds ties (i + 1) rows key place more in
    let less : r.0 < length rows = r.1 in
    let at : i + 1 + r.0 ≡ place = r.2 in
    (suc r.0, omega arith, omega arith, r.3) in
    ⊎_elim
    (grind (arith, passes, row, key_of, keyed, ⊎_elim))
    (λ (none : passes part conds row ≡ false). later (rw none at has))
    (cases_Bool (passes part conds row))

-- the choices of one part
pub choice_of_part : (parts : List (List Row)) (conds : List Condition) (part : ℕ) (d : Choice) → Has (choices_of_part parts conds part) d
    → (place : ℕ) × (placed (length parts) [] part place ≡ d) × (place < length (slice_index_or parts part [])) ×
    (passes part conds (slice_index_or (slice_index_or parts part []) place []) ≡ true)
choice_of_part parts conds part h4 has = grind (arith, d, slice_index_or, Has-map_from, Has-filter_from, keyed_from)

no_ties : (part : ℕ) (conds : List Condition) → ties_of [] part conds ≡ []
no_ties part [] = refl
no_ties part (Const left op value ∷ conds) = no_ties part conds
no_ties part (Same left right ∷ conds) = grind (arith, ⊎_elim, cases_Bool, (no_ties part conds))

inside_none : (parts : List (List Row)) (c : Choice) (conds : List Condition) → AllInside parts [] c conds
inside_none parts c [] = tt
inside_none parts c (Const left op value ∷ conds) = (λ yes. absurd cc, inside_none parts c conds)
inside_none parts c (Same left right ∷ conds) = (λ yes also. absurd cc, inside_none parts c conds)

pub sound_start : (parts : List (List Row)) (conds : List Condition) → AreSound parts conds [] ([] ∷ [])
sound_start parts conds c has = (λ p less yes. absurd cc, inside_none parts c conds)

pub sound_part : (parts : List (List Row)) (conds : List Condition) (part : ℕ) → part < length parts
    → AreSound parts conds (part ∷ []) (choices_of_part parts conds part)
sound_part parts conds part less d has =
    let one = choice_of_part parts conds part d has in
    let row : Row = slice_index_or (slice_index_or parts part []) one.0 [] in
    subst (λ (e : Choice). IsThereIn parts (part ∷ []) e × AllInside parts (part ∷ []) e conds) one.1 (
      there_extended parts [] part one.0 [] less refl (λ p within yes. absurd cc) one.2,
      inside_extended parts [] part one.0 [] less refl conds (inside_none parts [] conds) one.3 (rw (no_ties part conds) refl),
    )

found_pair : (here : Bool) (pair found : Row × ℕ) → cond here (Some pair) None ≡ Some found → (here ≡ true) × (pair ≡ found)
found_pair here pair found e = grind arith

pub sound_joined : (parts : List (List Row)) (conds : List Condition) (taken : List ℕ) (part : ℕ) (thin kept : List Choice) → part < length parts
    → is_taken taken part ≡ false
    → AreSound parts conds taken kept → ((c : Choice) → Has thin c → Has (choices_of_part parts conds part) c)
    → AreSound parts conds (taken ++ part ∷ []) (joined parts conds taken part thin kept)
sound_joined parts conds taken part thin kept less new sound only d has =
    let ties : List Tie = ties_of taken part conds in
    let rows : List Row = slice_index_or parts part [] in
    let pairs : List (Row × ℕ) = pairs_of parts ties part thin in
    let one = Has-flat_map_from (extended parts part ties pairs) kept d has in
    let c : Choice = one.0 in
    let two = Has-map_from (placed (length parts) c part) (places pairs (key_for ties (picked parts c))) d one.2 in
    let three = Has-map_from (λ (p : Row × ℕ). p.1) _ two.0 two.1 in
    let four = Has-filter_from (λ (p : Row × ℕ). same_row p.0 (key_for ties (picked parts c))) pairs three.0 three.1 in
    let key : three.0.0 ≡ key_for ties (picked parts c) = (lists_decide value_decides _ _).0 four.1 in
    let five = Has-filter_map_from (pair_of parts ties part) thin three.0 four.0 in
    let six = found_pair (nat_lt (slice_index five.0 part) (length rows))
    (key_of ties (slice_index_or rows (slice_index five.0 part) []), slice_index five.0 part) three.0 five.2 in
    let at_place : slice_index five.0 part ≡ three.0.1 = ap (λ (p : Row × ℕ). p.1) six.1 in
    let seven = choice_of_part parts conds part five.0 (only five.0 five.1) in
    let at : slice_index five.0 part ≡ seven.0 = subst (λ (e : Choice). slice_index e part ≡ seven.0) seven.1 (place_new parts taken part seven.0 [] less new) in
    let place : ℕ = two.0 in
    let same : seven.0 ≡ place = sym at ∙ at_place ∙ three.2 in
    let keys : key_of ties (slice_index_or rows place []) ≡ key_for ties (picked parts c) =
    subst (λ (p : ℕ). key_of ties (slice_index_or rows p []) ≡ key_for ties (picked parts c)) (at_place ∙ three.2) ((ap (λ (p : Row × ℕ). p.0) six.1) ∙ key) in
    let before = sound c one.1 in
    subst (λ (e : Choice). IsThereIn parts (taken ++ part ∷ []) e × AllInside parts (taken ++ part ∷ []) e conds) two.2 (
      there_extended parts taken part place c less new before.0 (subst (λ (p : ℕ). p < length rows) same seven.2),
      inside_extended parts taken part place c less new conds before.1 (subst (λ (p : ℕ). passes part conds (slice_index_or rows p []) ≡ true) same seven.3) keys,
    )
