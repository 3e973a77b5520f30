-- A loop that reads each item of a list of a line's parts, and keeps no more than tell that they are too many.
use Rattle.sdd_script.proofs.All.{Bool, Catalogue, Column, Err, Fails, LineError, List, None, Ok, Option, RelNo, Result, Value, Word, WorkRule, WrongKind, [], along, ap, append-nil, append_assoc, arith, cases_Bool, drop, drop_all, drop_more, few, few_of, few_row, get_or, inl, inr, kind_of_place, length, length-append, length-take, ltb-false, ltb-true, must, nat_lt, ne_eqb, option_map, refl, relation_of, rule_in, slice_get, suc, sym, take, take-append-le, take_all, value_of, values_of, zero, ℕ, ◌++◌, ◌+◌, ◌<◌, ◌==◌, ◌>>=◌, ◌∙◌, ◌∷◌, ◌≡◌, ◌≤◌}
use Rattle.sdd_script.specs.Values.{row_of}
use Rattle.sdd_script.specs.Statements.{parts_of}
use Rattle.sdd_lang.proofs.base.ReadingLaws as readings

abbrev pub with_front : {B : Type 0} → List B → Result (List B) WorkRule → Result (List B) WorkRule
with_front front reading = readings.with_front front reading

-- from some place on each item is read alike
abbrev pub IsSteady : {A B : Type 0} → ℕ → (ℕ → A → Result B WorkRule) → Type 0
IsSteady {A} most f = (i : ℕ) (x : A) → most ≤ i → f i x ≡ f (i + 1) x

steady_along : {A B : Type 0} (most : ℕ) (f : ℕ → A → Result B WorkRule) → IsSteady most f → (i : ℕ) (xs : List A) → most ≤ i
    → along f i xs ≡ along f (i + 1) xs
steady_along most f steady i [] le = refl
steady_along most f steady i (x ∷ xs) le = grind (arith, (steady_along most f steady (i + 1) xs (omega arith)))

-- what is kept, and what is left to read
abbrev pub kept_and_left : {A B : Type 0} → ℕ → (ℕ → A → Result B WorkRule) → List B → List A → Result (List B) WorkRule
kept_and_left most f kept rest = few most (with_front kept (along f (length kept) rest))

-- an item that is read is kept, where there aren't too many
pub goes_few : {A B : Type 0} (most : ℕ) (f : ℕ → A → Result B WorkRule) (steady : IsSteady most f) (kept new : List B) (x : A) (y : B) (rest : List A)
    (total : Result (List B) WorkRule) → length kept ≤ most + 1 → new ≡ take (most + 1) (kept ++ y ∷ []) → f (length kept) x ≡ Ok y
    → kept_and_left most f kept (x ∷ rest) ≡ total → (length new ≤ most + 1) × (kept_and_left most f new rest ≡ total)
goes_few most f steady kept new x y rest total within is read so_far =
    let next = (grind (arith, append_assoc)) ∙ so_far in
    let long : length (kept ++ y ∷ []) ≡ length kept + 1 = length-append kept (y ∷ []) in
    elim (cases_Bool (nat_lt (length kept) (most + 1))) [
      | inl below ↦
          let lt : length kept < most + 1 = ltb-true (length kept) (most + 1) below in
          let all : new ≡ kept ++ y ∷ [] = is ∙ take_all (most + 1) (kept ++ y ∷ []) (omega (arith, long)) in
          let length_is : length new ≡ length kept + 1 = ap length all ∙ long in (
            omega (arith, length_is),
            ap (λ n. few most (with_front new (along f n rest))) length_is
                ∙ ap (λ k. few most (with_front k (along f (length kept + 1) rest))) all ∙ next,
          )
      | inr above ↦
          let ge : most + 1 ≤ length kept = ltb-false (length kept) (most + 1) above in
          let length_is : length kept ≡ most + 1 = omega (arith, ge, within) in
          let same : new ≡ kept = is ∙ take-append-le (most + 1) kept (y ∷ []) (omega arith) ∙ take_all (most + 1) kept (omega arith) in
          let later : along f (length kept) rest ≡ along f (length kept + 1) rest = steady_along most f steady (length kept) rest (omega arith) in (
            omega (arith, ap length same),
            ap (λ k. kept_and_left most f k rest) same ∙ ap (λ r. few most (with_front kept r)) later
                ∙ sym (grind (arith, append_assoc, take-append-le)) ∙ next,
          )
    ]

-- the fault of an item is that of all
pub ends_few : {A B : Type 0} (most : ℕ) (f : ℕ → A → Result B WorkRule) (kept : List B) (x : A) (rest : List A) (err : LineError)
    (total : Result (List B) WorkRule) → Fails rule_in err (f (length kept) x) → kept_and_left most f kept
    (x ∷ rest) ≡ total → Fails rule_in err total
ends_few {B = B} most f kept x rest err total fails so_far = grind arith

-- the same of an item by its index, with any default
pub goes_few_at : {A B : Type 0} (most : ℕ) (f : ℕ → A → Result B WorkRule) (steady : IsSteady most f) (kept new : List B) (xs : List A) (d : A) (i : ℕ) (y : B)
    (total : Result (List B) WorkRule) → i < length xs → length kept ≤ most + 1 → new ≡ take (most + 1) (kept ++ y ∷ [])
    → f (length kept) (get_or xs i d) ≡ Ok y
    → kept_and_left most f kept (drop i xs) ≡ total → (length new ≤ most + 1) × (kept_and_left most f new (drop (i + 1) xs) ≡ total)
goes_few_at most f steady kept new xs d i y total lt within is read so_far =
    goes_few most f steady kept new (get_or xs i d) y (drop (i + 1) xs) total within is read
    (ap (kept_and_left most f kept) (sym (drop_more xs i d lt)) ∙ so_far)

pub ends_few_at : {A B : Type 0} (most : ℕ) (f : ℕ → A → Result B WorkRule) (kept : List B) (xs : List A) (d : A) (i : ℕ) (err : LineError)
    (total : Result (List B) WorkRule) → i < length xs → Fails rule_in err (f (length kept) (get_or xs i d))
    → kept_and_left most f kept (drop i xs) ≡ total → Fails rule_in err total
ends_few_at most f kept xs d i err total lt fails so_far = grind (arith, ends_few, get_or, kept_and_left, drop_more)

-- where no item is left, all are read
pub done_few : {A B : Type 0} (most : ℕ) (f : ℕ → A → Result B WorkRule) (kept : List B) (total : Result (List B) WorkRule) → length kept ≤ most + 1
    → kept_and_left most f kept [] ≡ total → total ≡ Ok kept
done_few most f kept total within so_far = cc (so_far, append-nil kept, take_all (most + 1) kept (omega arith))

pub done_few_at : {A B : Type 0} (most : ℕ) (f : ℕ → A
    → Result B WorkRule) (kept : List B) (xs : List A) (i : ℕ) (total : Result (List B) WorkRule) → length xs ≤ i
    → length kept ≤ most + 1 → kept_and_left most f kept (drop i xs) ≡ total → total ≡ Ok kept
done_few_at most f kept xs i total past within so_far =
    done_few most f kept total within (ap (kept_and_left most f kept) (sym (drop_all i xs past)) ∙ so_far)

pub begins_few : {A B : Type 0} (most : ℕ) (f : ℕ → A → Result B WorkRule) (xs : List A) → kept_and_left most f [] xs ≡ few most (along f 0 xs)
begins_few most f xs = ap (few most) (grind arith)

pub ruleset few_loop = (ends_few, done_few, begins_few)

past_get : (columns : List Column) (i : ℕ) → length columns ≤ i → slice_get columns i ≡ None
past_get [] i past = refl
past_get (c ∷ cs) zero past = absurd (omega arith)
past_get (c ∷ cs) (suc i) past = past_get cs i (omega arith)

-- a value past the last column may be of any kind, as all that follow may
pub steady_kind : (columns : List Column) → IsSteady (length columns) (λ i w. value_of (kind_of_place columns i) w)
steady_kind columns i w past =
    let here = ap (λ o. option_map (λ (c : Column). c.kind) o) (past_get columns i past) in
    let next = ap (λ o. option_map (λ (c : Column). c.kind) o) (past_get columns (i + 1) (omega arith)) in
    cc (here, next)

-- a relation more of a query
pub part_more : (cat : Catalogue) (front : List (Option ℕ)) (word : Word) (part : Option ℕ) (words rest : List Word) (total : List (Option ℕ))
    → words ≡ word ∷ rest → part ≡ relation_of cat word
    → front ++ parts_of cat words ≡ total → (front ++ part ∷ []) ++ parts_of cat rest ≡ total
part_more cat front word part words rest total is named so_far = grind (arith, append_assoc)

pub all_parts : (cat : Catalogue) (front : List (Option ℕ)) (words : List Word) (total : List (Option ℕ)) → words ≡ []
    → front ++ parts_of cat words ≡ total → front ≡ total
all_parts cat front words total none so_far = sym (append-nil front) ∙ ap (λ (l : List Word). front ++ parts_of cat l) (sym none) ∙ so_far

answered : {A B : Type 0} (f : ℕ → A → Result B WorkRule) (i : ℕ) (xs : List A) (ys : List B) → readings.Answers f i xs ys → length ys ≡ length xs
answered f i [] [] h = refl
answered f i (x ∷ xs) (y ∷ ys) h = let more = answered f (i + 1) xs ys h.1 in omega (arith, more)
answered f i _ _ h = absurd h

-- ---- a row of which no more is read than tells that it is too long

same_count : {A : Type 0} (most : ℕ) (xs : List A) → (length (take (most + 1) xs) == most) ≡ (length xs == most)
same_count most xs = grind (arith, cases_Bool, nat_lt, ltb-true, ne_eqb, length-take, ltb-false, take_all)

abbrev with_row : RelNo → List Value → Result (RelNo × List Value) WorkRule
with_row rel row = Ok (rel, row)

counted : (rel : RelNo) (most : ℕ) (xs : List Value) (b : Bool) → (length xs == most) ≡ b
    → (must WrongKind b >>= (λ _. with_row rel (take (most + 1) xs))) ≡ (must WrongKind b >>= (λ _. with_row rel xs))
counted rel most xs b e = grind (arith, take_all)

rows_by : (columns : List Column) (rel : RelNo) (words : List Word) (read : Result (List Value) WorkRule) → values_of columns words ≡ read
    → (few (length columns) read >>= (λ row. must WrongKind (length row == length columns) >>= (λ _. with_row rel row)))
    ≡ (read >>= (λ row. must WrongKind (length words == length columns) >>= (λ _. with_row rel row)))
rows_by columns rel words (Err rule) e = refl
rows_by columns rel words (Ok xs) e =
    let n = length columns in
    let long : length xs ≡ length words =
    (answered (λ i w. value_of (kind_of_place columns i) w) 0 words xs (readings.along_ok (λ i w. value_of (kind_of_place columns i) w) 0 words xs e)) in
    simp (same_count, counted, long)

row_few : (columns : List Column) (rel : RelNo) (words : List Word)
    → few_row columns rel words ≡ (values_of columns words >>= (λ row. must WrongKind (length words == length columns) >>= (λ _. with_row rel row)))
row_few columns rel words = rows_by columns rel words (values_of columns words) refl

pub rows_same : (cat : Catalogue) (name : Word) (words : List Word) → few_of cat name words ≡ row_of cat name words
unfolding row_of
rows_same cat name words = (grind (arith, row_few))
