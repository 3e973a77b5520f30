-- The steps of the loops of a join.
use Rattle.sdd_exec.proofs.All.{Condition, List, None, Option, Row, Some, Tie, [], ap, append-nil, append_assoc, arith, at_drop_more, cases_Bool, cond, cons_option, distinct, drop, false, filter-append, filter_map, filter_map-append, flat_map, flat_map-append, fold, fold-append, insert_key, key_of, keyed, length, lists_decide, map-append, map-range_with_len_more, match_ordering, option_map_or, passes, placed, places, refl, row_cmp, same_row, slice_index, slice_index_or as get_or, sym, take, take-append-drop, take_more, true, value_decides, with_found, ℕ, ⊎_elim, ◌++◌, ◌+◌, ◌<◌, ◌==◌, ◌∙◌, ◌∷◌, ◌≡◌, ◌≤◌}

pub filter_map_more : {X Y : Type 0} (f : X → Option Y) (xs : List X) (i : ℕ) (d : X) (y : Y) → i < length xs → f (get_or xs i d) ≡ Some y
    → filter_map f (take (i + 1) xs) ≡ filter_map f (take i xs) ++ y ∷ []
filter_map_more f xs i d y h e = rw (take_more xs i d h, filter_map-append, e)

pub filter_map_same : {X Y : Type 0} (f : X → Option Y) (xs : List X) (i : ℕ) (d : X) → i < length xs → f (get_or xs i d) ≡ None
    → filter_map f (take (i + 1) xs) ≡ filter_map f (take i xs)
filter_map_same f xs i d h e = rw (take_more xs i d h, filter_map-append, e) (append-nil _)

pub ruleset tie_steps = (filter_map_more, filter_map_same)

pub keyed_more : (part : ℕ) (conds : List Condition) (ties : List Tie) (i : ℕ) (rows : List Row) (d : Row) (done : List (Row × ℕ)) → i < length rows
    → (done ++ keyed part conds ties i (get_or rows i d ∷ [])) ++ keyed part conds ties (i + 1) (drop (i + 1) rows) ≡ done ++ keyed part conds ties i (drop i rows)
keyed_more part conds ties i rows d done h =
    rw (at_drop_more (keyed part conds ties i) rows i d h)
    (grind (arith, passes, get_or, key_of, keyed, append_assoc, append-nil))

pub ruleset key_steps = (keyed_more)

pub with_found_more : {X : Type 0} (f : X → Option Row) (kept : List X) (i : ℕ) (d : X) → i < length kept
    → distinct (filter_map f (take (i + 1) kept)) ≡ with_found (f (get_or kept i d)) (distinct (filter_map f (take i kept)))
with_found_more f kept i d h =
    rw (take_more kept i d h, filter_map-append, fold-append)
    (grind (arith, get_or, insert_key, row_cmp, distinct, filter_map, cons_option, with_found))

insert_longer : (xs : List Row) (k : Row) → length xs ≤ length (insert_key row_cmp xs k)
insert_longer [] k = omega arith
insert_longer (x ∷ xs) k = grind (arith, insert_key, match_ordering, (insert_longer xs k))

abbrev insert_all : List Row → List Row → List Row
insert_all kept rows = fold (λ kept row. insert_key row_cmp kept row) kept rows

fold_longer : (rows kept : List Row) → length kept ≤ length (insert_all kept rows)
fold_longer [] kept = omega arith
fold_longer (r ∷ rows) kept = let one = insert_longer kept r in let rest = fold_longer rows (insert_key row_cmp kept r) in omega arith

-- what a part of the choices adds is no more than what all add
pub part_is_fewer : {X : Type 0} (f : X → Option Row) (kept : List X) (i room : ℕ)
    → room < length (distinct (filter_map f (take i kept))) → room < length (distinct (filter_map f kept))
part_is_fewer f kept i room h =
    let split : distinct (filter_map f (take i kept ++ drop i kept)) ≡ insert_all (distinct (filter_map f (take i kept))) (filter_map f (drop i kept)) = rw
    (filter_map-append, fold-append) in
    let longer = fold_longer (filter_map f (drop i kept)) (distinct (filter_map f (take i kept))) in
    let more : room < length (distinct (filter_map f (take i kept ++ drop i kept))) = rw split (omega arith) in
    rw (take-append-drop i kept) at more

pub ruleset answer_steps = (with_found_more, part_is_fewer)

pub placed_more : (p : ℕ) (choice : List ℕ) (part place : ℕ) (before after : List ℕ) (next : ℕ) → before ≡ placed p choice part place
    → next ≡ cond (p == part) place (slice_index choice p) → after ≡ before ++ next ∷ [] → after ≡ placed (p + 1) choice part place
placed_more p choice part place before after next e f g =
    let more = map-range_with_len_more (λ (q : ℕ). cond (q == part) place (slice_index choice q)) 0 p p (omega arith) in
    rw (g, e, f, more)

pub group_step : {V : Type 0} (items : V → List ℕ) (old mid new : Row → Option V) (key : Row) (place : ℕ) (taken more : V)
    → items taken ≡ option_map_or items (old key) [] → items more ≡ items taken ++ place ∷ []
    → ((q : Row) → mid q ≡ cond (same_row key q) None (old q)) → ((q : Row) → new q ≡ cond (same_row key q) (Some more) (mid q))
    → (q : Row) → option_map_or items (new q) [] ≡ option_map_or items (old q) [] ++ places ((key, place) ∷ []) q
group_step items old mid new key place taken more t m others put q =
    ⊎_elim
    (λ (yes : same_row key q ≡ true). let same : key ≡ q = ((lists_decide value_decides key q).0 yes) in rw (put q, yes) (m ∙ rw (t, same)))
    (λ (no : same_row key q ≡ false). rw (put q, others q, no) (sym (append-nil _)))
    (cases_Bool (same_row key q))

pub keyed_next : (part : ℕ) (conds : List Condition) (ties : List Tie) (i : ℕ) (rows : List Row) (row : Row) (before after all : List (Row × ℕ))
    → i < length rows → row ≡ get_or rows i row → after ≡ before ++ keyed part conds ties i (row ∷ [])
    → before ++ keyed part conds ties i (drop i rows) ≡ all
    → after ++ keyed part conds ties (i + 1) (drop (i + 1) rows) ≡ all
keyed_next part conds ties i rows row before after all h e f g = rw f ((rw (← e) at (keyed_more part conds ties i rows row before h)) ∙ g)

pub places-append : (xs ys : List (Row × ℕ)) (q : Row) → places (xs ++ ys) q ≡ places xs q ++ places ys q
places-append xs ys q = rw (filter-append, map-append)

-- the places of one more pair are with its key
pub grouped_next : (now next all : Row → List ℕ) (pair : Row × ℕ) (rest : List (Row × ℕ)) → ((q : Row) → now q ++ places (pair ∷ rest) q ≡ all q)
    → ((q : Row) → next q ≡ now q ++ places (pair ∷ []) q) → (q : Row) → next q ++ places rest q ≡ all q
grouped_next now next all pair rest whole step q = grind (arith, places-append, append_assoc)

-- the places of an untied part's rows: those so far, with those that are left, are all
pub untied_next : (part : ℕ) (conds : List Condition) (i : ℕ) (rows : List Row) (row : Row) (before after all : List ℕ)
    → i < length rows → row ≡ get_or rows i row → after ≡ before ++ places (keyed part conds [] i (row ∷ [])) []
    → before ++ places (keyed part conds [] i (drop i rows)) [] ≡ all
    → after ++ places (keyed part conds [] (i + 1) (drop (i + 1) rows)) [] ≡ all
untied_next part conds i rows row before after all h e f g =
    let first : List (Row × ℕ) = keyed part conds [] i (row ∷ []) in
    let rest : List (Row × ℕ) = keyed part conds [] (i + 1) (drop (i + 1) rows) in
    let split : places (keyed part conds [] i (drop i rows)) [] ≡ places first [] ++ places rest [] =
    ap (λ (pairs : List (Row × ℕ)). places pairs []) (sym (rw (← e) at (keyed_more part conds [] i rows row [] h))) ∙ places-append first rest [] in
    cc (f, append_assoc before (places first []) (places rest []), split, g)

pub flat_map_next : {X Y : Type 0} (f : X → List Y) (xs : List X) (i : ℕ) (x : X) (before after piece : List Y)
    → i < length xs → x ≡ get_or xs i x → piece ≡ f x → after ≡ before ++ piece → before ≡ flat_map f (take i xs)
    → after ≡ flat_map f (take (i + 1) xs)
flat_map_next f xs i x before after piece h e p g b =
    let one : flat_map f (get_or xs i x ∷ []) ≡ piece = rw append-nil (ap f (sym e) ∙ sym p) in
    rw (g, b, take_more xs i x h, flat_map-append, one)

pub flat_map_same : {X Y : Type 0} (f g : X → List Y) (xs : List X) → ((x : X) → f x ≡ g x) → flat_map f xs ≡ flat_map g xs
flat_map_same f g [] same = refl
flat_map_same f g (x ∷ xs) same = rw (same x, flat_map_same f g xs same)

pub found_next : {X : Type 0} (f : X → Option Row) (kept : List X) (i : ℕ) (choice : X) (before after : List Row)
    → i < length kept → choice ≡ get_or kept i choice → after ≡ with_found (f choice) before → before ≡ distinct (filter_map f (take i kept))
    → after ≡ distinct (filter_map f (take (i + 1) kept))
found_next f kept i choice before after h e g b = grind (arith, filter_map, with_found_more)
