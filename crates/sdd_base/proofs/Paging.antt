-- What a sink took of pages, one after the other.
use Rattle.sdd_base.proofs.All.{List, None, OnErr, Option, Result, Some, [], add-one, ap, append-nil, append_assoc, arith, drop, drop-cons, flat_map, flat_map-append, get_or, length, length-append, nat_tests, refl, sym, take, take-append-drop, take-append_seam, take_more, with_end, ℕ, ◌++◌, ◌+◌, ◌-◌, ◌<◌, ◌∙◌, ◌∷◌, ◌≡◌, ◌≤◌}

-- the bytes of pages
abbrev pub joined : List (List ℕ) → List ℕ
joined pages = flat_map (λ page. page) pages

pub with_both : (known : Option (List ℕ)) (xs ys : List ℕ) → with_end (with_end known xs) ys ≡ with_end known (xs ++ ys)
with_both None xs ys = refl
with_both (Some t) xs ys = ap Some (append_assoc t xs ys)

-- a text was taken up to some byte of a piece of it
pub part_taken : (known : Option (List ℕ)) (before piece after whole : List ℕ) (n : ℕ) → whole ≡ before ++ (piece ++ after)
    → (m : ℕ) × (with_end (with_end known before) (take n piece) ≡ with_end known (take m whole))
part_taken known before piece after whole n is =
    let front : List ℕ = before ++ take n piece in
    let cut : (take n piece ++ drop n piece) ++ after ≡ take n piece ++ (drop n piece ++ after) =
    append_assoc (take n piece) (drop n piece) after in
    let parts : whole ≡ front ++ (drop n piece ++ after) =
    is ∙ ap (λ xs. before ++ (xs ++ after)) (sym (take-append-drop n piece)) ∙ ap (λ xs. before ++ xs) cut
    ∙ sym (append_assoc before (take n piece) (drop n piece ++ after)) in (
      length front,
      with_both known before (take n piece)
          ∙ ap (with_end known) (sym (ap (take (length front)) parts ∙ take-append_seam front (drop n piece ++ after))),
    )

-- pages are those before one, this one, and those after it
pub at_page : (pages : List (List ℕ)) (i : ℕ) (page : List ℕ) → i < length pages → page ≡ get_or pages i page
    → joined pages ≡ joined (take i pages) ++ (page ++ joined (drop (i + 1) pages))
at_page pages i page within is =
    let step : joined (drop i pages) ≡ page ++ joined (drop (i + 1) pages) =
    rw (drop-cons pages i page within, ← is, add-one i) refl in
    ap joined (sym (take-append-drop i pages)) ∙ flat_map-append (λ (p : List ℕ). p) (take i pages) (drop i pages)
    ∙ ap (λ xs. joined (take i pages) ++ xs) step

-- one page more
pub page_more : (pages : List (List ℕ)) (i : ℕ) (page : List ℕ) → i < length pages → page ≡ get_or pages i page
    → joined (take (i + 1) pages) ≡ joined (take i pages) ++ page
page_more pages i page within is =
    ap joined (take_more pages i page within ∙ ap (λ (p : List ℕ). take i pages ++ p ∷ []) (sym is))
    ∙ flat_map-append (λ (p : List ℕ). p) (take i pages) (page ∷ [])
    ∙ ap (λ xs. joined (take i pages) ++ xs) (append-nil page)

-- there is room for a page where there is room for all
pub page_left : (pages : List (List ℕ)) (i : ℕ) (page bytes : List ℕ) (room : ℕ) → i < length pages → page ≡ get_or pages i page
    → bytes ≡ page → length (joined pages) ≤ room → length bytes ≤ room - length (joined (take i pages))
page_left pages i page bytes room within is same fits =
    let before : List ℕ = joined (take i pages) in
    let after : List ℕ = joined (drop (i + 1) pages) in
    let all : length (joined pages) ≡ length (before ++ (page ++ after)) = ap length (at_page pages i page within is) in
    let long : length bytes ≡ length page = ap length same in
    omega (arith, all, long, length-append before (page ++ after), length-append page after)

-- and after it for those that follow
pub room_left : (pages : List (List ℕ)) (i : ℕ) (page bytes : List ℕ) (room : ℕ) → i < length pages → page ≡ get_or pages i page
    → bytes ≡ page → (room - length (joined (take i pages))) - length bytes ≡ room - length (joined (take (i + 1) pages))
room_left pages i page bytes room within is same =
    let before : List ℕ = joined (take i pages) in
    let more : length (joined (take (i + 1) pages)) ≡ length (before ++ page) = ap length (page_more pages i page within is) in
    let long : length bytes ≡ length page = ap length same in
    omega (arith, more, long, length-append before page)

-- one page more was taken
pub pages_taken : (known mid now : Option (List ℕ)) (pages : List (List ℕ)) (i : ℕ) (page bytes : List ℕ) → i < length pages
    → page ≡ get_or pages i page → bytes ≡ page → mid ≡ with_end known (joined (take i pages)) → now ≡ with_end mid bytes
    → now ≡ with_end known (joined (take (i + 1) pages))
pages_taken known mid now pages i page bytes within is same before taken =
    taken ∙ ap (λ (t : Option (List ℕ)). with_end t bytes) before ∙ with_both known (joined (take i pages)) bytes
    ∙ ap (λ (xs : List ℕ). with_end known (joined (take i pages) ++ xs)) same
    ∙ ap (with_end known) (sym (page_more pages i page within is))

-- a page was taken up to some byte
pub front_taken : (known mid now : Option (List ℕ)) (pages : List (List ℕ)) (i : ℕ) (page bytes : List ℕ) → i < length pages
    → page ≡ get_or pages i page → bytes ≡ page → mid ≡ with_end known (joined (take i pages))
    → (n : ℕ) × (now ≡ with_end mid (take n bytes)) → (n : ℕ) × (now ≡ with_end known (take n (joined pages)))
front_taken known mid now pages i page bytes within is same before front =
    let n : ℕ = front.0 in
    let part = part_taken known (joined (take i pages)) page (joined (drop (i + 1) pages)) (joined pages) n (at_page pages i page within is) in (
      part.0,
      front.1 ∙ ap (λ (t : Option (List ℕ)). with_end t (take n bytes)) before
          ∙ ap (λ (xs : List ℕ). with_end (with_end known (joined (take i pages))) (take n xs)) same
          ∙ part.1,
    )

-- the first of two parts was taken up to some byte
pub first_part : (known now : Option (List ℕ)) (first second whole : List ℕ) → first ++ second ≡ whole
    → (n : ℕ) × (now ≡ with_end known (take n first)) → (n : ℕ) × (now ≡ with_end known (take n whole))
first_part known now first second whole is front =
    let cut : List ℕ = take front.0 first in
    let rest : List ℕ = drop front.0 first in
    let parts : whole ≡ cut ++ (rest ++ second) =
    sym is ∙ ap (λ (xs : List ℕ). xs ++ second) (sym (take-append-drop front.0 first)) ∙ append_assoc cut rest second in
    (length cut, front.1 ∙ ap (with_end known) (sym (ap (take (length cut)) parts ∙ take-append_seam cut (rest ++ second))))

-- the first was taken, and the second up to some byte
pub second_part : (known mid now : Option (List ℕ)) (first second whole : List ℕ) → first ++ second ≡ whole
    → mid ≡ with_end known first → (n : ℕ) × (now ≡ with_end mid (take n second))
    → (n : ℕ) × (now ≡ with_end known (take n whole))
second_part known mid now first second whole is taken front =
    let n : ℕ = front.0 in
    let part = part_taken known first second [] whole n (sym is ∙ ap (λ (xs : List ℕ). first ++ xs) (sym (append-nil second))) in
    (part.0, front.1 ∙ ap (λ (t : Option (List ℕ)). with_end t (take n second)) taken ∙ part.1)

-- what holds in any case, and what follows, where a call failed
pub on_err : {T E : Type 0} (r : Result T E) (P : Type 0) → P → OnErr r P
on_err r P p = grind (arith, nat_tests)

pub on_err_more : {T E : Type 0} (r : Result T E) (P Q : Type 0) → (P → Q) → OnErr r P → OnErr r Q
on_err_more r P Q f p = grind (arith, nat_tests)
