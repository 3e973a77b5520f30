-- Good advices for all diagonals say what the table says of its diagonals.
use Rattle.sdd_advise.proofs.All.{Advice, AdvicesSayTheTable, All-contains_itself, All-filter, Bool, Catalogue, Contains, Entry, List, [], advised, ap, arith, filter, get_or, get_or-map, is_diagonal, length, length-map, listed, map, nat_tests, refl, same_lists, sym, ℕ, ◌<◌, ◌∙◌, ◌∷◌, ◌≡◌}
use Rattle.sdd_advise.proofs.Right.{good_advice_is_right}

-- a filter by the image, before and after
map-filter : {X Y : Type 0} (f : X → Y) (p : Y → Bool) (xs : List X)
    → map f (filter (λ x. p (f x)) xs) ≡ filter p (map f xs)
map-filter f p [] = refl
map-filter f p (x ∷ xs) = grind (arith, nat_tests, (map-filter f p xs))

-- lists of equal images: what their members at one place have
images : (advices : List Advice) (entries : List Entry)
    → map (λ (a : Advice). a.edge) advices ≡ map (λ (e : Entry). e.edge) entries
    → ((k : ℕ) (a : Advice) (e : Entry) → k < length advices → (get_or entries k e).edge ≡ (get_or advices k a).edge → (get_or entries k e).protocol ≡
    (get_or advices k a).protocol)
    → map advised advices ≡ map listed entries
images advices entries same right =
    let long : length advices ≡ length entries = sym (length-map advices (λ a. a.edge)) ∙ ap length same ∙ length-map entries (λ e. e.edge) in
    let one = length-map advices advised in
    same_lists (map advised advices) (map listed entries) (omega (arith, length-map entries listed))
    (λ k d l.
    let within : k < length advices = omega arith in
    let there : k < length entries = omega arith in
    let a : Advice = record { edge = d.0; protocol = d.1; cycle = []; apart = [] } in
    let e : Entry = record { edge = d.0; block = 0; protocol = d.1 } in
    let edge : (get_or entries k e).edge ≡ (get_or advices k a).edge =
    sym (get_or-map (λ (z : Entry). z.edge) entries k e d.0 there) ∙ ap (λ z. get_or z k d.0) (sym same)
    ∙ get_or-map (λ (z : Advice). z.edge) advices k a d.0 within in
    get_or-map advised advices k a d within
    ∙ ap (λ z. (z, (get_or advices k a).protocol)) (sym edge)
    ∙ ap (λ z. ((get_or entries k e).edge, z)) (sym (right k a e within edge))
    ∙ sym (get_or-map listed entries k e d there))

pub advices_say_the_table : (cat : Catalogue) → AdvicesSayTheTable cat
advices_say_the_table cat entries t advices are =
    let found : List Entry = filter (λ (e : Entry). is_diagonal e.edge) entries in
    let same : map (λ (a : Advice). a.edge) advices ≡ map (λ (e : Entry). e.edge) found =
    are.edges ∙ ap (filter is_diagonal) (sym t.edges) ∙ sym (map-filter (λ (e : Entry). e.edge) is_diagonal entries) in
    images advices found same
    (λ k a e l edge.
    let m : k < length found = omega (arith, sym (length-map advices (λ a. a.edge)) ∙ ap length same ∙ length-map found (λ e. e.edge)) in
    good_advice_is_right cat entries t (get_or advices k a) (are.good k a l) (get_or found k e)
    (All-filter (λ (x : Entry). is_diagonal x.edge) (Contains entries) entries (All-contains_itself entries) k e m) edge)
