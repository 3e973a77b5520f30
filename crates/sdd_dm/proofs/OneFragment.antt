-- A fragment of a relation whose range holds a key is the one of that key.
use Rattle.sdd_dm.proofs.All.{Catalogue, Cover, FitsSigned, HoldsKey, IsHolder, IsNumberFor, IsOf, IsSoundCatalogue, IsWithin, KeyRange, List, all_keys, arith, at_most, cases_lt, false, fragment_of, get_or_default, greatest_key, holder_of_key, holds_key, int_le, ints, least_key, length, nat_tests, not_at_most, one_holder, parts_of, pos, ranges_for, refl, slice_index_or as get_or, suc, table_cover, true, w64, zero, ℕ, ℤ, ◌+◌, ◌-◌, ◌<◌, ◌∙◌, ◌≡◌, ◌≤ℤ◌, ◌≤◌}

abbrev no_range : KeyRange
no_range = record { number = 0; from = pos 0; to = pos 0 }

-- a range from some place on holds the key
range_from : (ranges : List KeyRange) → Cover ranges → (key : ℤ) → key ≤ℤ greatest_key → (fuel i : ℕ) → i + fuel ≡ length ranges
    → 0 < fuel → (get_or ranges i no_range).from ≤ℤ key
    → (j : ℕ) × (j < length ranges) × ((get_or ranges j no_range).from ≤ℤ key) × (key ≤ℤ (get_or ranges j no_range).to)
range_from ranges cover key most zero i e some low = absurd (omega arith)
range_from ranges cover key most (suc fuel) i e some low =
    elim (int_le key (get_or ranges i no_range).to) as
    (λ b. int_le key (get_or ranges i no_range).to ≡ b → (j : ℕ) × (j < length ranges) × ((get_or ranges j no_range).from ≤ℤ key) × (key ≤ℤ (get_or ranges j no_range).to)) [
      | true ↦ λ h. (i, omega arith, low, at_most _ _ h)
      | false ↦ λ h.
          let past = not_at_most key (get_or ranges i no_range).to h in
          let end : length ranges - 1 ≡ i → greatest_key ≤ℤ (get_or ranges i no_range).to = λ n. rw n at (cover.last no_range) in
          let within : i + 1 < length ranges = (grind (arith, nat_tests, cases_lt)) in
          range_from ranges cover key most fuel (i + 1) (omega arith) (omega arith) (omega (arith, ints, cover.near i no_range within))
    ] refl

int_trans : (a b c : ℤ) → a ≤ℤ b → b ≤ℤ c → a ≤ℤ c
int_trans a b c h k = omega (arith, ints)

-- a range of each relation holds a key of 64 bits
numbered_range : (cat : Catalogue) → IsSoundCatalogue cat → (rel : ℕ) (key : ℤ) → 1 ≤ rel → rel ≤ length cat.relations → IsWithin key all_keys
    → (n : ℕ) × IsNumberFor (ranges_for (parts_of cat) (rel - 1)) key n
numbered_range cat sound rel key from to held =
    let ranges : List KeyRange = ranges_for (parts_of cat) (rel - 1) in
    let cover = table_cover cat sound (rel - 1) (omega arith) in
    let place = range_from ranges cover key held.1 (length ranges) 0 (omega arith) cover.some (int_trans _ least_key key (cover.first no_range) held.0) in
    ((get_or ranges place.0 no_range).number, (place.0, λ d. rw (get_or_default ranges place.0 d no_range place.1) (place.1, place.2, place.3, refl)))

pub holder_is_fragment : (cat : Catalogue) → IsSoundCatalogue cat → (rel : ℕ) (key : ℤ) (f : ℕ) → 1 ≤ rel → rel ≤ length cat.relations
    → FitsSigned w64 key → 1 ≤ f → f ≤ length cat.fragments → holds_key cat rel key f ≡ true → f ≡ fragment_of cat rel key
holder_is_fragment cat sound rel key f from to fits first last holds =
    let held : IsWithin key all_keys = omega (arith, ints, fits) in
    let number = numbered_range cat sound rel key from to held in
    let one = one_holder cat sound rel key number.0 from to number.1 in
    let here : IsHolder cat rel key f = holder_of_key cat rel key f holds in
    let there : IsOf cat rel f = record { from = first; to = last; rel_is = here.rel_is } in
    let holds_it : HoldsKey cat f key = record { from = here.from; to = here.to } in
    one.only f there holds_it ∙ one.number
