-- Among the items with keys near restrictions are all whose rows meet these.
pub use Rattle.sdd_items.proofs.Ranges.{both_ways}
use Rattle.sdd_copy.proofs.All.{All, AllByRecursion, Interval, IsNear, Items, List, Option, Restriction, Value, [], all_keys, and_both, ap, arith, common, filter, filter-append, filter_map-append, int_le, is_within, le_true, list_all, map, map-append, recursion_from_All, refl, rows_meeting, sym, ℕ, ℤ, ◌++◌, ◌∙◌, ◌∷◌, ◌≡◌}

abbrev Item : Type 0
Item = ℤ × (ℕ × Option (List Value))

-- the rows that meet restrictions, one item more

pub meeting-append : (restrictions : List Restriction) (xs ys : Items)
    → rows_meeting restrictions (xs ++ ys) ≡ rows_meeting restrictions xs ++ rows_meeting restrictions ys
meeting-append restrictions xs ys = grind (arith, list_all, filter_map-append, filter-append)

pub met_end : {B : Type 0} (f : B → Item) (restrictions : List Restriction) (rows more : List (ℤ × List Value)) (xs : List B) (x : B)
    → rows ≡ rows_meeting restrictions (map f xs)
    → more ≡ rows ++ rows_meeting restrictions (f x ∷ []) → more ≡ rows_meeting restrictions (map f (xs ++ x ∷ []))
met_end f restrictions rows more xs x h add = grind (arith, meeting-append, map-append)

-- the items with such keys

abbrev pub near_to : Interval → Items → Items
near_to keys items = filter (λ e. is_within (common keys all_keys) e.0) items

-- an item that isn't near gives no row

near_each : (restrictions : List Restriction) (keys : Interval) (items : Items) → AllByRecursion (IsNear restrictions keys) items
    → rows_meeting restrictions (near_to keys items) ≡ rows_meeting restrictions items
near_each restrictions keys [] near = refl
near_each restrictions keys (e ∷ items) near = grind (arith, meeting-append, near_to, and_both, int_le, le_true, list_all, (near_each restrictions keys items near.1))

-- among the items with such keys are all whose rows meet the restrictions
pub near_rows : (restrictions : List Restriction) (keys : Interval) (items : Items) → All (IsNear restrictions keys) items
    → rows_meeting restrictions (near_to keys items) ≡ rows_meeting restrictions items
near_rows restrictions keys items near = near_each restrictions keys items (recursion_from_All (IsNear restrictions keys) items near)

pub near_rows_there : (restrictions : List Restriction) (keys : Interval) (items : Items) (rows : List (ℤ × List Value))
    → rows ≡ rows_meeting restrictions (near_to keys items) → All (IsNear restrictions keys) items
    → rows ≡ rows_meeting restrictions items
near_rows_there restrictions keys items rows there near = there ∙ near_rows restrictions keys items near

-- so also where there is but one
pub near_row_there : (restrictions : List Restriction) (keys : Interval) (items : Items) (rows : List (ℤ × List Value)) (key : ℤ)
    → common keys all_keys ≡ (key, key) → rows ≡ rows_meeting restrictions (filter (λ e. is_within (key, key) e.0) items)
    → All (IsNear restrictions keys) items → rows ≡ rows_meeting restrictions items
near_row_there restrictions keys items rows key one there near =
    there
    ∙ ap (λ (k : Interval). rows_meeting restrictions (filter (λ e. is_within k e.0) items)) (sym one)
    ∙ near_rows restrictions keys items near
