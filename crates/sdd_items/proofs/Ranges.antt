-- Items by ranges of keys.
use Rattle.sdd_items.proofs.All.{All, All-from_recursion, AllByRecursion, AreHeld, AreKeyed, Bool, FitsSigned, HasHeldKey, HasKey, IfSome, Int, Interval, IsNear, IsOfKeys, IsWithin, Items, List, None, Option, Restriction, Some, Value, [], all_keys, allowed_key, allowed_keys, arith, column, common, each_inserted, exact_signed, false, filter, filter_none, filter_same, holds_some, insert_entry, int_cmp, int_le, int_ranks, ints, is_le, is_lt, is_within, list_all, meets, not, recursion_from_All, true, w64, within_common, ℕ, ℤ, ◌&&◌, ◌∷◌, ◌≡◌}

abbrev Item : Type 0
Item = ℤ × (ℕ × Option (List Value))

-- an item is put at its key

pub held_put : (items : Items) (k : ℤ) (item : ℕ × Option (List Value)) → AreHeld items → FitsSigned w64 k
    → AreHeld (insert_entry int_cmp items k item)
held_put items k item held fits =
    All-from_recursion HasHeldKey (insert_entry int_cmp items k item)
    (each_inserted int_cmp exact_signed HasHeldKey items k item (recursion_from_All HasHeldKey items held) fits)

pub keyed_put : (is_keyed now : Bool) (key : ℕ) (items : Items) (k : ℤ) (item : ℕ × Option (List Value)) → AreKeyed is_keyed key items
    → (now ≡ true → (is_keyed ≡ true) × HasKey key (k, item)) → AreKeyed now key (insert_entry int_cmp items k item)
keyed_put is_keyed now key items k item keyed h is =
    let both = h is in
    All-from_recursion (HasKey key) (insert_entry int_cmp items k item)
    (each_inserted int_cmp exact_signed (HasKey key) items k item (recursion_from_All (HasKey key) items (keyed both.0)) both.1)

-- keys between two others

not_below : (from k : ℤ) → is_le (int_cmp from k) ≡ int_le from k
not_below from k = grind (arith, int_cmp, is_le, int_le, int_ranks)

not_above : (to k : ℤ) → not (is_lt (int_cmp to k)) ≡ int_le k to
not_above to k = grind (arith, int_cmp, is_lt, int_le, int_ranks)

abbrev is_between : ℤ → ℤ → ℤ → Bool
is_between from to k = is_le (int_cmp from k) && not (is_lt (int_cmp to k))

-- the items between the ends of keys are those with these keys
pub items_within : (from to : ℤ) (keys : Interval) (items : Items) → from ≡ keys.0 → to ≡ keys.1
    → filter (λ e. is_between from to e.0) items ≡ filter (λ e. is_within keys e.0) items
items_within from to keys items low high = grind (arith, filter_same, Item, is_between, not_below, not_above, int_le)

pub both_ways : (b : Bool) → (b && not b) ≡ false
both_ways b = grind arith

-- no item lies after a key and before it
pub items_nowhere : (key : ℤ) (items : Items) → filter (λ e. is_le (int_cmp key e.0) && not (is_le (int_cmp key e.0))) items ≡ []
items_nowhere key items = grind (arith, filter_none, Item, is_le, int_cmp, both_ways)

-- nor has one a key of no keys
pub items_of_none : (keys : Interval) (items : Items) → holds_some keys ≡ false → filter (λ e. is_within keys e.0) items ≡ []
items_of_none keys items none = filter_none (λ (e : Item). is_within keys e.0) (λ e. (grind (arith, ints))) items

-- the keys of rows that meet restrictions

near_item : (key : ℕ) (restrictions : List Restriction) (k : ℤ) (row : Option (List Value)) → FitsSigned w64 k
    → IfSome row (λ r. column r key ≡ Int k) → AllByRecursion (IsOfKeys key) restrictions
    → IfSome row (λ r. list_all (meets r) restrictions ≡ true → IsWithin k (common (allowed_keys key restrictions) all_keys))
near_item key restrictions k None fits is of = tt
near_item key restrictions k (Some r) fits is of = λ met.
    let all : IsWithin k all_keys = (grind (arith, ints)) in
    within_common k (allowed_keys key restrictions) all_keys (allowed_key key r k restrictions is all of met) all

allowed_each : (key : ℕ) (restrictions : List Restriction) (items : Items) → AllByRecursion (IsOfKeys key) restrictions
    → AllByRecursion HasHeldKey items → AllByRecursion (HasKey key) items
    → AllByRecursion (IsNear restrictions (allowed_keys key restrictions)) items
allowed_each key restrictions [] of held keyed = tt
allowed_each key restrictions (e ∷ items) of held keyed = grind (arith, near_item, (allowed_each key restrictions items of held.1 keyed.1))

-- where rows have their keys in a column, the keys that restrictions on it allow are near
pub allowed_near : (key : ℕ) (restrictions : List Restriction) (items : Items) → All (IsOfKeys key) restrictions
    → AreHeld items → All (HasKey key) items → All (IsNear restrictions (allowed_keys key restrictions)) items
allowed_near key restrictions items of held keyed =
    All-from_recursion (IsNear restrictions (allowed_keys key restrictions)) items
    (allowed_each key restrictions items (recursion_from_All (IsOfKeys key) restrictions of)
    (recursion_from_All HasHeldKey items held) (recursion_from_All (HasKey key) items keyed))

any_each : (restrictions : List Restriction) (items : Items) → AllByRecursion HasHeldKey items
    → AllByRecursion (IsNear restrictions all_keys) items
any_each restrictions [] held = tt
any_each restrictions (e ∷ items) held = ((grind (arith, within_common, ints)), any_each restrictions items held.1)

-- all keys are near
pub all_near : (restrictions : List Restriction) (items : Items) → AreHeld items → All (IsNear restrictions all_keys) items
all_near restrictions items held = grind (arith, any_each, recursion_from_All)
