-- The rows of a relation with keys from one to another are those between two items.
use Rattle.sdd_plain.proofs.All.{Bool, Database, Equal, Interval, Item, Ordering, Row, [], and_false, arith, cases_order, eq-eqb, eqb-true, false, filter, filter_none, filter_same, holds_some, int_cmp, int_le, int_ranks, ints, is_le, is_lt, is_within, item_cmp, nat_cmp_is, not, ordering_then, refl, ℕ, ℤ, ◌&&◌, ◌==◌, ◌∙◌, ◌≡◌}

-- whether an item is between the ends of an interval of a relation's keys
abbrev pub is_between : ℕ → Interval → Item → Bool
is_between rel keys item = is_le (item_cmp (rel, keys.0) item) && not (is_lt (item_cmp (rel, keys.1) item))

not_below : (from k : ℤ) → is_le (int_cmp from k) ≡ int_le from k
not_below from k = grind (arith, int_cmp, is_le, int_le, int_ranks)

not_above : (to k : ℤ) → not (is_lt (int_cmp to k)) ≡ int_le k to
not_above to k = grind (arith, int_cmp, is_lt, int_le, int_ranks)

-- an order of two numbers and how it compares items
abbrev between_by : Ordering → Interval → ℤ → Bool
between_by r keys key = is_le (ordering_then r (int_cmp keys.0 key)) && not (is_lt (ordering_then r (int_cmp keys.1 key)))

between_equal : (keys : Interval) (key : ℤ) → between_by Equal keys key ≡ is_within keys key
between_equal keys key = rw (not_below keys.0 key, not_above keys.1 key) refl

pub between_is : (rel : ℕ) (keys : Interval) (item : Item) → is_between rel keys item ≡ ((item.0 == rel) && is_within keys item.1)
between_is rel keys item = grind (arith, cases_order, is_between, between_by, nat_cmp_is, between_equal, eq-eqb, eqb-true)

-- the entries between are those of the relation with such keys
pub entries_between : (rel : ℕ) (keys : Interval) (db : Database)
    → filter (λ e. is_between rel keys e.0) db ≡ filter (λ e. (e.0.0 == rel) && is_within keys e.0.1) db
entries_between rel keys db = grind (arith, filter_same, is_between, between_is)

-- so are those between ends that are the ends of keys
pub entries_within : (rel : ℕ) (from to : ℤ) (keys : Interval) (db : Database) → from ≡ keys.0 → to ≡ keys.1
    → filter (λ e. is_between rel (from, to) e.0) db ≡ filter (λ e. (e.0.0 == rel) && is_within keys e.0.1) db
entries_within rel from to keys db low high =
    entries_between rel (from, to) db
    ∙ filter_same (λ (e : Item × Row). (e.0.0 == rel) && is_within (from, to) e.0.1) (λ (e : Item × Row). (e.0.0 == rel) && is_within keys e.0.1)
    (grind (arith, int_le))
    db

-- no entry lies after an item and before it
pub entries_nowhere : (item : Item) (db : Database) → filter (λ e. is_le (item_cmp item e.0) && not (is_le (item_cmp item e.0))) db ≡ []
entries_nowhere item db = grind (arith, filter_none, is_le)

-- nor has one a key of no keys
no_key : (keys : Interval) → holds_some keys ≡ false → (k : ℤ) → is_within keys k ≡ false
no_key keys none k = grind (arith, ints)

pub entries_of_none : (rel : ℕ) (keys : Interval) (db : Database) → holds_some keys ≡ false
    → filter (λ e. (e.0.0 == rel) && is_within keys e.0.1) db ≡ []
entries_of_none rel keys db none = grind (arith, filter_none, and_false, no_key)
