-- An item that is written over one with its key.
use Rattle.sdd_items.proofs.All.{AllByRecursion, AreHeld, AreKeyed, Bool, Equal, FitsSigned, Greater, HasKey, IsStrictlySortedBy, IsTotalOrder, Items, Less, List, OnErr, OnOk, Option, Ordering, Result, Some, Value, [], ap, arith, cond, each_weaker, insert_entry, int_cmp, int_cmp_total, is_at, is_eq, is_newer, keys_of, le-ltb, lookup, lt-ltb, match_ordering, refl, set_value, set_value_same, sorted_head, sorted_tail, true, w64, ℕ, ℤ, ◌<◌, ◌∙◌, ◌∷◌, ◌≡◌, ◌≤◌}
use Rattle.sdd_items.proofs.Ranges.{held_put, keyed_put}

-- a key below all of some entries is none of theirs
none_below : {K X : Type 0} (R : K → K → Ordering) (es : List (K × X)) (k : K) (old : X) → AllByRecursion (λ y. R k y ≡ Less) (keys_of es)
    → lookup (is_at (R k)) es ≡ Some old → ⊥
none_below R [] k old all there = absurd cc
none_below R (e ∷ es) k old all there = none_below R es k old all.1 (rw all.0 at there)

-- in entries that ascend, to set the value at a key that is there is to put it there
pub set_is_put : {K X : Type 0} (R : K → K → Ordering) → IsTotalOrder R → (es : List (K × X)) (k : K) (v old : X) → IsStrictlySortedBy R (keys_of es)
    → lookup (is_at (R k)) es ≡ Some old → set_value (is_at (R k)) es v ≡ insert_entry R es k v
set_is_put R total [] k v old sorted there = absurd cc
set_is_put R total (e ∷ es) k v old sorted there =
    elim (R k e.0) as (λ o. R k e.0 ≡ o → cond (is_eq o) (Some e.1) (lookup (is_at (R k)) es) ≡ Some old
    → cond (is_eq o) ((e.0, v) ∷ es) (e ∷ set_value (is_at (R k)) es v) ≡ match_ordering o ((k, v) ∷ e ∷ es) ((e.0, v) ∷ es) (e ∷ insert_entry R es k v)) [
      | Less ↦ λ h found. absurd (none_below R es k old
          (each_weaker _ (λ y. R k y ≡ Less) (λ y less. total.trans k e.0 y h less) (keys_of es) (sorted_head R e.0 (keys_of es) sorted)) found)
      | Equal ↦ λ h found. refl
      | Greater ↦ λ h found. ap (λ rest. e ∷ rest) (set_is_put R total es k v old (sorted_tail R e.0 (keys_of es) sorted) found)
    ] refl there

-- what is written through the item at its key is what the write rule makes

pub written_newer : (items new : Items) (k : ℤ) (item kept : ℕ × Option (List Value)) → IsStrictlySortedBy int_cmp (keys_of items)
    → lookup (is_at (int_cmp k)) items ≡ Some kept → kept.0 < item.0 → new ≡ set_value (is_at (int_cmp k)) items item
    → new ≡ cond (is_newer item.0 (lookup (is_at (int_cmp k)) items)) (insert_entry int_cmp items k item) items
written_newer items new k item kept sorted there less made =
    rw (ap (is_newer item.0) there ∙ lt-ltb kept.0 item.0 less) (made ∙ set_is_put int_cmp int_cmp_total items k item kept sorted there)

pub written_older : (items new : Items) (k : ℤ) (item kept : ℕ × Option (List Value)) → lookup (is_at (int_cmp k)) items ≡ Some kept → item.0 ≤ kept.0
    → new ≡ set_value (is_at (int_cmp k)) items kept
    → new ≡ cond (is_newer item.0 (lookup (is_at (int_cmp k)) items)) (insert_entry int_cmp items k item) items
written_older items new k item kept there least made = grind (arith, is_at, int_cmp, le-ltb, set_value_same)

-- what items keep where one is written, by whether it is newer

pub held_written : (newer : Bool) (items : Items) (k : ℤ) (item : ℕ × Option (List Value)) → AreHeld items → FitsSigned w64 k
    → AreHeld (cond newer (insert_entry int_cmp items k item) items)
held_written newer items k item held fits = grind (arith, held_put)

pub keyed_written : (newer is_keyed now : Bool) (key : ℕ) (items : Items) (k : ℤ) (item : ℕ × Option (List Value)) → AreKeyed is_keyed key items
    → (now ≡ true → (is_keyed ≡ true) × HasKey key (k, item)) → AreKeyed now key (cond newer (insert_entry int_cmp items k item) items)
keyed_written newer is_keyed now key items k item keyed h = grind (arith, keyed_put)

-- also where memory ran out
pub kept_after : {E : Type 0} (result : Result (Unit {0}) E) (newer is_keyed now : Bool) (key : ℕ) (items new : Items) (k : ℤ) (item : ℕ × Option (List Value))
    → OnOk result (new ≡ cond newer (insert_entry int_cmp items k item) items) → OnErr result (new ≡ items)
    → AreHeld items × AreKeyed is_keyed key items → FitsSigned w64 k → (now ≡ true → (is_keyed ≡ true) × HasKey key (k, item))
    → AreHeld new × AreKeyed now key new
kept_after result newer is_keyed now key items new k item ok err before fits h = grind (arith, held_written, keyed_written)
