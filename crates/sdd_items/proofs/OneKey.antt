-- Where one key is asked for, its item is the one that the map finds there.
use Rattle.sdd_items.proofs.All.{AllByRecursion, Bool, Equal, Greater, IsStrictlySortedBy, Items, Less, List, Option, Some, Value, [], ap, arith, cond, false, filter, int_cmp, int_ranked, ints, is_at, is_eq, is_within, keys_of, lookup, one_at, refl, sorted_head, sorted_tail, subst, sym, true, ℕ, ℤ, ◌<ℤ◌, ◌∷◌, ◌≡◌}

abbrev Item : Type 0
Item = ℤ × (ℕ × Option (List Value))

-- whether a key is this one
abbrev is_key : ℤ → ℤ → Bool
is_key key k = is_within (key, key) k

own_key : (key k : ℤ) → key ≡ k → is_key key k ≡ true
own_key key k e = grind (arith, ints)

key_before : (key k : ℤ) → key <ℤ k → is_key key k ≡ false
key_before key k h = grind (arith, ints)

key_after : (key k : ℤ) → k <ℤ key → is_key key k ≡ false
key_after key k h = grind (arith, ints)

abbrev of_key : ℤ → Items → Items
of_key key items = filter (λ (e : Item). is_key key e.0) items

none_behind : (key : ℤ) (items : Items) → AllByRecursion (λ k. int_cmp key k ≡ Less) (keys_of items) → of_key key items ≡ []
none_behind key [] all = refl
none_behind key (e ∷ items) all = grind (arith, key_before, int_ranked, (none_behind key items all.1))

abbrev found : ℤ → Items → Option (ℕ × Option (List Value))
found key items = lookup (is_at (int_cmp key)) items

pub item_at_key : (key : ℤ) (items : Items) → IsStrictlySortedBy int_cmp (keys_of items)
    → one_at key (found key items) ≡ of_key key items
item_at_key key [] sorted = refl
item_at_key key (e ∷ items) sorted =
    let later : one_at key (found key items) ≡ of_key key items =
    item_at_key key items (sorted_tail int_cmp e.0 (keys_of items) sorted) in
    elim (int_cmp key e.0) as (λ o. int_cmp key e.0 ≡ o
    → one_at key (cond (is_eq o) (Some e.1) (found key items))
    ≡ cond (is_key key e.0) (e ∷ of_key key items) (of_key key items)) [
      | Less ↦ λ h. rw (key_before key e.0 (int_ranked key e.0 Less (sym h))) later
      | Equal ↦ λ h.
          let same : key ≡ e.0 = int_ranked key e.0 Equal (sym h) in
          let behind : AllByRecursion (λ k. int_cmp key k ≡ Less) (keys_of items) =
          subst (λ j. AllByRecursion (λ k. int_cmp j k ≡ Less) (keys_of items)) (sym same)
          (sorted_head int_cmp e.0 (keys_of items) sorted) in
          rw (own_key key e.0 same, none_behind key items behind) (ap (λ k. (k, e.1) ∷ []) same)
      | Greater ↦ λ h. rw (key_after key e.0 (int_ranked key e.0 Greater (sym h))) later
    ] refl
