-- What is among values is known to the set of them.
use Rattle.sdd_copy.proofs.All.{Bool, Equal, Greater, Less, List, Ordering, Value, [], arith, false, insert_key, is_among, is_eq, is_known, match_ordering, ordering_reverse, refl, value_cmp, value_cmp_total, with_values, ◌||◌, ◌∷◌, ◌≡◌}

pub same_either : (o : Ordering) → is_eq (ordering_reverse o) ≡ is_eq o
same_either o = grind arith

-- one value more

abbrev KnownBy : Ordering → Value → Value → List Value → Value → Type 0
KnownBy o k y ys v =
    is_known (match_ordering o (k ∷ y ∷ ys) (y ∷ ys) (y ∷ insert_key value_cmp ys k)) v
    ≡ (is_eq (value_cmp v k) || (is_eq (value_cmp v y) || is_known ys v))

known_insert : (known : List Value) (k v : Value)
    → is_known (insert_key value_cmp known k) v ≡ (is_eq (value_cmp v k) || is_known known v)
known_insert [] k v = refl
known_insert (y ∷ ys) k v =
    elim (value_cmp k y) as (λ o. value_cmp k y ≡ o → KnownBy o k y ys v) [
      | Less ↦ λ e. refl
      | Equal ↦ grind (arith, is_eq, value_cmp, same_either, value_cmp_total, is_known)
      | Greater ↦ grind (arith, is_eq, value_cmp, is_known, (known_insert ys k v))
    ] refl

or_false : (b : Bool) → b ≡ (b || false)
or_false b = grind arith

known_with : (values known : List Value) (v : Value)
    → is_known (with_values known values) v ≡ (is_known known v || is_among values v)
known_with [] known v = or_false (is_known known v)
known_with (x ∷ values) known v = grind (arith, insert_key, known_insert, is_eq, value_cmp_total, same_either, value_cmp, (known_with values (insert_key value_cmp known x) v))

pub known_among : (values : List Value) (v : Value) → is_known (with_values [] values) v ≡ is_among values v
known_among values v = known_with values [] v
