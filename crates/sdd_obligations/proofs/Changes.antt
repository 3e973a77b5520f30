-- The changes of a transaction that fits, on a database, as WRITEs take them to data modules.
use Rattle.sdd_obligations.proofs.All.{All-from_recursion, AllByRecursion, AreMade, AreWritten, Bool, Catalogue, Change, Changed, Database, FitsText, IsDatabase, IsDistinct, IsDistinct-from_sorted, IsDistinct-keys_filter, IsItemChange, IsSoundCatalogue, List, Txn, [], all_kept, ap, arith, change_of, changes_at, changes_items, effect, effect_made, eq_by_cmp, filter, has_copy, is_eq, item_cmp, keys_of, map, refl, sorted_nil, subst, sym, true, ℕ, ℤ, ◌∙◌, ◌∷◌, ◌≡◌}

-- what all have, those have that are kept; and these pass the test

kept_pass : {A : Type 0} (p : A → Bool) (xs : List A) → AllByRecursion (λ x. p x ≡ true) (filter p xs)
kept_pass p [] = tt
kept_pass p (x ∷ xs) = grind (arith, (kept_pass p xs))

-- the items of changes that are kept
abbrev key_of : Change → ℕ × ℤ
key_of x = (x.frag.0, x.key)

kept_keys : (p : Change → Bool) (changed : Changed) → map key_of (filter p (map change_of changed)) ≡ keys_of (filter (λ e. p (change_of e)) changed)
kept_keys p [] = refl
kept_keys p (e ∷ es) = grind (arith, key_of, keys_of, (kept_keys p es))

-- they differ
made_differ : (p : Change → Bool) (changes : List Change) → AreMade changes → IsDistinct (λ x y. is_eq (item_cmp x y)) (map key_of (filter p changes))
made_differ p changes made =
    let differ : IsDistinct (eq_by_cmp item_cmp) (keys_of (filter (λ e. p (change_of e)) made.changed)) =
    IsDistinct-keys_filter (eq_by_cmp item_cmp) (λ e. p (change_of e)) made.changed (IsDistinct-from_sorted item_cmp (keys_of made.changed) made.ascend) in
    subst (IsDistinct (λ x y. is_eq (item_cmp x y))) (sym (ap (λ xs. map key_of (filter p xs)) made.are ∙ kept_keys p made.changed)) differ

pub effect_written : (cat : Catalogue) → IsSoundCatalogue cat → (txn : Txn) → FitsText cat txn → (db : Database)
    → IsDatabase cat db → (d : ℕ) → AreWritten cat d (changes_at cat d (effect cat db txn).changes)
effect_written cat sound txn fits db is d =
    let xs : List Change = (effect cat db txn).changes in
    let here : Change → Bool = λ x. has_copy cat d x.frag.0 in
    record {
      each = All-from_recursion (IsItemChange cat) (filter here xs) (grind (arith, all_kept, changes_items));
      here = All-from_recursion (λ (x : Change). has_copy cat d x.frag.0 ≡ true) (filter here xs) (kept_pass here xs);
      items = made_differ here xs (effect_made cat db txn.statements [] [] (sorted_nil item_cmp));
    }
