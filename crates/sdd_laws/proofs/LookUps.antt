-- What stands at a key of entries, once one more is put in or one is taken out; and which entries there are.
use Rattle.sdd_laws.proofs.All.{AllByRecursion, Bool, CmpEqualImpliesEq, Contains, Contains-from_lookup, IsDistinct-from_sorted, IsTotalOrder, Less, List, None, Option, Ordering, Some, [], ap, arith, cond, eq_by_cmp_equiv, false, inl, inr, insert_entry, inserted_sorted, is_at, is_eq, keys_of, lookup, lookup-from_Contains, lookup-remove_entry, refl, remove_entry, rules, same_entries, subst, sym, tells_apart, tied_itself, true, ◌∙◌, ◌∷◌, ◌≡◌, ◌⊎◌}
use Rattle.std.specs.List.Sorted.{IsStrictlySortedBy}
use Rattle.sdd_laws.proofs.Members.{is_in, contained}

module _ {K : Type 0} (R : K → K → Ordering) (total : IsTotalOrder R) (exact : CmpEqualImpliesEq R) where
  pub same_key : (k q : K) → is_at (R k) q ≡ true → k ≡ q
  same_key k q e = tells_apart exact k q e

  pub own_key : (k : K) → is_at (R k) k ≡ true
  own_key k = ap is_eq (tied_itself total k)

  pub key_or_not : (k q : K) → (k ≡ q) ⊎ (k ≡ q → ⊥)
  key_or_not k q =
      elim (is_at (R k) q) as (λ b. is_at (R k) q ≡ b → (k ≡ q) ⊎ (k ≡ q → ⊥)) [
        | true ↦ λ e. inl (same_key k q e)
        | false ↦
            grind (arith, is_at, own_key)
      ] refl

  pub test_own : (k q : K) → k ≡ q → is_at (R k) q ≡ true
  test_own k q e = subst (λ z. is_at (R k) z ≡ true) e (own_key k)

  pub test_other : (k q : K) → (k ≡ q → ⊥) → is_at (R k) q ≡ false
  test_other k q n = search rules

-- keys in order

pub sorted_cons : {K : Type 0} (R : K → K → Ordering) (k : K) (ks : List K) → AllByRecursion (λ y. R k y ≡ Less) ks
    → IsStrictlySortedBy R ks → IsStrictlySortedBy R (k ∷ ks)
unfolding IsStrictlySortedBy
sorted_cons R k ks all sorted = (all, sorted)

module _ {K X : Type 0} (R : K → K → Ordering) (total : IsTotalOrder R) (exact : CmpEqualImpliesEq R) where
  abbrev at : K → List (K × X) → Option X
  at k es = lookup (is_at (R k)) es

  -- one more entry
  pub put_in : (es : List (K × X)) (k : K) (v : X) (q : K)
      → at q (insert_entry R es k v) ≡ cond (is_at (R q) k) (Some v) (at q es)
  put_in [] k v q = refl
  put_in (e ∷ es) k v q = search (rules, put_in es k v q)

  -- one less
  pub taken_out : (es : List (K × X)) (k q : K) → IsStrictlySortedBy R (keys_of es)
      → at q (remove_entry (is_at (R k)) es) ≡ cond (is_at (R k) q) None (at q es)
  taken_out es k q sorted =
      lookup-remove_entry (eq_by_cmp_equiv total) (is_at (R k))
      (λ x y e. subst (λ z. is_at (R k) y ≡ is_at (R z) y) (same_key R total exact k x e) refl) q es
      (IsDistinct-from_sorted R (keys_of es) sorted)

  -- what stands at a key is an entry, and each entry stands at its key
  pub entry_at : (es : List (K × X)) (k : K) (v : X) → at k es ≡ Some v → Contains es (k, v)
  entry_at es k v e = Contains-from_lookup (λ x y t. same_key R total exact x y t) k v es e

  pub at_entry : (es : List (K × X)) (k : K) (v : X) → IsStrictlySortedBy R (keys_of es) → Contains es (k, v)
      → at k es ≡ Some v
  at_entry es k v sorted h =
      lookup-from_Contains (eq_by_cmp_equiv total) k v es (IsDistinct-from_sorted R (keys_of es) sorted) h

  -- so of a key there is one
  pub one_entry : (es : List (K × X)) (k : K) (v w : X) → IsStrictlySortedBy R (keys_of es) → Contains es (k, v)
      → Contains es (k, w) → v ≡ w
  one_entry es k v w sorted a b =
      let e : ◌≡◌ {A = Option X} (Some v) (Some w) = sym (at_entry es k v sorted a) ∙ at_entry es k w sorted b in cc

  -- which entries there are, once one more is put in

  pub put_there : (es : List (K × X)) (k : K) (v : X) → Contains (insert_entry R es k v) (k, v)
  put_there es k v = search (rules, entry_at, put_in)

  pub put_or_there : (es : List (K × X)) (k : K) (v : X) (e : K × X) → IsStrictlySortedBy R (keys_of es)
      → Contains (insert_entry R es k v) e → (e ≡ (k, v)) ⊎ Contains es e
  put_or_there es k v e sorted h =
      by (is_at (R e.0) k) refl
      (sym (put_in es k v e.0) ∙ at_entry (insert_entry R es k v) e.0 e.1 (inserted_sorted R total es k v sorted) h)
    where
      by : (b : Bool) → is_at (R e.0) k ≡ b → cond b (Some v) (at e.0 es) ≡ Some e.1 → (e ≡ (k, v)) ⊎ Contains es e
      by true p q =
          let row : e.1 ≡ v = cc in inl (ap (λ z. (z, e.1)) (same_key R total exact e.0 k p) ∙ ap (λ z. (k, z)) row)
      by false p q = inr (entry_at es e.0 e.1 q)

  pub still_there : (es : List (K × X)) (k : K) (v : X) (e : K × X) → IsStrictlySortedBy R (keys_of es)
      → (k ≡ e.0 → (k, v) ≡ e) → Contains es e → Contains (insert_entry R es k v) e
  still_there es k v e sorted same h =
      elim (key_or_not R total exact k e.0) [
        | inl own ↦ subst (Contains (insert_entry R es k v)) (same own) (put_there es k v)
        | inr other ↦
            entry_at (insert_entry R es k v) e.0 e.1
            (put_in es k v e.0 ∙ ap (λ b. cond b (Some v) (at e.0 es)) (test_other R total exact e.0 k (λ z. other (sym z))) ∙ at_entry es e.0 e.1 sorted h)
      ]

  -- entries in order are the same where they have the same members
  pub same_members : (xs ys : List (K × X)) → IsStrictlySortedBy R (keys_of xs) → IsStrictlySortedBy R (keys_of ys)
      → ((e : K × X) → Contains xs e → Contains ys e) → ((e : K × X) → Contains ys e → Contains xs e) → xs ≡ ys
  same_members xs ys sx sy f g =
      same_entries R total xs ys sx sy (λ e h. is_in ys e (f e (contained xs e h)))
      (λ e h. is_in xs e (g e (contained ys e h)))
