-- Entries whose keys ascend, one of which is put or taken away, and those that pass a test.
use Rattle.sdd_changed.proofs.All.{append-nil, append_assoc, AllByRecursion, Bool, CmpEqualImpliesEq, Equal, Greater, IsStrictlySortedBy, IsTotalOrder, Less, List, Ordering, [], ap, arith, cond, each_weaker, false, filter, fold, insert_entry, is_at, keys_of, match_ordering, ordering_reverse, refl, remove_entry, sorted_head, sorted_tail, subst, sym, true, ◌++◌, ◌∙◌, ◌∷◌, ◌≡◌}

module _ {K X : Type 0} (R : K → K → Ordering) where
  -- what each key has, each key of those that pass has
  pub keys_kept : (p : K × X → Bool) (P : K → Type 0) (es : List (K × X)) → AllByRecursion P (keys_of es) → AllByRecursion P (keys_of (filter p es))
  keys_kept p P [] all = tt
  keys_kept p P (e ∷ es) all = grind (arith, keys_of, (keys_kept p P es all.1))

  -- an entry below all is put in front
  insert_first : (es : List (K × X)) (k : K) (v : X) → AllByRecursion (λ y. R k y ≡ Less) (keys_of es) → insert_entry R es k v ≡ (k, v) ∷ es
  insert_first [] k v all = refl
  insert_first (e ∷ es) k v all = rw all.0 refl

  -- where all are above the key, none is taken away
  remove_none : (es : List (K × X)) (k : K) → AllByRecursion (λ y. R k y ≡ Less) (keys_of es) → remove_entry (is_at (R k)) es ≡ es
  remove_none [] k all = refl
  remove_none (e ∷ es) k all = grind (arith, is_at, (remove_none es k all.1))

  -- nor where none that passes has the key
  pub remove_no_other : (p : K × X → Bool) (k : K) → ((e : K × X) → is_at (R k) e.0 ≡ true → p e ≡ false) → (es : List (K × X))
      → remove_entry (is_at (R k)) (filter p es) ≡ filter p es
  remove_no_other p k none [] = refl
  remove_no_other p k none (e ∷ es) = grind (arith, none e, (remove_no_other p k none es))

  module _ (total : IsTotalOrder R) (exact : CmpEqualImpliesEq R) where
    above : (e : K × X) (es : List (K × X)) (k : K) → IsStrictlySortedBy R (keys_of (e ∷ es)) → R k e.0 ≡ Less
        → AllByRecursion (λ y. R k y ≡ Less) (keys_of es)
    above e es k sorted less = each_weaker _ _ (λ y h. total.trans k e.0 y less h) (keys_of es) (sorted_head R e.0 (keys_of es) sorted)

    -- those that pass, once one is put
    pub filter_insert : (p : K × X → Bool) (es : List (K × X)) (k : K) (v : X) → IsStrictlySortedBy R (keys_of es)
        → filter p (insert_entry R es k v) ≡ cond (p (k, v)) (insert_entry R (filter p es) k v) (remove_entry (is_at (R k)) (filter p es))
    filter_insert p [] k v sorted = grind arith
    filter_insert p (e ∷ es) k v sorted =
        let tail = sorted_tail R e.0 (keys_of es) sorted in
        let rest = filter_insert p es k v tail in
        elim (R k e.0) as (λ r. R k e.0 ≡ r
        → filter p (match_ordering r ((k, v) ∷ e ∷ es) ((e.0, v) ∷ es) (e ∷ insert_entry R es k v))
        ≡ cond (p (k, v)) (insert_entry R (filter p (e ∷ es)) k v) (remove_entry (is_at (R k)) (filter p (e ∷ es)))) [
          | Less ↦ λ r.
              let all = keys_kept p (λ y. R k y ≡ Less) (e ∷ es) (r, above e es k sorted r) in
              grind (arith, insert_first (filter p (e ∷ es)) k v all, remove_none (filter p (e ∷ es)) k all)
          | Equal ↦ λ r.
              let same : k ≡ e.0 = exact k e.0 r in
              let all = keys_kept p (λ y. R k y ≡ Less) es (subst (λ z. AllByRecursion (λ y. R z y ≡ Less) (keys_of es)) (sym same) (sorted_head R e.0 (keys_of es) sorted)) in
              grind (arith, is_at, insert_first (filter p es) k v all, remove_none (filter p es) k all)
          | Greater ↦ λ r. grind (arith, is_at, rest)
        ] refl

    -- and once one is taken away
    pub filter_remove : (p : K × X → Bool) (es : List (K × X)) (k : K) → IsStrictlySortedBy R (keys_of es)
        → filter p (remove_entry (is_at (R k)) es) ≡ remove_entry (is_at (R k)) (filter p es)
    filter_remove p [] k sorted = refl
    filter_remove p (e ∷ es) k sorted =
        let tail = sorted_tail R e.0 (keys_of es) sorted in
        let rest = filter_remove p es k tail in
        elim (R k e.0) as (λ r. R k e.0 ≡ r → filter p (remove_entry (is_at (R k)) (e ∷ es)) ≡ remove_entry (is_at (R k)) (filter p (e ∷ es))) [
          | Less ↦ λ r. grind (arith, is_at, rest)
          | Equal ↦ λ r.
              let same : k ≡ e.0 = exact k e.0 r in
              let all = keys_kept p (λ y. R k y ≡ Less) es (subst (λ z. AllByRecursion (λ y. R z y ≡ Less) (keys_of es)) (sym same) (sorted_head R e.0 (keys_of es) sorted)) in
              grind (arith, is_at, remove_none (filter p es) k all)
          | Greater ↦ λ r. grind (arith, is_at, rest)
        ] refl

  -- entries that ascend are the same, put one by one
  insert_last : (es : List (K × X)) (k : K) (v : X) → AllByRecursion (λ y. R k y ≡ Greater) (keys_of es) → insert_entry R es k v ≡ es ++ (k, v) ∷ []
  insert_last [] k v all = refl
  insert_last (e ∷ es) k v all = rw all.0 (ap (λ z. e ∷ z) (insert_last es k v all.1))

  abbrev IsBehind : List (K × X) → K → Type 0
  IsBehind kept k = AllByRecursion (λ y. R k y ≡ Greater) (keys_of kept)

  behind_more : (kept : List (K × X)) (e : K × X) (k : K) → IsBehind kept k → R k e.0 ≡ Greater → IsBehind (kept ++ e ∷ []) k
  behind_more [] e k all h = (h, tt)
  behind_more (x ∷ kept) e k all h = (all.0, behind_more kept e k all.1 h)

  pub enter_all : (kept es : List (K × X)) → IsTotalOrder R → IsStrictlySortedBy R (keys_of es) → AllByRecursion (IsBehind kept) (keys_of es)
      → fold (λ rows e. insert_entry R rows e.0 e.1) kept es ≡ kept ++ es
  enter_all kept [] total sorted behind = sym (append-nil kept)
  enter_all kept (e ∷ es) total sorted behind =
      let tail = sorted_tail R e.0 (keys_of es) sorted in
      let put = insert_last kept e.0 e.1 behind.0 in
      let next : AllByRecursion (IsBehind (kept ++ e ∷ [])) (keys_of es) = later es (sorted_head R e.0 (keys_of es) sorted) behind.1 in
      ap (λ z. fold (λ rows (x : K × X). insert_entry R rows x.0 x.1) z es) put
      ∙ enter_all (kept ++ e ∷ []) es total tail next ∙ append_assoc kept (e ∷ []) es
    where
      later : (rest : List (K × X)) → AllByRecursion (λ y. R e.0 y ≡ Less) (keys_of rest) → AllByRecursion (IsBehind kept) (keys_of rest)
          → AllByRecursion (IsBehind (kept ++ e ∷ [])) (keys_of rest)
      later [] less all = tt
      later (x ∷ rest) less all = (
        behind_more kept e x.0 all.0 (total.antisymm x.0 e.0 ∙ ap ordering_reverse less.0),
        later rest less.1 all.1,
      )
