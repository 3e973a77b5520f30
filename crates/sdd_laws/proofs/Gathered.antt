-- Entries that are put together one after the other, where none displaces another.
use Rattle.sdd_laws.proofs.All.{CmpEqualImpliesEq, Contains, Contains-cases, Contains-here, Contains-later, Contains-nil, IsStrictlySortedBy, IsTotalOrder, List, Ordering, [], arith, fold, inl, inr, insert_entry, inserted_sorted, keys_of, subst, sym, ◌∷◌, ◌≡◌, ◌⊎◌}
use Rattle.sdd_laws.proofs.LookUps.{put_there, put_or_there, still_there}

-- no entry of the list displaces this one
abbrev pub Alone : {K X : Type 0} → List (K × X) → K × X → Type 0
Alone {K} {X} es e = (x : K × X) → Contains es x → x.0 ≡ e.0 → x ≡ e

module _ {K X : Type 0} (R : K → K → Ordering) (total : IsTotalOrder R) (exact : CmpEqualImpliesEq R) where
  abbrev pub with_entry : List (K × X) → K × X → List (K × X)
  with_entry es e = insert_entry R es e.0 e.1

  still_sorted : (es : List (K × X)) (x : K × X) → IsStrictlySortedBy R (keys_of es)
      → IsStrictlySortedBy R (keys_of (with_entry es x))
  still_sorted es x s = inserted_sorted R total es x.0 x.1 s

  pub gathered_from : (start es : List (K × X)) (e : K × X) → IsStrictlySortedBy R (keys_of start)
      → Contains (fold with_entry start es) e → Contains start e ⊎ Contains es e
  gathered_from start [] e s h = inl h
  gathered_from start (x ∷ es) e s h =
      elim (gathered_from (with_entry start x) es e (still_sorted start x s) h) [
        | inl k ↦ elim (put_or_there R total exact start x.0 x.1 e s k) [ inl new ↦ inr (subst (Contains (x ∷ es)) (sym new) (Contains-here x es)) | inr old ↦ inl old ]
        | inr there ↦ inr (Contains-later x es e there)
      ]

  gathered_stays : (start es : List (K × X)) (e : K × X) → IsStrictlySortedBy R (keys_of start) → Alone es e
      → Contains start e → Contains (fold with_entry start es) e
  gathered_stays start [] e s alone h = h
  gathered_stays start (x ∷ es) e s alone h = grind (arith, with_entry, still_sorted, Contains-later, still_there, Contains-here, (gathered_stays (with_entry start x) es e (still_sorted start x s) (λ y h q. alone y (Contains-later x es y h) q) (still_there R total exact start x.0 x.1 e s (λ q. alone x (Contains-here x es) q) h)))

  pub gathered_there : (start es : List (K × X)) (e : K × X) → IsStrictlySortedBy R (keys_of start) → Alone es e
      → Contains es e → Contains (fold with_entry start es) e
  gathered_there start [] e s alone h = absurd (Contains-nil e h)
  gathered_there start (x ∷ es) e s alone h =
      elim (Contains-cases x es e h) as (λ z. Contains (fold with_entry (with_entry start x) es) e) [
        | inl same ↦
            gathered_stays (with_entry start x) es e (still_sorted start x s) (λ y h q. alone y (Contains-later x es y h) q)
            (subst (Contains (with_entry start x)) (sym same) (put_there R total exact start x.0 x.1))
        | inr later ↦ gathered_there (with_entry start x) es e (still_sorted start x s) (λ y h q. alone y (Contains-later x es y h) q) later
      ]

  pub gathered_sorted : (start es : List (K × X)) → IsStrictlySortedBy R (keys_of start)
      → IsStrictlySortedBy R (keys_of (fold with_entry start es))
  gathered_sorted start [] s = s
  gathered_sorted start (x ∷ es) s = gathered_sorted (with_entry start x) es (still_sorted start x s)
