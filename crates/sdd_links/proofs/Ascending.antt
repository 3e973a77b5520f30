-- Ascending numbers, as a set of them has its members.
use Rattle.sdd_links.proofs.All.{Bool, Contains, Contains-cases, Contains-here, Contains-later, Contains-nil, Equal, Greater, Less, List, [], ap, arith, cond, false, filter, inl, inr, insert_key, match_ordering, nat_cmp, nat_cmp_is, range_with_len, refl, subst, suc, sym, true, zero, ℕ, ◌++◌, ◌+◌, ◌<◌, ◌∙◌, ◌∷◌, ◌≡◌, ◌≤◌, ◌⊎◌}
use Rattle.sdd_links.proofs.Members.{Contains-from_filter}
use Rattle.sdd_links.proofs.EachPrecedence.{compare as compared}

abbrev pub Ascending : List ℕ → Type 0
Ascending [] = Unit {0}
Ascending (x ∷ xs) = ((y : ℕ) → Contains xs y → x < y) × Ascending xs

-- one number against another
less_is : (k x : ℕ) → k < x → nat_cmp k x ≡ Less
less_is k x l = sym (nat_cmp_is k x Less l)

equal_is : (k x : ℕ) → k ≡ x → nat_cmp k x ≡ Equal
equal_is k x e = sym (nat_cmp_is k x Equal e)

greater_is : (k x : ℕ) → x < k → nat_cmp k x ≡ Greater
greater_is k x l = sym (nat_cmp_is k x Greater l)

-- a number put in its place

pub insert_is : (ks : List ℕ) (k y : ℕ) → Contains (insert_key nat_cmp ks k) y → (y ≡ k) ⊎ Contains ks y
insert_is [] k y m = elim (Contains-cases k [] y m) [ inl e ↦ inl e | inr n ↦ absurd (Contains-nil y n) ]
insert_is (x ∷ xs) k y m =
    elim (compared k x) [
      | inl l ↦ grind (arith, Contains-cases, match_ordering, insert_key, nat_cmp, less_is)
      | inr (inl e) ↦ inr (subst (λ o. Contains (match_ordering o (k ∷ x ∷ xs) (x ∷ xs) (x ∷ insert_key nat_cmp xs k)) y) (equal_is k x e) m)
      | inr (inr g) ↦
          elim (Contains-cases x (insert_key nat_cmp xs k) y
          (subst (λ o. Contains (match_ordering o (k ∷ x ∷ xs) (x ∷ xs) (x ∷ insert_key nat_cmp xs k)) y) (greater_is k x g) m)) [
            | inl e ↦ inr (subst (Contains (x ∷ xs)) (sym e) (Contains-here x xs))
            | inr n ↦ elim (insert_is xs k y n) [ inl e ↦ inl e | inr h ↦ inr (Contains-later x xs y h) ]
          ]
    ]

pub insert_has : (ks : List ℕ) (k y : ℕ) → (y ≡ k) ⊎ Contains ks y → Contains (insert_key nat_cmp ks k) y
insert_has [] k y (inl e) = subst (Contains (k ∷ [])) (sym e) (Contains-here k [])
insert_has [] k y (inr m) = absurd (Contains-nil y m)
insert_has (x ∷ xs) k y m =
    elim (compared k x) [
      | inl l ↦
          subst (λ o. Contains (match_ordering o (k ∷ x ∷ xs) (x ∷ xs) (x ∷ insert_key nat_cmp xs k)) y) (sym (less_is k x l))
          (elim m [ inl e ↦ subst (Contains (k ∷ x ∷ xs)) (sym e) (Contains-here k (x ∷ xs)) | inr h ↦ Contains-later k (x ∷ xs) y h ])
      | inr (inl e) ↦
          grind (arith, match_ordering, insert_key, nat_cmp, equal_is, Contains-here)
      | inr (inr g) ↦
          subst (λ o. Contains (match_ordering o (k ∷ x ∷ xs) (x ∷ xs) (x ∷ insert_key nat_cmp xs k)) y) (sym (greater_is k x g))
          (elim m [
            | inl e ↦ Contains-later x (insert_key nat_cmp xs k) y (insert_has xs k y (inl e))
            | inr h ↦ elim (Contains-cases x xs y h) [
              | inl e ↦ subst (Contains (x ∷ insert_key nat_cmp xs k)) (sym e) (Contains-here x (insert_key nat_cmp xs k))
              | inr n ↦ Contains-later x (insert_key nat_cmp xs k) y (insert_has xs k y (inr n))
            ]
          ])
    ]

pub ascending_insert : (ks : List ℕ) (k : ℕ) → Ascending ks → Ascending (insert_key nat_cmp ks k)
ascending_insert [] k a = ((λ y m. absurd (Contains-nil y m)), tt)
ascending_insert (x ∷ xs) k a =
    elim (compared k x) [
      | inl l ↦
          subst (λ o. Ascending (match_ordering o (k ∷ x ∷ xs) (x ∷ xs) (x ∷ insert_key nat_cmp xs k))) (sym (less_is k x l))
          ((λ y m. elim (Contains-cases x xs y m) [ inl e ↦ omega (arith, e) | inr n ↦ let b = a.0 y n in omega arith ]), a)
      | inr (inl e) ↦
          subst (λ o. Ascending (match_ordering o (k ∷ x ∷ xs) (x ∷ xs) (x ∷ insert_key nat_cmp xs k))) (sym (equal_is k x e)) a
      | inr (inr g) ↦
          subst (λ o. Ascending (match_ordering o (k ∷ x ∷ xs) (x ∷ xs) (x ∷ insert_key nat_cmp xs k))) (sym (greater_is k x g))
          ((λ y m. elim (insert_is xs k y m) [ inl e ↦ omega (arith, e) | inr n ↦ a.0 y n ]), ascending_insert xs k a.1)
    ]

-- above all it goes to the end
pub insert_last : (ks : List ℕ) (k : ℕ) → ((y : ℕ) → Contains ks y → y < k) → insert_key nat_cmp ks k ≡ ks ++ k ∷ []
insert_last [] k h = refl
insert_last (x ∷ xs) k h =
    ap (λ o. match_ordering o (k ∷ x ∷ xs) (x ∷ xs) (x ∷ insert_key nat_cmp xs k)) (greater_is k x (h x (Contains-here x xs)))
    ∙ ap (λ l. x ∷ l) (insert_last xs k (λ y m. h y (Contains-later x xs y m)))

pub from_range : (a n y : ℕ) → Contains (range_with_len a n) y → (a ≤ y) × (y < a + n)
from_range a zero y m = absurd (Contains-nil y m)
from_range a (suc n) y m =
    elim (Contains-cases a (range_with_len (a + 1) n) y m) [
      | inl e ↦ (omega (arith, e), omega (arith, e))
      | inr k ↦ let r = from_range (a + 1) n y k in let one = r.0 in let two = r.1 in (omega arith, omega arith)
    ]

ascending_range : (a n : ℕ) → Ascending (range_with_len a n)
ascending_range a zero = tt
ascending_range a (suc n) = ((λ y m. let r = from_range (a + 1) n y m in let l = r.0 in omega arith), ascending_range (a + 1) n)

ascending_filter : (p : ℕ → Bool) (xs : List ℕ) → Ascending xs → Ascending (filter p xs)
ascending_filter p [] a = tt
ascending_filter p (x ∷ xs) a =
    elim (p x) as (λ b. Ascending (cond b (x ∷ filter p xs) (filter p xs))) [
      | true ↦ ((λ y m. a.0 y (Contains-from_filter p xs y m).0), ascending_filter p xs a.1)
      | false ↦ ascending_filter p xs a.1
    ]

pub ascending_passing : (p : ℕ → Bool) (n : ℕ) → Ascending (filter p (range_with_len 0 n))
ascending_passing p n = ascending_filter p (range_with_len 0 n) (ascending_range 0 n)
