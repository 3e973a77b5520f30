-- Members of lists by place, and lists of numbers in order.
use Rattle.sdd_invariants.proofs.All.{AllGt, AllLe, AllLt, Bool, IsStrict, List, Some, [], ap, arith, ascending, cond, false, filter, fold, if◌then◌else◌, inl, inr, insert_key, length, list_all, list_any, nat_cmp, not, range_with_len, refl, slice_get, subst, suc, take, true, zero, ℕ, ◌&&◌, ◌++◌, ◌+◌, ◌<◌, ◌∷◌, ◌≡◌, ◌≤◌, ◌⊎◌}
use Rattle.sdd_invariants.proofs.Bools.{and_left, and_right, lower_same_higher, only_right, true_or_false}

-- members by place

pub in_either : {A : Type 0} (xs ys : List A) (k : ℕ) (m : A) → slice_get (xs ++ ys) k ≡ Some m
    → (slice_get xs k ≡ Some m) ⊎ ((j : ℕ) × (slice_get ys j ≡ Some m))
in_either [] ys k m e = inr (k, e)
in_either (x ∷ xs) ys zero m e = inl e
in_either (x ∷ xs) ys (suc k) m e = in_either xs ys k m e

pub in_right : {A : Type 0} (xs ys : List A) (k : ℕ) (m : A) → slice_get ys k ≡ Some m → (j : ℕ) × (slice_get (xs ++ ys) j ≡ Some m)
in_right [] ys k m e = (k, e)
in_right (x ∷ xs) ys k m e = let i = in_right xs ys k m e in (suc i.0, i.1)

pub in_if : {A : Type 0} (c : Bool) (x : A) (k : ℕ) (m : A) → slice_get (if c then x ∷ [] else []) k ≡ Some m → (c ≡ true) × (x ≡ m)
in_if c x k m e = grind arith

pub in_one : {A : Type 0} (ms : List A) (x : A) (k : ℕ) (m : A) → ms ≡ x ∷ [] → slice_get ms k ≡ Some m → x ≡ m
in_one ms x k m e f = grind arith

pub in_none : {A B : Type 0} (ms : List A) (k : ℕ) (m : A) → ms ≡ [] → slice_get ms k ≡ Some m → B
in_none ms k m e f = let g : slice_get [] k ≡ Some m = subst (λ l. slice_get l k ≡ Some m) e f in cc

pub in_filtered : {A : Type 0} (p : A → Bool) (xs : List A) (k : ℕ) (x : A) → slice_get (filter p xs) k ≡ Some x
    → (p x ≡ true) × (j : ℕ) × (slice_get xs j ≡ Some x)
in_filtered p [] k x e = cc
in_filtered p (y ∷ xs) k x e =
    elim (p y) as (λ b. p y ≡ b → slice_get (cond b (y ∷ filter p xs) (filter p xs)) k ≡ Some x → (p x ≡ true) × (j : ℕ) × (slice_get (y ∷ xs) j ≡ Some x)) [
      | true ↦ λ q r. elim k as (λ n. slice_get (y ∷ filter p xs) n ≡ Some x → (p x ≡ true) × (j : ℕ) × (slice_get (y ∷ xs) j ≡ Some x)) [
        | zero ↦ λ t. let z : y ≡ x = cc in (subst (λ w. p w ≡ true) z q, 0, t)
        | suc n ↦ λ t. let i = in_filtered p xs n x t in (i.0, suc i.1, i.2)
      ] r
      | false ↦ λ q r. let i = in_filtered p xs k x r in (i.0, suc i.1, i.2)
    ] refl e

pub in_range : (a n k x : ℕ) → slice_get (range_with_len a n) k ≡ Some x → (a ≤ x) × (x < a + n)
in_range a zero k x e = cc
in_range a (suc n) zero x e = let p : a ≡ x = cc in (omega arith, omega arith)
in_range a (suc n) (suc k) x e = let i = in_range (a + 1) n k x e in (omega (arith, i.0), omega (arith, i.1))

pub member_there : {A : Type 0} (n : ℕ) (xs : List A) → n < length xs → (m : A) × (slice_get xs n ≡ Some m)
member_there n [] h = absurd (omega arith)
member_there zero (x ∷ xs) h = (x, refl)
member_there (suc n) (x ∷ xs) h = member_there n xs (omega arith)

pub take_one_more : {A : Type 0} (n : ℕ) (xs : List A) (m : A) → slice_get xs n ≡ Some m → take (suc n) xs ≡ take n xs ++ m ∷ []
take_one_more n [] m e = cc
take_one_more {A = A} zero (x ∷ xs) m e = let p : ◌≡◌ {A = A} x m = cc in ap (λ y. y ∷ []) p
take_one_more (suc n) (x ∷ xs) m e = ap (λ l. x ∷ l) (take_one_more n xs m e)

pub in_taken : {A : Type 0} (xs : List A) (n k : ℕ) (x : A) → slice_get (take n xs) k ≡ Some x → (slice_get xs k ≡ Some x) × (k < n)
in_taken xs zero k x e = cc
in_taken [] (suc n) k x e = cc
in_taken (y ∷ xs) (suc n) zero x e = (e, omega arith)
in_taken (y ∷ xs) (suc n) (suc k) x e = let i = in_taken xs n k x e in (i.0, omega (arith, i.1))

pub within_left : {A : Type 0} (xs ys : List A) (k : ℕ) (x : A) → slice_get (xs ++ ys) k ≡ Some x → k < length xs → slice_get xs k ≡ Some x
within_left [] ys k x e l = absurd (omega arith)
within_left (y ∷ xs) ys zero x e l = e
within_left (y ∷ xs) ys (suc k) x e l = within_left xs ys k x e (omega arith)

pub at_seam : {A : Type 0} (xs ys : List A) (y : A) → slice_get (xs ++ y ∷ ys) (length xs) ≡ Some y
at_seam [] ys y = refl
at_seam (x ∷ xs) ys y = at_seam xs ys y

pub any_at : {A : Type 0} (f : A → Bool) (xs : List A) → list_any f xs ≡ true → (k : ℕ) × (x : A) × (slice_get xs k ≡ Some x) × (f x ≡ true)
any_at f [] e = cc
any_at f (x ∷ xs) e = elim (true_or_false (f x)) [
  | inl p ↦ (0, x, refl, p)
  | inr p ↦ (let i = any_at f xs (only_right (f x) (list_any f xs) p e) in (suc i.0, i.1, i.2, i.3))
]

pub all_at : {A : Type 0} (f : A → Bool) (xs : List A) (k : ℕ) (x : A) → list_all f xs ≡ true → slice_get xs k ≡ Some x → f x ≡ true
all_at f [] k x e g = cc
all_at {A = A} f (y ∷ xs) zero x e g = let p : ◌≡◌ {A = A} y x = cc in subst (λ z. f z ≡ true) p (and_left (f y) (list_all f xs) e)
all_at f (y ∷ xs) (suc k) x e g = all_at f xs k x (and_right (f y) (list_all f xs) e) g

pub nothing_left : {A : Type 0} (p : A → Bool) (ds : List A) → filter (λ d. not (p d)) ds ≡ [] → list_all p ds ≡ true
nothing_left p [] e = refl
nothing_left p (d ∷ ds) e = elim (p d) as (λ b. p d ≡ b → cond (not b) (d ∷ filter (λ d. not (p d)) ds) (filter (λ d. not (p d)) ds) ≡ [] → (b && list_all p ds) ≡ true) [
  | true ↦ λ q r. nothing_left p ds r
  | false ↦ λ q r. cc
] refl e

-- numbers below or above a number

pub le_up : (j k : ℕ) (xs : List ℕ) → j ≤ k → AllLe j xs → AllLe k xs
le_up j k [] l h = tt
le_up j k (x ∷ xs) l h = (omega (arith, h.0), le_up j k xs l h.1)

pub lt_above : (j k : ℕ) (xs : List ℕ) → j < k → AllLe j xs → AllLt k xs
lt_above j k [] l h = tt
lt_above j k (x ∷ xs) l h = (omega (arith, h.0), lt_above j k xs l h.1)

pub lt_up : (j k : ℕ) (xs : List ℕ) → j ≤ k → AllLt j xs → AllLt k xs
lt_up j k [] l h = tt
lt_up j k (x ∷ xs) l h = (omega (arith, h.0), lt_up j k xs l h.1)

pub gt_down : (j k : ℕ) (xs : List ℕ) → j ≤ k → AllGt k xs → AllGt j xs
gt_down j k [] l h = tt
gt_down j k (x ∷ xs) l h = (omega (arith, h.0), gt_down j k xs l h.1)

pub le_join : (k : ℕ) (xs ys : List ℕ) → AllLe k xs → AllLe k ys → AllLe k (xs ++ ys)
le_join k [] ys h i = i
le_join k (x ∷ xs) ys h i = (h.0, le_join k xs ys h.1 i)

pub lt_push : (k t : ℕ) (xs : List ℕ) → AllLt k xs → t < k → AllLt k (xs ++ t ∷ [])
lt_push k t [] h l = (l, tt)
lt_push k t (x ∷ xs) h l = (h.0, lt_push k t xs h.1 l)

gt_push : (k t : ℕ) (xs : List ℕ) → AllGt k xs → k < t → AllGt k (xs ++ t ∷ [])
gt_push k t [] h l = (l, tt)
gt_push k t (x ∷ xs) h l = (h.0, gt_push k t xs h.1 l)

pub strict_push : (t : ℕ) (xs : List ℕ) → IsStrict xs → AllLt t xs → IsStrict (xs ++ t ∷ [])
strict_push t [] h l = (tt, tt)
strict_push t (x ∷ xs) h l = (gt_push x t xs h.0 l.0, strict_push t xs h.1 l.1)

-- `ascending` ascends, and so does a range

gt_insert : (b k : ℕ) (xs : List ℕ) → b < k → AllGt b xs → AllGt b (insert_key nat_cmp xs k)
gt_insert b k [] l h = (l, tt)
gt_insert b k (x ∷ xs) l h = grind (arith, lower_same_higher, gt_insert b k xs l h.1)

strict_insert : (k : ℕ) (xs : List ℕ) → IsStrict xs → IsStrict (insert_key nat_cmp xs k)
strict_insert k [] h = (tt, tt)
strict_insert k (x ∷ xs) h = grind (arith, lower_same_higher, gt_down, gt_insert, strict_insert k xs h.1)

strict_fold : (ns xs : List ℕ) → IsStrict xs → IsStrict (fold (λ ks k. insert_key nat_cmp ks k) xs ns)
strict_fold [] xs h = h
strict_fold (n ∷ ns) xs h = strict_fold ns (insert_key nat_cmp xs n) (strict_insert n xs h)

pub ascending_ascends : (ns : List ℕ) → IsStrict (ascending ns)
ascending_ascends ns = strict_fold ns [] tt

gt_range : (k a n : ℕ) → k < a → AllGt k (range_with_len a n)
gt_range k a zero l = tt
gt_range k a (suc n) l = (l, gt_range k (a + 1) n (omega arith))

pub range_ascends : (a n : ℕ) → IsStrict (range_with_len a n)
range_ascends a zero = tt
range_ascends a (suc n) = (gt_range a (a + 1) n (omega arith), range_ascends (a + 1) n)
