-- The messages that a data module has still to answer came by different hands; and lists of them.
use Rattle.sdd_obligations.proofs.All.{Act, AllGt, AllLe, Arrive, Bool, Did, Handed, IsStrict, List, Open, Option, Records, Sends, Some, [], ap, arith, cond, false, filter, hands, is_some, le_join, le_up, lt_above, map, never, opens, opens_acted, refl, slice_get, strict_push, subst, suc, sym, true, zero, ℕ, ◌++◌, ◌<◌, ◌∙◌, ◌∷◌, ◌≡◌}
use Rattle.sdd_invariants.specs.site_module.SiteLog.{Log}

abbrev pub hands_in : List Open → List ℕ
hands_in os = map (λ (o : Open). o.hand) os

gt_filter : (p : Open → Bool) (k : ℕ) (os : List Open) → AllGt k (hands_in os) → AllGt k (hands_in (filter p os))
gt_filter p k [] h = tt
gt_filter p k (o ∷ os) h = grind (arith, cond, gt_filter p k os h.1)

le_filter : (p : Open → Bool) (k : ℕ) (os : List Open) → AllLe k (hands_in os) → AllLe k (hands_in (filter p os))
le_filter p k [] h = tt
le_filter p k (o ∷ os) h = grind (arith, cond, le_filter p k os h.1)

strict_filter : (p : Open → Bool) (os : List Open) → IsStrict (hands_in os) → IsStrict (hands_in (filter p os))
strict_filter p [] h = tt
strict_filter p (o ∷ os) h = elim (p o) as (λ b. IsStrict (hands_in (cond b (o ∷ filter p os) (filter p os)))) [
  | true ↦ (gt_filter p o.hand os h.0, strict_filter p os h.1)
  | false ↦ strict_filter p os h.1
]

hands_push : (os : List Open) (o : Open) → hands_in (os ++ o ∷ []) ≡ hands_in os ++ o.hand ∷ []
hands_push [] o = refl
hands_push (x ∷ os) o = ap (λ l. x.hand ∷ l) (hands_push os o)

pub record AreApart (log : Log) : Type 0 where
  pub strict : IsStrict (hands_in (opens log))
  pub within : AllLe (hands log) (hands_in (opens log))

apart_acted : (act : Act) (n : ℕ) (os : List Open) → IsStrict (hands_in os) → AllLe n (hands_in os)
    → IsStrict (hands_in (opens_acted act os)) × AllLe n (hands_in (opens_acted act os))
apart_acted (Records k (Arrive txn attempt dm) sends) n os h l = (strict_filter _ os h, le_filter _ n os l)
apart_acted (Sends to m hand) n os h l = (strict_filter _ os h, le_filter _ n os l)
apart_acted (Records k _ sends) n os h l = (h, l)

pub are_apart : (log : Log) → AreApart log
are_apart [] = record { strict = tt; within = tt }
are_apart (Handed from m ∷ log) = grind (arith, hands_push, strict_push, lt_above, le_join, le_up, is_some, (are_apart log))
are_apart (Did act ∷ log) =
    let i = are_apart log in
    let r = apart_acted act (hands log) (opens log) i.strict i.within in
    record { strict = r.0; within = r.1 }
are_apart (_ ∷ log) = let i = are_apart log in record { strict = i.strict; within = i.within }

gt_at : (k : ℕ) (os : List Open) (j : ℕ) (p : Open) → AllGt k (hands_in os) → slice_get os j ≡ Some p → k < p.hand
gt_at k [] j p h e = cc
gt_at k (x ∷ os) zero p h e = let q : x ≡ p = cc in subst (λ (y : Open). k < y.hand) q h.0
gt_at k (x ∷ os) (suc j) p h e = gt_at k os j p h.1 e

-- one hand, one message
pub one_hand : (os : List Open) (i j : ℕ) (o p : Open) → IsStrict (hands_in os) → slice_get os i ≡ Some o → slice_get os j ≡ Some p → o.hand ≡ p.hand → o ≡ p
one_hand [] i j o p h e f g = cc
one_hand (x ∷ os) zero zero o p h e f g = let q : ◌≡◌ {A = Option Open} (Some o) (Some p) = sym e ∙ f in cc
one_hand (x ∷ os) zero (suc j) o p h e f g =
    let q : x ≡ o = cc in
    absurd (omega (arith, gt_at x.hand os j p h.0 f, (ap (λ (y : Open). y.hand) q), g))
one_hand (x ∷ os) (suc i) zero o p h e f g =
    let q : x ≡ p = cc in
    let r : x.hand ≡ p.hand = ap (λ (y : Open). y.hand) q in
    absurd (omega (arith, gt_at x.hand os i o h.0 e, r, g))
one_hand (x ∷ os) (suc i) (suc j) o p h e f g = one_hand os i j o p h.1 e f g

-- sifting

pub sift_within : {A : Type 0} (p q : A → Bool) (xs : List A) → ((j : ℕ) (x : A) → slice_get xs j ≡ Some x → q x ≡ true → p x ≡ true)
    → filter q (filter p xs) ≡ filter q xs
sift_within p q [] f = refl
sift_within p q (x ∷ xs) f =
    let i = sift_within p q xs (λ j y e. f (suc j) y e) in
    elim (p x) as (λ b. p x ≡ b → filter q (cond b (x ∷ filter p xs) (filter p xs)) ≡ filter q (x ∷ xs)) [
      | true ↦ λ e. ap (λ l. cond (q x) (x ∷ l) l) i
      | false ↦ λ e. elim (q x) as (λ b. q x ≡ b → filter q (filter p xs) ≡ cond b (x ∷ filter q xs) (filter q xs)) [
        | true ↦ λ g. never (p x) (f 0 x refl g) e
        | false ↦ λ g. i
      ] refl
    ] refl

pub sift_swap : {A : Type 0} (p q : A → Bool) (xs : List A) → filter q (filter p xs) ≡ filter p (filter q xs)
sift_swap p q [] = refl
sift_swap p q (x ∷ xs) = grind (arith, cond, sift_swap p q xs)

pub sift_has : {A : Type 0} (p : A → Bool) (xs : List A) (j : ℕ) (x : A) → slice_get xs j ≡ Some x → p x ≡ true → (i : ℕ) × (slice_get (filter p xs) i ≡ Some x)
sift_has p [] j x e f = cc
sift_has {A = A} p (y ∷ xs) zero x e f = grind (arith, cond)
sift_has p (y ∷ xs) (suc j) x e f =
    let i = sift_has p xs j x e f in
    elim (p y) as (λ b. (n : ℕ) × (slice_get (cond b (y ∷ filter p xs) (filter p xs)) n ≡ Some x)) [ true ↦ (suc i.0, i.1) | false ↦ i ]
