-- The transactions by their places, their classes, and the fragments that they change.
use Rattle.sdd_links.proofs.All.{Change, Committed, Contains, Contains-append_cases, Contains-cases, Contains-later, Contains-nil, List, Some, [], ap, arith, by_class, by_fragment, changes, enumerate_from, eq-eqb, eqb-true, flat_map, inl, inr, map, slice_get, subst, suc, sym, true, zero, ℕ, ◌++◌, ◌+◌, ◌==◌, ◌∷◌, ◌≡◌, ◌≤◌}
use Rattle.sdd_links.proofs.Chained.{NumbersRise}
use Rattle.sdd_links.proofs.Members.{Contains-map, Contains-from_map, Contains-flat_map, Contains-from_flat_map, passes_member, member_passes}

-- each item with its place

enumerated : {X : Type 0} (xs : List X) (n : ℕ) (p : ℕ × X) → Contains (enumerate_from n xs) p
    → (k : ℕ) × (p.0 ≡ n + k) × (slice_get xs k ≡ Some p.1)
enumerated [] n p c = absurd (Contains-nil p c)
enumerated (x ∷ xs) n p c =
    elim (Contains-cases (n, x) (enumerate_from (n + 1) xs) p c) [
      | inl e ↦
          grind arith
      | inr m ↦
          let r = enumerated xs (n + 1) p m in
          let place = r.1 in
          (suc r.0, omega (arith, place), r.2)
    ]

in_enumerated : {X : Type 0} (xs : List X) (n k : ℕ) (x : X) → slice_get xs k ≡ Some x → Contains (enumerate_from n xs) (n + k, x)
in_enumerated [] n k x e = absurd (cc)
in_enumerated (y ∷ xs) n zero x e = grind arith
in_enumerated (y ∷ xs) n (suc k) x e = grind (arith, Contains-later, enumerate_from, (in_enumerated xs (n + 1) k x e))

pub at_enumerated : {X : Type 0} (xs : List X) (p : ℕ × X) → Contains (enumerate_from 0 xs) p → slice_get xs p.0 ≡ Some p.1
at_enumerated xs p c =
    let r = enumerated xs 0 p c in
    let place = r.1 in
    let same : r.0 ≡ p.0 = omega (arith, place) in
    subst (λ k. slice_get xs k ≡ Some p.1) same r.2

pub is_enumerated : {X : Type 0} (xs : List X) (k : ℕ) (x : X) → slice_get xs k ≡ Some x → Contains (enumerate_from 0 xs) (k, x)
is_enumerated xs k x e = let same : 0 + k ≡ k = omega arith in subst (λ (j : ℕ). Contains (enumerate_from 0 xs) (j, x)) same (in_enumerated xs 0 k x e)

-- classes

pub from_class : (txns : List Committed) (key i : ℕ) → Contains (by_class txns) (key, i)
    → (t : Committed) × (slice_get txns i ≡ Some t) × (t.start.class ≡ key)
from_class txns key i c =
    let r = Contains-from_map (λ (p : ℕ × Committed). (p.1.start.class, p.0)) (enumerate_from 0 txns) (key, i) c in
    let place : i ≡ r.0.0 = ap (λ (q : ℕ × ℕ). q.1) r.2 in
    let class : key ≡ r.0.1.start.class = ap (λ (q : ℕ × ℕ). q.0) r.2 in
    (r.0.1, subst (λ k. slice_get txns k ≡ Some r.0.1) (sym place) (at_enumerated txns r.0 r.1), sym class)

pub in_class : (txns : List Committed) (i : ℕ) (t : Committed) → slice_get txns i ≡ Some t → Contains (by_class txns) (t.start.class, i)
in_class txns i t e =
    Contains-map (λ (p : ℕ × Committed). (p.1.start.class, p.0)) (enumerate_from 0 txns) (i, t) (is_enumerated txns i t e)

-- fragments

abbrev pairs_of : ℕ × Committed → List (ℕ × ℕ)
pairs_of p = map (λ c. (c.frag.0, p.0)) p.1.changes

pub from_fragment : (txns : List Committed) (f i : ℕ) → Contains (by_fragment txns) (f, i)
    → (t : Committed) × (slice_get txns i ≡ Some t) × (changes t f ≡ true)
from_fragment txns f i c =
    let r = Contains-from_flat_map pairs_of (enumerate_from 0 txns) (f, i) c in
    let q = Contains-from_map (λ (d : Change). (d.frag.0, r.0.0)) r.0.1.changes (f, i) r.2 in
    let place : i ≡ r.0.0 = ap (λ (z : ℕ × ℕ). z.1) q.2 in
    let frag : f ≡ q.0.frag.0 = ap (λ (z : ℕ × ℕ). z.0) q.2 in (
      r.0.1,
      subst (λ k. slice_get txns k ≡ Some r.0.1) (sym place) (at_enumerated txns r.0 r.1),
      passes_member (λ d. d.frag.0 == f) r.0.1.changes q.0 q.1 (eq-eqb q.0.frag.0 f (sym frag)),
    )

pub in_fragment : (txns : List Committed) (f i : ℕ) (t : Committed) → slice_get txns i ≡ Some t → changes t f ≡ true
    → Contains (by_fragment txns) (f, i)
in_fragment txns f i t e b =
    let r = member_passes (λ d. d.frag.0 == f) t.changes b in
    let frag : r.0.frag.0 ≡ f = eqb-true r.0.frag.0 f r.2 in
    subst (λ (g : ℕ). Contains (by_fragment txns) (g, i)) frag
    (Contains-flat_map pairs_of (enumerate_from 0 txns) (i, t) (r.0.frag.0, i) (is_enumerated txns i t e)
    (Contains-map (λ (d : Change). (d.frag.0, i)) t.changes r.0 r.1))

-- their places rise

later_place : {X : Type 0} (xs : List X) (n : ℕ) (p : ℕ × X) → Contains (enumerate_from n xs) p → n ≤ p.0
later_place xs n p c = let r = enumerated xs n p c in let place = r.1 in omega (arith, place)

classes_from : (n : ℕ) (txns : List Committed) → NumbersRise (map (λ (p : ℕ × Committed). (p.1.start.class, p.0)) (enumerate_from n txns))
classes_from n [] = tt
classes_from n (t ∷ txns) = (
  (λ q c.
      let r = Contains-from_map (λ (p : ℕ × Committed). (p.1.start.class, p.0)) (enumerate_from (n + 1) txns) q c in
      let place : q.1 ≡ r.0.0 = ap (λ (z : ℕ × ℕ). z.1) r.2 in
      let l = later_place txns (n + 1) r.0 r.1 in
      omega (arith, place)),
  classes_from (n + 1) txns,
)

pub classes_rise : (txns : List Committed) → NumbersRise (by_class txns)
classes_rise txns = classes_from 0 txns

one_number : (n : ℕ) (ds : List Change) (rest : List (ℕ × ℕ)) → ((q : ℕ × ℕ) → Contains rest q → n ≤ q.1) → NumbersRise rest
    → NumbersRise (map (λ d. (d.frag.0, n)) ds ++ rest)
one_number n [] rest h r = r
one_number n (d ∷ ds) rest h r = (
  (λ q c. elim (Contains-append_cases (map (λ (e : Change). (e.frag.0, n)) ds) rest q c) [
    | inl m ↦
        let s = Contains-from_map (λ (e : Change). (e.frag.0, n)) ds q m in
        let same : q.1 ≡ n = ap (λ (z : ℕ × ℕ). z.1) s.2 in
        omega (arith, same)
    | inr m ↦ h q m
  ]),
  one_number n ds rest h r,
)

fragments_from : (n : ℕ) (txns : List Committed) → NumbersRise (flat_map pairs_of (enumerate_from n txns))
fragments_from n [] = tt
fragments_from n (t ∷ txns) =
    one_number n t.changes (flat_map pairs_of (enumerate_from (n + 1) txns))
    (λ q c.
    let r = Contains-from_flat_map pairs_of (enumerate_from (n + 1) txns) q c in
    let s = Contains-from_map (λ (e : Change). (e.frag.0, r.0.0)) r.0.1.changes q r.2 in
    let same : q.1 ≡ r.0.0 = ap (λ (z : ℕ × ℕ). z.1) s.2 in
    let l = later_place txns (n + 1) r.0 r.1 in
    omega (arith, same))
    (fragments_from (n + 1) txns)

pub fragments_rise : (txns : List Committed) → NumbersRise (by_fragment txns)
fragments_rise txns = fragments_from 0 txns
