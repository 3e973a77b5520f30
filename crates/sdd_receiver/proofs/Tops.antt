-- The greatest k with 1 to k among the numbers.
use Rattle.sdd_receiver.proofs.All.{List, [], arith, contains, dec_le, eqb-true, false, greatest, max, nat_tests, refl, suc, top, top_from, true, zero, ℕ, ◌+◌, ◌<◌, ◌==◌, ◌||◌, ◌∷◌, ◌≡◌, ◌≤◌}

abbrev pub IsTop : List ℕ → ℕ → Type 0
IsTop ns k = ((j : ℕ) → j < k → contains ns (suc j) ≡ true) × (contains ns (suc k) ≡ false)

pub contains-le : (ns : List ℕ) (k : ℕ) → contains ns k ≡ true → k ≤ greatest ns
contains-le [] k e = cc
contains-le (n ∷ ns) k e =
    elim (n == k) as (λ b. (n == k) ≡ b → (b || contains ns k) ≡ true → k ≤ max n (greatest ns)) [
      | true ↦ λ p q. let same : n ≡ k = eqb-true n k p in omega arith
      | false ↦ λ p q. let i = contains-le ns k q in omega arith
    ] refl e

pub top_from_is : (n k : ℕ) (ns : List ℕ) → greatest ns ≤ n + k
    → ((j : ℕ) → j < k → contains ns (suc j) ≡ true) → IsTop ns (top_from n k ns)
top_from_is zero k ns h below = grind (arith, nat_tests, contains-le)
top_from_is (suc n) k ns h below =
    elim (contains ns (suc k)) as (λ b. contains ns (suc k) ≡ b → IsTop ns (elim b as (λ _. ℕ) [ true ↦ top_from n (suc k) ns | false ↦ k ])) [
      | true ↦ λ e. top_from_is n (suc k) ns (omega arith)
          (λ j l. (elim (dec_le k j) [ yes p ↦ (let same : j ≡ k = omega arith in rw same e) | no q ↦ below j (omega (arith, q)) ]))
      | false ↦ λ e. (below, e)
    ] refl

pub top_is : (ns : List ℕ) → IsTop ns (top ns)
top_is ns = top_from_is (greatest ns) 0 ns (omega arith) (λ j l. absurd (omega arith))

not_both : (ns : List ℕ) (a b : ℕ) → IsTop ns a → IsTop ns b → ¬ (a < b)
not_both ns a b h k l = let e : contains ns (suc a) ≡ true = k.0 a l in let f : contains ns (suc a) ≡ false = h.1 in cc

-- there is one
pub one_top : (ns : List ℕ) (a b : ℕ) → IsTop ns a → IsTop ns b → a ≡ b
one_top ns a b h k = grind (arith, nat_tests)

-- the receiver's loop: it counts up while the next number is there
pub counts_up : (ns : List ℕ) (k : ℕ) → ((j : ℕ) → j < k → contains ns (suc j) ≡ true)
    → contains ns (suc k) ≡ true → (j : ℕ) → j < suc k → contains ns (suc j) ≡ true
counts_up ns k below e j l = (elim (dec_le k j) [ yes p ↦ (let same : j ≡ k = omega arith in rw same e) | no q ↦ below j (omega (arith, q)) ])

pub stops : (ns : List ℕ) (k : ℕ) → ((j : ℕ) → j < k → contains ns (suc j) ≡ true)
    → contains ns (suc k) ≡ false → k ≡ top ns
stops ns k below e = one_top ns k (top ns) (below, e) (top_is ns)

pub starts : (n : ℕ) (ns : List ℕ) (j : ℕ) → j < top ns → contains (n ∷ ns) (suc j) ≡ true
starts n ns j l = (elim (n == (suc j)) as (λ b. (b || contains ns (suc j)) ≡ true) [ true ↦ refl | false ↦ ((top_is ns).0 j l) ])

pub repeated : (n : ℕ) (ns : List ℕ) → contains ns n ≡ true → top (n ∷ ns) ≡ top ns
repeated n ns e =
    one_top (n ∷ ns) (top (n ∷ ns)) (top ns) (top_is (n ∷ ns)) (grind (arith, starts, top, contains, eqb-true, top_is))

-- more numbers, no smaller top
pub top_rises : (n : ℕ) (ns : List ℕ) → top ns ≤ top (n ∷ ns)
top_rises n ns = elim (dec_le (top ns) (top (n ∷ ns))) [
  | yes p ↦ p
  | no p ↦ (let l : top (n ∷ ns) < top ns = omega (arith, p) in
      let f : contains (n ∷ ns) (suc (top (n ∷ ns))) ≡ false = (top_is (n ∷ ns)).1 in cc (starts n ns (top (n ∷ ns)) l))
]
