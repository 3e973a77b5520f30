-- One step of the nodes that are ready first, and of what is taken.
use Rattle.sdd_links.proofs.All.{All, All-head, All-insert_key, All-tail, Bool, Contains, Front, Groups, List, [], ap, append-nil, append_assoc, arith, at_node, cond, eq-eqb, false, filter, first_ready, fold, get_or as slice_index_or, insert_key, length, nat_cmp, range_with_len, refl, released, rules, suc, taking, true, zero, ℕ, ◌++◌, ◌+◌, ◌-◌, ◌<◌, ◌==◌, ◌∙◌, ◌∷◌, ◌≡◌, ◌≢◌}
use Rattle.sdd_links.proofs.Ascending.{insert_last, from_range}
use Rattle.sdd_links.proofs.Members.{Contains-from_filter}

filter_range : (p : ℕ → Bool) (a n j : ℕ) → a + n ≡ j
    → filter p (range_with_len a (suc n)) ≡ filter p (range_with_len a n) ++ cond (p j) (j ∷ []) []
filter_range p a zero j e = let same : a ≡ j = omega (arith, e) in ap (λ (i : ℕ). cond (p i) (i ∷ []) []) same
filter_range p a (suc n) j e = grind (arith, (filter_range p (a + 1) n j (omega (arith, e))))

first_next : (counts : List ℕ) (n : ℕ) → first_ready counts (n + 1) ≡ first_ready counts n ++ cond (at_node counts n == 0) (n ∷ []) []
first_next counts n =
    let next : n + 1 ≡ suc n = omega arith in
    ap (λ k. first_ready counts k) next ∙ filter_range (λ i. at_node counts i == 0) 0 n n (omega arith)

first_below : (counts : List ℕ) (n y : ℕ) → Contains (first_ready counts n) y → y < n
first_below counts n y m =
    let r = from_range 0 n y (Contains-from_filter (λ i. at_node counts i == 0) (range_with_len 0 n) y m).0 in
    let below = r.1 in
    omega arith

pub first_here : (counts : List ℕ) (n : ℕ) → at_node counts n ≡ 0
    → insert_key nat_cmp (first_ready counts n) n ≡ first_ready counts (n + 1)
first_here counts n e = search (rules, insert_last, first_below, first_next, eq-eqb)

pub first_other : (counts : List ℕ) (n : ℕ) → at_node counts n ≢ 0 → first_ready counts n ≡ first_ready counts (n + 1)
first_other counts n d = grind (arith, first_next, append-nil)

-- one node is taken
pub taking_more : (after : Groups) (n m : ℕ) (counts old rest : List ℕ) (node : ℕ) (front : Front) → n ≡ suc m
    → old ≡ node ∷ rest → front ≡ fold released (counts, rest) (slice_index_or after node [])
    → taking after n counts old ≡ node ∷ taking after m front.0 front.1
taking_more after n m counts old rest node front e f g = cc

pub taken_more : (order rest new all : List ℕ) (node : ℕ) (left : List ℕ) → order ++ left ≡ all → left ≡ node ∷ rest
    → new ≡ order ++ node ∷ [] → new ++ rest ≡ all
taken_more order rest new all node left h e f = grind (arith, append_assoc)

pub taken_all : (after : Groups) (n : ℕ) (counts old order all : List ℕ) → old ≡ []
    → order ++ taking after n counts old ≡ all → order ≡ all
taken_all after n counts old order all e h = grind (arith, append-nil)

-- the nodes that are ready stay within bounds
released_within : (bound : ℕ) (front : Front) (target : ℕ) → All (λ i. i < bound) front.1 → target < bound
    → All (λ i. i < bound) (released front target).1
released_within bound front target all within =
    elim (at_node front.0 target == 1) as (λ b. All (λ i. i < bound) (cond b (insert_key nat_cmp front.1 target) front.1)) [
      | true ↦ All-insert_key nat_cmp target (λ i. i < bound) front.1 all within
      | false ↦ all
    ]

pub released_below : (bound : ℕ) (targets : List ℕ) (front : Front) → All (λ i. i < bound) front.1
    → All (λ i. i < bound) targets → All (λ i. i < bound) (fold released front targets).1
released_below bound [] front all into = all
released_below bound (t ∷ targets) front all into = grind (arith, released_within, (released_below bound targets (released front t) (released_within bound front t all (All-head (λ i. i < bound) t targets into)) (All-tail (λ i. i < bound) t targets into)))

pub nothing_in : (ks : List ℕ) → (0 < length ks → false ≡ true) → ks ≡ []
nothing_in [] h = refl
nothing_in (k ∷ ks) h = let wrong = h (omega arith) in absurd (cc)
