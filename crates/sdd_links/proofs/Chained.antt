-- Links along a list whose numbers rise: between which numbers there are paths of them.
use Rattle.sdd_links.proofs.All.{Contains, Contains-cases, Contains-here, Contains-later, Contains-nil, IsPath, Links, List, None, Some, [], arith, cases_eq, cases_lt, chain_after, chains, cond, eq-eqb, eqb-true, false, filter, group, groups, inl, inr, map, ne_eqb, range_with_len, refl, subst, sym, true, ℕ, ◌<◌, ◌==◌, ◌∷◌, ◌≡◌, ◌≤◌}
use Rattle.sdd_links.proofs.Paths.{path_as}
use Rattle.sdd_links.proofs.Members.{Contains-flat_map, Contains-from_flat_map, Contains-map, Contains-from_map, Contains-filter, Contains-from_filter, Contains-range}

-- none is below one before it
abbrev pub Rises : List ℕ → Type 0
Rises [] = Unit {0}
Rises (x ∷ xs) = ((y : ℕ) → Contains xs y → x ≤ y) × Rises xs

-- a path of links
abbrev pub Linked : Links → ℕ → ℕ → Type 0
Linked links i j = (m : List ℕ) × IsPath (λ a b. Contains links (a, b)) i m j

pub linked_by : (links more : Links) → ((l : ℕ × ℕ) → Contains links l → Contains more l) → (i j : ℕ) → Linked links i j → Linked more i j
linked_by links more h i j p = grind (arith, path_as)

-- what is linked along a list
pub record InChain (xs : List ℕ) (l : ℕ × ℕ) : Type 0 where
  pub first : Contains xs l.0
  pub second : Contains xs l.1
  pub below : l.0 < l.1

chain_is : (m : ℕ) (xs : List ℕ) → Rises (m ∷ xs) → (l : ℕ × ℕ) → Contains (chain_after (Some m) xs) l → InChain (m ∷ xs) l
chain_is m [] r l c = absurd (Contains-nil l c)
chain_is m (n ∷ xs) r l c =
    let later : InChain (n ∷ xs) l → InChain (m ∷ n ∷ xs) l = λ i. record {
      first = Contains-later m (n ∷ xs) l.0 i.first;
      second = Contains-later m (n ∷ xs) l.1 i.second;
      below = i.below;
    } in
    elim (cases_eq m n) [
      | inl e ↦ later (chain_is n xs r.1 l (subst (λ b. Contains (cond b (chain_after (Some n) xs) ((m, n) ∷ chain_after (Some n) xs)) l) (eq-eqb m n e) c))
      | inr d ↦
          elim (Contains-cases (m, n) (chain_after (Some n) xs) l
          (subst (λ b. Contains (cond b (chain_after (Some n) xs) ((m, n) ∷ chain_after (Some n) xs)) l) (ne_eqb m n d) c)) [
            | inl e ↦
                let most = r.0 n (Contains-here n xs) in
                subst (InChain (m ∷ n ∷ xs)) (sym e) (record {
                  first = Contains-here m (n ∷ xs);
                  second = Contains-later m (n ∷ xs) n (Contains-here n xs);
                  below = elim (cases_lt m n) [ inl u ↦ u | inr g ↦ absurd (d (omega arith)) ];
                })
            | inr k ↦ later (chain_is n xs r.1 l k)
          ]
    ]

pub chained : (xs : List ℕ) → Rises xs → (l : ℕ × ℕ) → Contains (chain_after None xs) l → InChain xs l
chained [] r l c = absurd (Contains-nil l c)
chained (x ∷ xs) r l c = chain_is x xs r l c

-- from the first, and from any
from_first : (m : ℕ) (xs : List ℕ) → Rises (m ∷ xs) → (j : ℕ) → Contains xs j → m < j → Linked (chain_after (Some m) xs) m j
from_first m [] r j c l = absurd (Contains-nil j c)
from_first m (n ∷ xs) r j c l =
    elim (cases_eq m n) [
      | inl e ↦
          let later = elim (Contains-cases n xs j c) as (λ z. Contains xs j) [ inl s ↦ absurd (let same : j ≡ n = s in omega arith) | inr k ↦ k ] in
          let rest = from_first n xs r.1 j later (omega arith) in
          subst (λ b. Linked (cond b (chain_after (Some n) xs) ((m, n) ∷ chain_after (Some n) xs)) m j) (sym (eq-eqb m n e))
          (subst (λ z. Linked (chain_after (Some n) xs) z j) (sym e) rest)
      | inr d ↦
          let links = chain_after (Some n) xs in
          subst (λ b. Linked (cond b links ((m, n) ∷ links)) m j) (sym (ne_eqb m n d))
          (elim (Contains-cases n xs j c) [
            | inl s ↦ ([], subst (λ z. Contains ((m, n) ∷ links) (m, z)) (sym s) (Contains-here (m, n) links))
            | inr k ↦
                elim (cases_eq j n) [
                  | inl s ↦ ([], subst (λ z. Contains ((m, n) ∷ links) (m, z)) (sym s) (Contains-here (m, n) links))
                  | inr t ↦
                      let most = r.1.0 j k in
                      let rest = from_first n xs r.1 j k (elim (cases_lt n j) [ inl u ↦ u | inr g ↦ absurd (t (omega arith)) ]) in
                      let more = linked_by links ((m, n) ∷ links) (λ z w. Contains-later (m, n) links z w) n j rest in
                      (n ∷ more.0, (Contains-here (m, n) links, more.1))
                ]
          ])
    ]

chain_more : (m n : ℕ) (xs : List ℕ) (l : ℕ × ℕ) → Contains (chain_after (Some n) xs) l → Contains (chain_after (Some m) (n ∷ xs)) l
chain_more m n xs l c =
    elim (m == n) as (λ b. Contains (cond b (chain_after (Some n) xs) ((m, n) ∷ chain_after (Some n) xs)) l) [
      | true ↦ c
      | false ↦ Contains-later (m, n) (chain_after (Some n) xs) l c
    ]

from_any : (m : ℕ) (xs : List ℕ) → Rises (m ∷ xs) → (i j : ℕ) → Contains (m ∷ xs) i → Contains (m ∷ xs) j → i < j
    → Linked (chain_after (Some m) xs) i j
from_any m [] r i j c d l = grind arith
from_any m (n ∷ xs) r i j c d l =
    elim (Contains-cases m (n ∷ xs) i c) [
      | inl e ↦ elim (Contains-cases m (n ∷ xs) j d) [
        | inl f ↦ absurd (let same : i ≡ m = e in let other : j ≡ m = f in omega arith)
        | inr k ↦ subst (λ z. Linked (chain_after (Some m) (n ∷ xs)) z j) (sym e) (from_first m (n ∷ xs) r j k (subst (λ z. z < j) e l))
      ]
      | inr k ↦ elim (Contains-cases m (n ∷ xs) j d) [
        | inl f ↦ absurd (let most = r.0 i k in let same : j ≡ m = f in omega arith)
        | inr h ↦ linked_by (chain_after (Some n) xs) (chain_after (Some m) (n ∷ xs)) (chain_more m n xs) i j (from_any n xs r.1 i j k h l)
      ]
    ]

-- between any two members
pub chain_links : (xs : List ℕ) → Rises xs → (i j : ℕ) → Contains xs i → Contains xs j → i < j → Linked (chain_after None xs) i j
chain_links [] r i j c d l = absurd (Contains-nil i c)
chain_links (x ∷ xs) r i j c d l = from_any x xs r i j c d l

-- the same in groups of pairs whose numbers rise
abbrev pub NumbersRise : List (ℕ × ℕ) → Type 0
NumbersRise [] = Unit {0}
NumbersRise (p ∷ ps) = ((q : ℕ × ℕ) → Contains ps q → p.1 ≤ q.1) × NumbersRise ps

pub in_group : (pairs : List (ℕ × ℕ)) (key n : ℕ) → Contains pairs (key, n) → Contains (group pairs key) n
in_group pairs key n c =
    Contains-map (λ (p : ℕ × ℕ). p.1) (filter (λ p. p.0 == key) pairs) (key, n)
    (Contains-filter (λ p. p.0 == key) pairs (key, n) (eq-eqb key key refl) c)

pub from_group : (pairs : List (ℕ × ℕ)) (key n : ℕ) → Contains (group pairs key) n → Contains pairs (key, n)
from_group pairs key n c =
    let r = Contains-from_map (λ (p : ℕ × ℕ). p.1) (filter (λ p. p.0 == key) pairs) n c in
    let q = Contains-from_filter (λ p. p.0 == key) pairs r.0 r.1 in
    subst (λ z. Contains pairs (z, n)) (eqb-true r.0.0 key q.1) (subst (λ z. Contains pairs (r.0.0, z)) (sym r.2) q.0)

pub group_rises : (pairs : List (ℕ × ℕ)) (key : ℕ) → NumbersRise pairs → Rises (group pairs key)
group_rises [] key r = tt
group_rises (p ∷ pairs) key r =
    let rest = group_rises pairs key r.1 in
    elim (p.0 == key) as (λ b. Rises (map (λ (q : ℕ × ℕ). q.1) (cond b (p ∷ filter (λ q. q.0 == key) pairs) (filter (λ q. q.0 == key) pairs)))) [
      | true ↦ ((λ n c. r.0 (key, n) (from_group pairs key n c)), rest)
      | false ↦ rest
    ]

module _ (pairs : List (ℕ × ℕ)) (count : ℕ) (rise : NumbersRise pairs) where
  abbrev all_chains : Links
  all_chains = chains (groups pairs count)

  pub record InGroup (l : ℕ × ℕ) : Type 0 where
    pub key : ℕ
    pub first : Contains pairs (key, l.0)
    pub second : Contains pairs (key, l.1)
    pub below : l.0 < l.1

  pub chains_are : (l : ℕ × ℕ) → Contains all_chains l → InGroup l
  chains_are l c =
      let r = Contains-from_flat_map (chain_after None) (groups pairs count) l c in
      let k = Contains-from_map (group pairs) (range_with_len 0 count) r.0 r.1 in
      let i = chained (group pairs k.0) (group_rises pairs k.0 rise) l (subst (λ z. Contains (chain_after None z) l) k.2 r.2) in
      record { key = k.0; first = from_group pairs k.0 l.0 i.first; second = from_group pairs k.0 l.1 i.second; below = i.below }

  pub chains_link : (key i j : ℕ) → key < count → Contains pairs (key, i) → Contains pairs (key, j) → i < j → Linked all_chains i j
  chains_link key i j within c d l =
      let there = Contains-map (group pairs) (range_with_len 0 count) key (Contains-range 0 count key (omega arith) (omega arith)) in
      linked_by (chain_after None (group pairs key)) all_chains
      (λ z w. Contains-flat_map (chain_after None) (groups pairs count) (group pairs key) z there w) i j
      (chain_links (group pairs key) (group_rises pairs key rise) i j (in_group pairs key i c) (in_group pairs key j d) l)
