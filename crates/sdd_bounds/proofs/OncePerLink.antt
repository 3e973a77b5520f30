-- Each link is listed once, so a list that has so many events for each link has so many on the link from a to b.
use Rattle.sdd_bounds.proofs.All.{Bool, D, Deliver, Event, Link, List, None, Resend, Site, Some, T, U, [], ap, are_linked, arith, cases_Bool, cond, cons_option, eq-eqb, eqb-true, false, false≢true, filter_map, flat_map, if◌then◌else◌, inl, inr, is_link, is_site, leb-true, link_parts, links, map, nat_le, ne_eqb, range_with_len, refl, replicate, same_here, same_is, same_site, sites, subst, suc, sym, true, zero, ℕ, and_parts, ◌&&◌, ◌++◌, ◌+◌, ◌<◌, ◌==◌, ◌∙◌, ◌∷◌, ◌≡◌, ◌≢◌, ◌≤◌}
use Rattle.sdd_bounds.proofs.Hits.{AllDo, DoesOn, hit, hits}

-- how often a site is listed, and a link
abbrev listed : Site → List Site → ℕ
listed a [] = 0
listed a (x ∷ xs) = if same_site a x then suc (listed a xs) else listed a xs

abbrev listed_link : Site → Site → List (Site × Site) → ℕ
listed_link a b [] = 0
listed_link a b (l ∷ ls) = hit a b l.0 l.1 (listed_link a b ls)

-- the sites

if_sum : (b : Bool) (n m : ℕ) → (if b then suc (n + m) else n + m) ≡ (if b then suc n else n) + m
if_sum true n m = omega arith
if_sum false n m = refl

listed_append : (a : Site) (xs ys : List Site) → listed a (xs ++ ys) ≡ listed a xs + listed a ys
listed_append a [] ys = omega arith
listed_append a (x ∷ xs) ys = ap (λ n. if same_site a x then suc n else n) (listed_append a xs ys) ∙ if_sum (same_site a x) (listed a xs) (listed a ys)

none_listed : (a : Site) (f : ℕ → Site) (ns : List ℕ) → ((n : ℕ) → same_site a (f n) ≡ false) → listed a (map f ns) ≡ 0
none_listed a f [] h = refl
none_listed a f (n ∷ ns) h = rw (h n) (none_listed a f ns h)

module _ (f : ℕ → Site) (same : (n m : ℕ) → same_site (f n) (f m) ≡ (n == m)) where
  below_range : (n k len : ℕ) → n < k → listed (f n) (map f (range_with_len k len)) ≡ 0
  below_range n k zero l = refl
  below_range n k (suc len) l = rw (same n k, ne_eqb n k (λ e. omega arith)) (below_range n (k + 1) len (omega arith))

  in_range : (n k len : ℕ) → k ≤ n → n < k + len → listed (f n) (map f (range_with_len k len)) ≡ 1
  in_range n k zero l m = absurd (omega arith)
  in_range n k (suc len) l m = elim (cases_Bool (n == k)) [
    | inl e ↦ let is = eqb-true n k e in rw (same n k, e) (ap suc (below_range n (k + 1) len (omega arith)))
    | inr e ↦
        let other : n ≢ k = λ is. false≢true (sym e ∙ eq-eqb n k is) in
        rw (same n k, e) (in_range n (k + 1) len (omega (arith, other)) (omega arith))
  ]

a_t : ℕ → Site
a_t n = T (record { 0 = n })

a_d : ℕ → Site
a_d n = D (record { 0 = n })

once_listed : (tms dms : ℕ) (a : Site) → is_site tms dms a ≡ true → listed a (sites tms dms) ≡ 1
unfolding a_t a_d
once_listed tms dms U h =
    let parts = listed_append U (map a_t (range_with_len 1 tms)) (map a_d (range_with_len 1 dms)) in
    let ts = none_listed U a_t (range_with_len 1 tms) (λ n. refl) in
    let ds = none_listed U a_d (range_with_len 1 dms) (λ n. refl) in
    ap suc (omega arith)
once_listed tms dms (T n) h =
    let p = and_parts (nat_le 1 n.0) (nat_le n.0 tms) h in
    let parts = listed_append (T n) (map a_t (range_with_len 1 tms)) (map a_d (range_with_len 1 dms)) in
    let ts = in_range a_t (λ i j. refl) n.0 1 tms (leb-true 1 n.0 p.0) (omega (arith, leb-true n.0 tms p.1)) in
    let ds = none_listed (T n) a_d (range_with_len 1 dms) (λ k. refl) in
    omega arith
once_listed tms dms (D n) h =
    let p = and_parts (nat_le 1 n.0) (nat_le n.0 dms) h in
    let parts = listed_append (D n) (map a_t (range_with_len 1 tms)) (map a_d (range_with_len 1 dms)) in
    let ts = none_listed (D n) a_t (range_with_len 1 tms) (λ k. refl) in
    let ds = in_range a_d (λ i j. refl) n.0 1 dms (leb-true 1 n.0 p.0) (omega (arith, leb-true n.0 dms p.1)) in
    omega arith

-- the links

hit_sum : (a b from to : Site) (n m : ℕ) → hit a b from to (n + m) ≡ hit a b from to n + m
hit_sum a b from to n m = if_sum (same_site a from && same_site b to) n m

links_append : (a b : Site) (xs ys : List (Site × Site)) → listed_link a b (xs ++ ys) ≡ listed_link a b xs + listed_link a b ys
links_append a b [] ys = omega arith
links_append a b (l ∷ xs) ys = ap (hit a b l.0 l.1) (links_append a b xs ys) ∙ hit_sum a b l.0 l.1 (listed_link a b xs) (listed_link a b ys)

abbrev links_from : List Site → Site → List (Site × Site)
links_from all a = filter_map (λ b. cond (are_linked a b) (Some (a, b)) None) all

from_here : (a b : Site) (all : List Site) → are_linked a b ≡ true → listed_link a b (links_from all a) ≡ listed b all
from_here a b [] h = refl
from_here a b (y ∷ all) h = elim (cases_Bool (same_site b y)) [
  | inl e ↦
      let linked : are_linked a y ≡ true = subst (λ x. are_linked a x ≡ true) (same_is b y e) h in
      rw (linked, same_here a, e) (ap suc (from_here a b all h))
  | inr e ↦ elim (cases_Bool (are_linked a y)) [
    | inl linked ↦ rw (linked, same_here a, e) (from_here a b all h)
    | inr apart ↦ rw (apart, e) (from_here a b all h)
  ]
]

from_other : (a b x : Site) (all : List Site) → same_site a x ≡ false → listed_link a b (links_from all x) ≡ 0
from_other a b x [] h = refl
from_other a b x (y ∷ all) h = elim (cases_Bool (are_linked x y)) [
  | inl linked ↦ rw (linked, h) (from_other a b x all h)
  | inr apart ↦ rw apart (from_other a b x all h)
]

from_all : (a b : Site) (all xs : List Site) → are_linked a b ≡ true → listed b all ≡ 1 → listed_link a b (flat_map (links_from all) xs) ≡ listed a xs
from_all a b all [] h one = refl
from_all a b all (x ∷ xs) h one =
    let parts = links_append a b (links_from all x) (flat_map (links_from all) xs) in
    let rest = from_all a b all xs h one in
    elim (cases_Bool (same_site a x)) [
      | inl e ↦
          let here : listed_link a b (links_from all x) ≡ listed b all = subst (λ y. listed_link a b (links_from all y) ≡ listed b all) (same_is a x e) (from_here a b all h) in
          rw e (omega arith)
      | inr e ↦ let none = from_other a b x all e in rw e (omega arith)
    ]

pub once_linked : (tms dms : ℕ) (a b : Site) → is_link tms dms a b ≡ true → listed_link a b (links tms dms) ≡ 1
once_linked tms dms a b h =
    let p = link_parts tms dms a b h in
    from_all a b (sites tms dms) (sites tms dms) p.linked (once_listed tms dms b p.to) ∙ once_listed tms dms a p.from

-- events on them

hits_append : (a b : Site) (xs ys : List Event) → hits a b (xs ++ ys) ≡ hits a b xs + hits a b ys
hits_append a b [] ys = omega arith
hits_append a b (Deliver from to place ∷ xs) ys = ap (hit a b from to) (hits_append a b xs ys) ∙ hit_sum a b from to (hits a b xs) (hits a b ys)
hits_append a b (Resend from to ∷ xs) ys = ap (hit a b from to) (hits_append a b xs ys) ∙ hit_sum a b from to (hits a b xs) (hits a b ys)
hits_append a b (_ ∷ xs) ys = hits_append a b xs ys

all_do_append : {M : Type 0} (f : Link M → Link M) (xs ys : List Event) → AllDo f xs → AllDo f ys → AllDo f (xs ++ ys)
all_do_append f [] ys h k = k
all_do_append f (x ∷ xs) ys h k = (h.0, all_do_append f xs ys h.1 k)

all_do_replicate : {M : Type 0} (f : Link M → Link M) (n : ℕ) (l : Site × Site) (e : Event) → DoesOn f l e → AllDo f (replicate n e)
all_do_replicate f zero l e d = tt
all_do_replicate f (suc n) l e d = ((l, d), all_do_replicate f n l e d)

hits_replicate : (a b from to : Site) (e : Event) (n : ℕ) → ((events : List Event) → hits a b (e ∷ events) ≡ hit a b from to (hits a b events))
    → hits a b (replicate n e) ≡ (if same_site a from && same_site b to then n else 0)
hits_replicate a b from to e zero h = elim (same_site a from && same_site b to) as (λ c. ◌≡◌ {A = ℕ} 0 (if c then 0 else 0)) [ true ↦ refl | false ↦ refl ]
hits_replicate a b from to e (suc n) h =
    h (replicate n e) ∙ ap (hit a b from to) (hits_replicate a b from to e n h)
    ∙ elim (same_site a from && same_site b to) as (λ c. (if c then suc (if c then n else 0) else (if c then n else 0)) ≡ (if c then suc n else 0)) [ true ↦ refl | false ↦ refl ]

-- so many events for each link
abbrev pub for_each : (Site × Site → Event) → (Site × Site → ℕ) → List (Site × Site) → List Event
for_each event number ls = flat_map (λ l. replicate (number l) (event l)) ls

module _ {M : Type 0} (f : Link M → Link M) (event : Site × Site → Event) (does : (l : Site × Site) → DoesOn f l (event l)) (number : Site × Site → ℕ) where
  pub all_do : (ls : List (Site × Site)) → AllDo f (for_each event number ls)
  all_do [] = tt
  all_do (l ∷ ls) = all_do_append f (replicate (number l) (event l)) (for_each event number ls) (all_do_replicate f (number l) l (event l) (does l)) (all_do ls)

  hits_of : (a b : Site) (l : Site × Site) → hits a b (replicate (number l) (event l)) ≡ (if same_site a l.0 && same_site b l.1 then number l else 0)
  hits_of a b l = hits_replicate a b l.0 l.1 (event l) (number l) (λ events. (does l).hits_are a b events)

  -- where the link from a to b is listed once, or not at all
  hits_each : (a b : Site) (ls : List (Site × Site)) (k : ℕ) → listed_link a b ls ≡ k → k ≤ 1
      → hits a b (for_each event number ls) ≡ cond (k == 1) (number (a, b)) 0
  hits_each a b [] k e l = rw (← e) refl
  hits_each a b (l ∷ ls) k e few =
      let parts = hits_append a b (replicate (number l) (event l)) (for_each event number ls) in
      let here = hits_of a b l in
      elim (cases_Bool (same_site a l.0 && same_site b l.1)) [
        | inl same ↦
            let p = and_parts (same_site a l.0) (same_site b l.1) same in
            let one : suc (listed_link a b ls) ≡ k = rw same at e in
            let is : number (a, b) ≡ number l = (λ i. number (same_is a l.0 p.0 i, same_is b l.1 p.1 i)) in
            let rest = hits_each a b ls 0 (omega arith) (omega arith) in
            let now : hits a b (replicate (number l) (event l)) ≡ number l = rw same at here in
            let k_is : k ≡ 1 = omega arith in
            rw k_is (omega arith)
        | inr other ↦
            let rest = hits_each a b ls k (rw other at e) few in
            let now : hits a b (replicate (number l) (event l)) ≡ 0 = rw other at here in
            omega arith
      ]

  pub hits_once : (tms dms : ℕ) (a b : Site) → is_link tms dms a b ≡ true → hits a b (for_each event number (links tms dms)) ≡ number (a, b)
  hits_once tms dms a b h = hits_each a b (links tms dms) 1 (once_linked tms dms a b h) (omega arith)
