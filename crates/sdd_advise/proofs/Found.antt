-- The steps of a search.
use Rattle.sdd_advise.proofs.All.{Came, Contains, Edge, IsUnderWay, Joins, LeadsTo, List, MatchOption, MatchOption-at_some, None, Option, Reached, Some, [], ap, arith, cases_eq, cases_lt, cond, count_by, get_or-replicate, get_or-set_other, get_or-set_same, get_or_append_left, get_or_past, get_or_push, inl, inr, is_none, is_some, length, length-replicate, length-set, length_push, none-some, place_of, reached_at, refl, replicate, same_Some, set, subst, suc, sum_by-cons, sum_by-set, sym, true, zero, ℕ, ◌++◌, ◌+◌, ◌<◌, ◌^◌, ◌∙◌, ◌∷◌, ◌≡◌, ◌≢◌, ◌⊎◌}

-- 1 for a node without a place
abbrev open_place : Option ℕ → ℕ
open_place o = cond (is_none o) 1 0

-- no node has a place
abbrev blank : ℕ → List (Option ℕ)
blank n = replicate n None

all_open : (n : ℕ) → count_by is_none (blank n) ≡ n
all_open zero = refl
all_open (suc n) = omega (arith, all_open n, sum_by-cons open_place None (blank n))

none_there : (n node : ℕ) → place_of (blank n) node ≡ None
none_there n node = grind (arith, cases_lt, get_or-replicate, get_or_past, blank, length-replicate)

-- a place that is given: that of the node, or as before
given : (places : List (Option ℕ)) (v k a : ℕ) → v < length places
    → ((a ≡ v) × (place_of (set places v (Some k)) a ≡ Some k)) ⊎ ((a ≢ v) × (place_of (set places v (Some k)) a ≡ place_of places a))
given places v k a l = grind (arith, cases_eq, get_or-set_same, get_or-set_other)

-- what has a place keeps it
pub some_stays : (places : List (Option ℕ)) (v k a : ℕ) → v < length places → is_some (place_of places a) ≡ true
    → is_some (place_of (set places v (Some k)) a) ≡ true
some_stays places v k a l h = grind (arith, given, is_some)

module _ (edges : List Edge) (Goes : Edge → Type 0) (nodes : ℕ) where
  -- at the start
  pub search_begun : (start : ℕ) (places : List (Option ℕ)) (reached : List Reached) → nodes < 2 ^ 32 → start < nodes
      → places ≡ set (blank nodes) start (Some 0) → reached ≡ (record { node = start; came = None }) ∷ []
      → IsUnderWay edges Goes nodes 0 places reached
  search_begun start places reached few l p r =
      let long : length (blank nodes) ≡ nodes = length-replicate nodes None in
      let within : start < length (blank nodes) = omega arith in
      let one : List Reached = record { node = start; came = None } ∷ [] in
      let at_zero : (k : ℕ) → k < 1 → k ≡ 0 = λ k m. omega arith in
      subst (λ z. IsUnderWay edges Goes nodes 0 z reached) (sym p)
      (subst (λ z. IsUnderWay edges Goes nodes 0 (set (blank nodes) start (Some 0)) z) (sym r)
      (record {
        few = few;
        one_each = length-set (blank nodes) start (Some 0) ∙ long;
        room =
            omega (arith, all_open nodes, sum_by-set open_place (blank nodes) start (Some 0) None within, ap open_place (none_there nodes start));
        up_to = omega arith;
        begun = omega arith;
        traced = grind (arith, given, blank, same_Some, reached_at, none-some, none_there);
        there = λ k m.
            subst (λ z. ((reached_at one z).node < nodes) × (place_of (set (blank nodes) start (Some 0)) (reached_at one z).node ≡ Some z)) (sym (at_zero k m))
            (l, get_or-set_same (blank nodes) start (Some 0) None within);
        ways = λ k came m e. absurd (none-some came (ap (λ z. (reached_at one z).came) (sym (at_zero k m)) ∙ e));
        gone = λ k node edge m. absurd (omega arith);
      }))

  -- one more node is reached, by an edge from one that was reached before
  module _ (place : ℕ) (places : List (Option ℕ)) (reached : List Reached)
      (u : IsUnderWay edges Goes nodes place places reached) (v : ℕ) (came : Came) (within : v < nodes)
      (open_there : place_of places v ≡ None) (before : came.from < length reached)
      (is_edge : Contains edges came.edge) (goes : Goes came.edge) (joins : Joins came.edge (reached_at reached came.from).node v) where
    abbrev new_one : Reached
    new_one = record { node = v; came = Some came }

    abbrev more_places : List (Option ℕ)
    more_places = set places v (Some (length reached))

    abbrev more : List Reached
    more = reached ++ new_one ∷ []

    old_at : (k : ℕ) → k < length reached → reached_at more k ≡ reached_at reached k
    old_at k l = get_or_append_left reached (new_one ∷ []) (record { node = 0; came = None }) k l

    new_at : reached_at more (length reached) ≡ new_one
    new_at = get_or_push reached new_one (record { node = 0; came = None }) (length reached) refl

    one_more : length more ≡ length reached + 1
    one_more = length_push reached new_one

    room_there : v < length places
    room_there = omega (arith, u.one_each)

    -- a place in the longer list is that of the new one or an old one
    old_or_new : (k : ℕ) → k < length more → (k < length reached) ⊎ (k ≡ length reached)
    old_or_new k l = let e = one_more in elim (cases_lt k (length reached)) [ inl m ↦ inl m | inr m ↦ inr (omega arith) ]

    -- nodes that were reached before are others
    others : (k : ℕ) → k < length reached → (reached_at reached k).node ≢ v
    others k l e = none-some k (sym open_there ∙ ap (λ z. place_of places z) (sym e) ∙ (u.there k l).1)

    leads : (k : ℕ) (c : Came) → k < length more → (reached_at more k).came ≡ Some c → LeadsTo edges Goes more k c
    leads k c l e =
        elim (old_or_new k l) [
          | inl m ↦
              let was : (reached_at reached k).came ≡ Some c = ap (λ (z : Reached). z.came) (sym (old_at k m)) ∙ e in
              let w = u.ways k c m was in
              let first : c.from < k = MatchOption-at_some (k ≡ 0) (λ (z : Came). z.from < k) c was (u.traced.earlier k m) in
              record {
                is_edge = w.is_edge;
                goes = w.goes;
                joins =
                    subst (λ z. Joins c.edge z (reached_at more k).node) (ap (λ (z : Reached). z.node) (sym (old_at c.from (omega arith))))
                    (subst (λ z. Joins c.edge (reached_at reached c.from).node z) (ap (λ (z : Reached). z.node) (sym (old_at k m))) w.joins);
              }
          | inr m ↦
              grind (arith, reached_at, more, new_one, new_at, same_Some, old_at)
        ]

    placed_more : (node k : ℕ) → place_of more_places node ≡ Some k → (k < length more) × ((reached_at more k).node ≡ node)
    placed_more node k e =
        let longer = one_more in
        elim (given places v (length reached) node room_there) [
          | inl h ↦
              grind (arith, same_Some, reached_at, more, new_at)
          | inr h ↦
              let p = u.traced.placed node k (sym h.1 ∙ e) in
              (omega (arith, p.0), ap (λ (z : Reached). z.node) (old_at k p.0) ∙ p.1)
        ]

    earlier_more : (k : ℕ) → k < length more → MatchOption (reached_at more k).came (k ≡ 0) (λ c. c.from < k)
    earlier_more k l =
        elim (old_or_new k l) [
          | inl m ↦ subst (λ (z : Reached). MatchOption z.came (k ≡ 0) (λ c. c.from < k)) (sym (old_at k m)) (u.traced.earlier k m)
          | inr m ↦ subst (λ (z : Reached). MatchOption z.came (k ≡ 0) (λ c. c.from < k)) (sym (ap (λ z. reached_at more z) m ∙ new_at)) (subst (λ z. came.from < z) (sym m) before)
        ]

    there_more : (k : ℕ) → k < length more
        → ((reached_at more k).node < nodes) × (place_of more_places (reached_at more k).node ≡ Some k)
    there_more k l =
        elim (old_or_new k l) [
          | inl m ↦
              grind (arith, place_of, more_places, old_at, get_or-set_other, reached_at, others)
          | inr m ↦
              grind (arith, place_of, more_places, reached_at, more, new_at, get_or-set_same, room_there)
        ]

    pub node_reached : IsUnderWay edges Goes nodes place more_places more
    node_reached =
        record {
          few = u.few;
          one_each = length-set places v (Some (length reached)) ∙ u.one_each;
          room =
              grind (arith, sum_by-set, open_place, room_there, place_of, one_more);
          up_to = omega (arith, u.up_to, one_more);
          begun = omega (arith, u.begun, one_more);
          traced = record { placed = placed_more; earlier = earlier_more };
          there = there_more;
          ways = leads;
          gone = λ k node edge l is g j.
              some_stays places v (length reached) node room_there
              (u.gone k node edge l is g (subst (λ z. Joins edge z node) (ap (λ (z : Reached). z.node) (old_at k (omega (arith, u.up_to)))) j));
        }

    pub first_stays : (reached_at more 0).node ≡ (reached_at reached 0).node
    first_stays = ap (λ (z : Reached). z.node) (old_at 0 (omega (arith, u.begun)))
