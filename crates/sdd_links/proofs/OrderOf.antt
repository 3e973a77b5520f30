-- With the links counted, the nodes are taken in their order.
use Rattle.sdd_links.proofs.All.{All, All-contains, All-map, Bool, Contains, Contains-cases, Contains-here, Contains-later, Contains-nil, Front, Groups, Links, List, None, Some, [], ap, arith, at_node, cases_eq, cond, counted, earliest, eq-eqb, eqb-true, filter, first_ready, fold, get_or as slice_index_or, get_or-replicate, get_or-set_other, get_or-set_same, group, groups, has_link, inl, inr, insert_key, is_ready, length, length-replicate, length-set, link_counts, nat_cmp, ne_eqb, nodes, order_of, refl, released, replicate, subst, suc, sym, taken, taking, zero, ℕ, ◌+◌, ◌-◌, ◌<◌, ◌==◌, ◌∙◌, ◌∷◌, ◌≡◌}
use Rattle.sdd_links.proofs.Ascending.{Ascending, insert_is, insert_has, ascending_insert, ascending_passing, from_range}
use Rattle.sdd_links.proofs.Grouped.{group_at, groups_long}
use Rattle.sdd_links.proofs.LinkedOrders.{one, led, times, without_node, none_led, led_none, led_without, counts_are}
use Rattle.sdd_links.proofs.Members.{All-members, Contains-filter, Contains-from_filter, Contains-from_map, Contains-range}
use Rattle.sdd_links.proofs.Taken.{next_is, is_next, without_is, in_without}

module _ (links : Links) (count : ℕ) where
  -- While links to targets of one node are still counted: the counts, and the nodes that are ready.
  record Counted (left targets : List ℕ) (front : Front) : Type 0 where
    pub long : length front.0 ≡ count
    pub counts : (i : ℕ) → i < count → at_node front.0 i ≡ led links left i + times i targets
    pub ready_in : (i : ℕ) → Contains front.1 i → Contains left i × (led links left i + times i targets ≡ 0)
    pub in_ready : (i : ℕ) → Contains left i → led links left i + times i targets ≡ 0 → Contains front.1 i
    pub ascending : Ascending front.1

  -- one of them is released
  module _ (left targets : List ℕ) (front : Front) (t : ℕ) (member : Contains left t) (within : t < count)
      (old : Counted left (t ∷ targets) front) where
    its_own : one (t == t) ≡ 1
    its_own = ap one (eq-eqb t t refl)

    before : at_node front.0 t ≡ led links left t + (1 + times t targets)
    before = let e = old.counts t within in omega (arith, e, its_own)

    abbrev Ready : List ℕ → Type 0
    Ready ks = ((i : ℕ) → Contains ks i → Contains left i × (led links left i + times i targets ≡ 0))
        × ((i : ℕ) → Contains left i → led links left i + times i targets ≡ 0 → Contains ks i) × Ascending ks

    new_ready : Ready (released front t).1
    new_ready =
        elim (cases_eq (at_node front.0 t) 1) [
          | inl e ↦
              let none : led links left t + times t targets ≡ 0 = omega (arith, e, before) in
              subst (λ b. Ready (cond b (insert_key nat_cmp front.1 t) front.1)) (sym (eq-eqb (at_node front.0 t) 1 e)) (
                (λ i m. elim (insert_is front.1 t i m) [
                  | inl s ↦ (subst (Contains left) (sym s) member, subst (λ j. led links left j + times j targets ≡ 0) (sym s) none)
                  | inr k ↦ let r = old.ready_in i k in (r.0, (omega (arith, r.1)))
                ]),
                (λ i m z. elim (cases_eq t i) [
                  | inl s ↦ insert_has front.1 t i (inl (sym s))
                  | inr n ↦ insert_has front.1 t i (inr (old.in_ready i m (omega (arith, z, (ap one (ne_eqb t i n))))))
                ]),
                ascending_insert front.1 t old.ascending,
              )
          | inr d ↦
              subst (λ b. Ready (cond b (insert_key nat_cmp front.1 t) front.1)) (sym (ne_eqb (at_node front.0 t) 1 d)) (
                (λ i m. let r = old.ready_in i m in (r.0, (omega (arith, r.1)))),
                (grind (arith, cases_eq, led, times, at_node, before, one, ne_eqb)),
                old.ascending,
              )
        ]

    released_counted : Counted left targets (released front t)
    released_counted = grind (arith, length-set, cases_eq, get_or-set_same, led, times, before, get_or-set_other, one, ne_eqb, new_ready)

  all_released : (left targets : List ℕ) (front : Front) → ((t : ℕ) → Contains targets t → Contains left t × (t < count))
      → Counted left targets front → Counted left [] (fold released front targets)
  all_released left [] front into c = c
  all_released left (t ∷ targets) front into c =
      let here = into t (Contains-here t targets) in
      all_released left targets (released front t) (λ s m. into s (Contains-later t targets s m))
      (released_counted left targets front t here.0 here.1 c)

  -- nodes that are left: theirs are theirs
  record Left (left : List ℕ) : Type 0 where
    pub within : (i : ℕ) → Contains left i → i < count
    pub closed : (i j : ℕ) → Contains left i → Contains (group links i) j → Contains left j

  from_times : (i : ℕ) (ts : List ℕ) → Contains ts i → 0 < times i ts
  from_times i [] m = absurd (Contains-nil i m)
  from_times i (t ∷ ts) m =
      elim (Contains-cases t ts i m) [
        | inl e ↦ let here : one (t == i) ≡ 1 = ap one (eq-eqb t i (sym e)) in omega (arith, here)
        | inr k ↦ let l = from_times i ts k in omega arith
      ]

  -- the node that is taken: the others, and its targets still counted
  module _ (left : List ℕ) (of : Left left) (counts : List ℕ) (x : ℕ) (rest : List ℕ) (c : Counted left [] (counts, x ∷ rest)) where
    x_is : Contains left x × (led links left x + times x [] ≡ 0)
    x_is = c.ready_in x (Contains-here x rest)

    x_left : Contains left x
    x_left = x_is.0

    split : (i : ℕ) → led links left i ≡ led links (without_node x left) i + times i (group links x)
    split i = led_without links left x i x_left

    its_targets : (t : ℕ) → Contains (group links x) t → Contains (without_node x left) t × (t < count)
    its_targets t m =
        let l = of.closed x t x_left m in
        (in_without (λ i. i) x left t l (λ e. (let l = from_times x (group links x) (subst (Contains (group links x)) e m) in let s = split x in let z = x_is.1 in omega arith)), of.within t l)

    others_left : Left (without_node x left)
    others_left = record {
      within = λ i m. of.within i (without_is (λ i. i) x left i m).0;
      closed = λ i j m k.
          let w = without_is (λ i. i) x left i m in
          let l = of.closed i j w.0 k in
          in_without (λ i. i) x left j l
          (λ e.
          -- a link would lead to the one that is ready
          let led_in = led_without links left i x w.0 in
          let t = from_times x (group links i) (subst (Contains (group links i)) e k) in
          let z = x_is.1 in
          omega arith);
    }

    taken_out : Counted (without_node x left) (group links x) (counts, rest)
    taken_out = record {
      long = c.long;
      counts = λ i l. let e = c.counts i l in let s = split i in omega arith;
      ready_in = λ i m.
          let r = c.ready_in i (Contains-later x rest i m) in
          let above = c.ascending.0 i m in
          let s = split i in
          let z = r.1 in
          (in_without (λ i. i) x left i r.0 (λ e. absurd (omega (arith, e, above))), omega arith);
      in_ready = λ i m z.
          let w = without_is (λ i. i) x left i m in
          let s = split i in
          elim (Contains-cases x rest i (c.in_ready i w.0 (omega arith))) [ inl e ↦ absurd (w.1 e) | inr k ↦ k ];
      ascending = c.ascending.1;
    }

    then_counted : Counted (without_node x left) [] (fold released (counts, rest) (group links x))
    then_counted = all_released (without_node x left) (group links x) (counts, rest) its_targets taken_out

    -- it is the next
    it_is_next : earliest (λ i. i) (filter (is_ready (has_link links) left) left) ≡ Some x
    it_is_next =
        is_next (λ i. i) (has_link links) left (λ y z m n e. e) x (record {
          member = x_left;
          ready = λ y m. none_led links left x (let z = x_is.1 in omega arith) y m;
          least = λ y m h.
              let z : led links left y ≡ 0 = led_none links left y h in
              elim (Contains-cases x rest y (c.in_ready y m (omega (arith, z)))) [
                | inl e ↦ omega (arith, e)
                | inr k ↦ let l = c.ascending.0 y k in omega arith
              ];
        })

  -- where none is ready there is no next
  no_next : (left counts : List ℕ) → Counted left [] (counts, [])
      → earliest (λ i. i) (filter (is_ready (has_link links) left) left) ≡ None
  no_next left counts c =
      elim (earliest (λ i. i) (filter (is_ready (has_link links) left) left))
      as (λ o. earliest (λ i. i) (filter (is_ready (has_link links) left) left) ≡ o → o ≡ None) [
        | None ↦ λ e. refl
        | Some y ↦ λ e.
            let next = next_is (λ i. i) (has_link links) left y e in
            let z : led links left y ≡ 0 = led_none links left y next.ready in
            absurd (Contains-nil y (c.in_ready y next.member (omega (arith, z))))
      ] refl

  taking_is : (n : ℕ) (left counts ready : List ℕ) → Left left → Counted left [] (counts, ready)
      → taking (groups links count) n counts ready ≡ taken (has_link links) (λ i. i) n left
  taking_is zero left counts ready of c = refl
  taking_is (suc n) left counts [] of c = grind (arith, no_next)
  taking_is (suc n) left counts (x ∷ rest) of c =
      let front : Front = fold released (counts, rest) (group links x) in
      let after_x : slice_index_or (groups links count) x [] ≡ group links x = group_at links count x [] (of.within x (x_left left of counts x rest c)) in
      ap (λ ts. x ∷ taking (groups links count) n (fold released (counts, rest) ts).0 (fold released (counts, rest) ts).1) after_x
      ∙ ap (λ l. x ∷ l) (taking_is n (without_node x left) front.0 front.1 (others_left left of counts x rest c) (then_counted left of counts x rest c))
      ∙ sym (ap (λ o. elim o as (λ p. List ℕ) [ None ↦ [] | Some y ↦ y ∷ taken (has_link links) (λ i. i) n (without_node y left) ]) (it_is_next left of counts x rest c))

-- from all nodes on
module _ (links : Links) (count : ℕ) (ends : All (λ l. (l.0 < count) × (l.1 < count)) links) where
  all_left : Left links count (nodes count)
  all_left = record {
    within = λ i m. let r = from_range 0 count i m in let l = r.1 in omega arith;
    closed = λ i j m k.
        let from = Contains-from_map (λ (p : ℕ × ℕ). p.1) (filter (λ p. p.0 == i) links) j k in
        let link = (Contains-from_filter (λ p. p.0 == i) links from.0 from.1).0 in
        let end = All-contains (λ l. (l.0 < count) × (l.1 < count)) links from.0 ends link in
        let to : j < count = subst (λ z. z < count) (sym from.2) end.1 in
        Contains-range 0 count j (omega arith) (omega arith);
  }

  pub counts_are_right : (i : ℕ) → i < count → at_node (link_counts links count) i ≡ led links (nodes count) i
  counts_are_right i l =
      let all = counts_are links (nodes count) (replicate count 0) i (grind (arith, Contains-range, length-replicate)) in
      let none : at_node (replicate count 0) i ≡ 0 = get_or-replicate count i 0 0 l in
      omega (arith, all, none)

  pub counts_long : length (link_counts links count) ≡ count
  counts_long = long_after links (replicate count 0) ∙ length-replicate count 0
    where
      long_after : (some : Links) (counts : List ℕ) → length (fold counted counts some) ≡ length counts
      long_after [] counts = refl
      long_after (l ∷ some) counts = long_after some (counted counts l) ∙ length-set counts l.1 (at_node counts l.1 + 1)

  at_first : Counted links count (nodes count) [] (link_counts links count, first_ready (link_counts links count) count)
  at_first =
      let counts = link_counts links count in
      let passes : ℕ → Bool = λ i. at_node counts i == 0 in
      record {
        long = counts_long;
        counts = λ i l. let e = counts_are_right i l in omega (arith, e);
        ready_in = λ i m.
            let r = Contains-from_filter passes (nodes count) i m in
            let within = all_left.within i r.0 in
            let e = counts_are_right i within in
            let z = eqb-true (at_node counts i) 0 r.1 in
            (r.0, omega (arith, e, z));
        in_ready = λ i m z.
            let within = all_left.within i m in
            let e = counts_are_right i within in
            Contains-filter passes (nodes count) i (eq-eqb (at_node counts i) 0 (omega (arith, e, z))) m;
        ascending = ascending_passing passes count;
      }

  pub order_is : taking (groups links count) count (link_counts links count) (first_ready (link_counts links count) count) ≡ order_of links count
  order_is = taking_is links count count (nodes count) (link_counts links count) (first_ready (link_counts links count) count) all_left at_first

  -- what the code asks for
  pub first_within : All (λ i. i < count) (first_ready (link_counts links count) count)
  first_within =
      All-members (λ (i : ℕ). i < count) (first_ready (link_counts links count) count)
      (λ i m. all_left.within i (Contains-from_filter (λ j. at_node (link_counts links count) j == 0) (nodes count) i m).0)

  pub targets_within : All (All (λ i. i < count)) (groups links count)
  targets_within =
      All-map (All (λ i. i < count)) (group links) (nodes count)
      (All-members (λ i. All (λ (j : ℕ). j < count) (group links i)) (nodes count)
      (λ i m. All-members (λ (j : ℕ). j < count) (group links i) (λ j k. all_left.within j (all_left.closed i j m k))))

  pub ready_made : (counts ready : List ℕ) → counts ≡ link_counts links count → ready ≡ first_ready counts (length counts)
      → ready ≡ first_ready (link_counts links count) count
  ready_made counts ready f g = grind (arith, counts_long)

  -- and what it makes of them
  pub order_made : (after : Groups) (counts ready all : List ℕ) → after ≡ groups links count → counts ≡ link_counts links count
      → ready ≡ first_ready counts (length counts) → all ≡ taking after (length after) counts ready → all ≡ order_of links count
  order_made after counts ready all e f g h =
      let many : length after ≡ count = ap length e ∙ groups_long links count in
      let first = ready_made counts ready f g in
      grind (arith, order_is)
