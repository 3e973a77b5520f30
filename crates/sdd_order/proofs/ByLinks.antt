-- Along the links the serial order is found.
use Rattle.sdd_order.proofs.All.{All, AreMarks, Catalogue, Committed, Contains, Contains-here, Contains-later, History, IsClass, IsOrderable, IsPath, Links, List, Marks, Some, UseExists, [], ap, arith, committed, cons_option, eq-eqb, get_or, get_or-map-range_with_len, get_or_default, has_link, in_order, length, length-map-range_with_len, links, map, nodes, numbers_at, option_map, order_of, precedes, refl, rules, same_Some, same_lists, serial_order, slice_get, slice_get-get_or, slice_get_within, sym, taken, true, txn_no, ℕ, ◌<◌, ◌∙◌, ◌∷◌, ◌≡◌}
use Rattle.sdd_links.proofs.Alike.{taken_by_members, taken-map, taken_by_links}
use Rattle.sdd_links.proofs.Ascending.{from_range}
use Rattle.sdd_links.proofs.Members.{All-members, Contains-range, member_passes, passes_member, place_of}
use Rattle.sdd_links.proofs.Paths.{path_as}
use Rattle.sdd_links.proofs.Taken.{taken_is}
use Rattle.sdd_links.proofs.EachLink.{class_exists, uses_exist, link_precedes}
use Rattle.sdd_links.proofs.EachPrecedence.{precedence_linked}
use Rattle.sdd_links.proofs.Implied.{AreInOrder}
use Rattle.sdd_order.proofs.Serial.{differ}

is_link : (some : Links) (i j : ℕ) → Contains some (i, j) → has_link some i j ≡ true
is_link some i j c = search (rules, passes_member, eq-eqb)

module _ (cat : Catalogue) (h : History) (o : IsOrderable cat h) (marks : Marks) (are : AreMarks h marks) (txns : List Committed)
    (ordered : AreInOrder h txns) where
  -- what is asked for, for links to be found and gone along
  pub all_exist : All (λ t. IsClass cat t.start.class × All (UseExists cat) t.start.uses) txns
  all_exist =
      All-members (λ t. IsClass cat t.start.class × All (UseExists cat) t.start.uses) txns
      (λ t c.
      let is = place_of txns t c in
      let committed = ordered.committed is.0 t is.1 in
      (class_exists cat h o.numbers_exist t committed, uses_exist cat h o.numbers_exist t committed))

  pub ends_within : All (λ l. (l.0 < length txns) × (l.1 < length txns)) (links cat marks txns)
  ends_within =
      All-members (λ (l : ℕ × ℕ). (l.0 < length txns) × (l.1 < length txns)) (links cat marks txns)
      (λ l c.
      let p = link_precedes cat h o marks are txns ordered l c in
      (slice_get_within txns l.0 p.first p.first_is, slice_get_within txns l.1 p.second p.second_is))

  module _ (d : Committed) where
    abbrev at : ℕ → Committed
    at i = get_or txns i d

    at_is : (i : ℕ) → i < length txns → slice_get txns i ≡ Some (at i)
    at_is i l = slice_get-get_or txns i d l

    within : (i : ℕ) → Contains (nodes (length txns)) i → i < length txns
    within i c = let r = from_range 0 (length txns) i c in let l = r.1 in omega arith

    all_at : map at (nodes (length txns)) ≡ txns
    all_at =
        let long = length-map-range_with_len at 0 (length txns) in
        same_lists (map at (nodes (length txns))) txns long
        (grind (arith, get_or-map-range_with_len, get_or_default))

    link_before : (i j : ℕ) → has_link (links cat marks txns) i j ≡ true → precedes cat h (at i) (at j) ≡ true
    link_before i j e =
        let p = link_precedes cat h o marks are txns ordered (i, j) (grind (arith, member_passes)) in
        let first : p.first ≡ at i = same_Some p.first (at i) (sym p.first_is ∙ at_is i (slice_get_within txns i p.first p.first_is)) in
        let second : p.second ≡ at j = same_Some p.second (at j) (sym p.second_is ∙ at_is j (slice_get_within txns j p.second p.second_is)) in
        ap (λ t. precedes cat h t (at j)) (sym first) ∙ ap (precedes cat h p.first) (sym second) ∙ p.precedes

    link_to : (i j : ℕ) → has_link (links cat marks txns) i j ≡ true → Contains (nodes (length txns)) j
    link_to i j e =
        let p = link_precedes cat h o marks are txns ordered (i, j) (grind (arith, member_passes)) in
        let l = slice_get_within txns j p.second p.second_is in
        Contains-range 0 (length txns) j (omega arith) (omega arith)

    linked : (i j : ℕ) → Contains (nodes (length txns)) i → Contains (nodes (length txns)) j → precedes cat h (at i) (at j) ≡ true
        → (m : List ℕ) × IsPath (λ k l. has_link (links cat marks txns) k l ≡ true) i m j
    linked i j c e p =
        let path = precedence_linked cat h o marks are txns ordered i j (at i) (at j) (at_is i (within i c))
        (at_is j (within j e)) p in (grind (arith, path_as, links, has_link, is_link))

    rises : (i j : ℕ) → Contains (nodes (length txns)) i → Contains (nodes (length txns)) j → i < j → (at i).start.ts < (at j).start.ts
    rises i j c e l = ordered.rise i j (at i) (at j) (at_is i (within i c)) (at_is j (within j e)) l

    -- the same nodes are taken
    nodes_taken : order_of (links cat marks txns) (length txns)
        ≡ taken (λ i j. precedes cat h (at i) (at j)) (λ i. (at i).start.ts) (length txns) (nodes (length txns))
    nodes_taken =
        taken_by_links (nodes (length txns)) (has_link (links cat marks txns)) (λ i j. precedes cat h (at i) (at j)) (λ i. (at i).start.ts)
        link_before link_to linked rises (length txns) (nodes (length txns)) (λ i c. c) (λ i j c e. link_to i j e)

    numbers_are : (places : List ℕ) → ((i : ℕ) → Contains places i → i < length txns)
        → numbers_at txns places ≡ map (λ t. txn_no t.start.txn) (map at places)
    numbers_are [] h = refl
    numbers_are (i ∷ places) h =
        ap (λ z. cons_option (option_map (λ (t : Committed). txn_no t.start.txn) z) (numbers_at txns places)) (at_is i (h i (Contains-here i places)))
        ∙ ap (λ l. txn_no (at i).start.txn ∷ l) (numbers_are places (λ j c. h j (Contains-later i places j c)))

    in_txns : numbers_at txns (order_of (links cat marks txns) (length txns))
        ≡ map (λ t. txn_no t.start.txn) (taken (precedes cat h) (λ t. t.start.ts) (length txns) txns)
    in_txns =
        numbers_are (order_of (links cat marks txns) (length txns))
        (λ i c. within i (taken_is (λ k. k) (has_link (links cat marks txns)) (length txns) (nodes (length txns)) i c))
        ∙ ap (map (λ (t : Committed). txn_no t.start.txn))
        (grind (arith, nodes_taken, taken-map, precedes, nodes, taken, all_at))

  module _ (long : length txns ≡ length (committed h)) (forth : (t : Committed) → Contains (committed h) t → Contains txns t)
      (back : (t : Committed) → Contains txns t → Contains (committed h) t) where
    in_committed : taken (precedes cat h) (λ t. t.start.ts) (length txns) txns ≡ in_order cat h
    in_committed =
        ap (λ n. taken (precedes cat h) (λ t. t.start.ts) n txns) long
        ∙ sym (taken_by_members (precedes cat h) (λ t. t.start.ts) (length (committed h)) (committed h) txns (differ cat h o) forth back)

    pub order_found : numbers_at txns (order_of (links cat marks txns) (length txns)) ≡ serial_order cat h
    order_found = grind (arith, in_txns, in_committed)
