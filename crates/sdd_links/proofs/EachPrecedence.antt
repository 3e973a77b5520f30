-- Each precedence follows from the links.
use Rattle.sdd_links.proofs.All.{AreMarks, Bool, Catalogue, Committed, Contains, Contains-append_left, Contains-append_right, Contains-get_or, History, IsCommitted, IsFragment, IsOrderable, Links, List, Marks, Precedes, Some, [], and_parts, ap, arith, by_class, by_fragment, cases_Bool, cases_lt, chains, changes, cond, enumerate_from, eq-eqb, eqb-true, false, flat_map, fragment_links, fragments_in, get_or, get_or as slice_index_or, groups, has_seen, inl, inr, is_earlier, is_overwritten, is_read_by, length, links, links_at, list_any, misses, module_of, nat_lt, not, not-true, precedes, read_links, refl, same_Some, slice_get, slice_get-get_or, subst, suc, sym, true, was_seen, zero, ℕ, ◌&&◌, ◌++◌, ◌+◌, ◌-◌, ◌<◌, ◌==◌, ◌||◌, ◌∙◌, ◌∷◌, ◌≡◌, ◌≤◌, ◌⊎◌}
use Rattle.sdd_links.proofs.Chained.{Rises, Linked, linked_by, in_group, group_rises, chains_link}
use Rattle.sdd_links.proofs.Members.{Contains-flat_map, passes_member, member_passes}
use Rattle.sdd_links.proofs.Paths.{path_join}
use Rattle.sdd_links.proofs.Before.{or_cases}
use Rattle.sdd_links.proofs.EachLink.{class_exists, read_exists, change_exists, writers_of, writers_are, Writer, writer_at, seen_by}
use Rattle.sdd_links.proofs.Halves.{end_of_is}
use Rattle.sdd_links.proofs.Implied.{overwrites, reads_from, misses_it, by_writing, by_missing, by_reading, AreInOrder, other_time, other_changes, seen_is}
use Rattle.sdd_links.proofs.Nodes.{is_enumerated, in_class, in_fragment, classes_rise, fragments_rise}

-- a later place has no smaller number
rises_at : (xs : List ℕ) → Rises xs → (a b : ℕ) → a ≤ b → b < length xs → get_or xs a 0 ≤ get_or xs b 0
rises_at (x ∷ xs) r zero zero l m = omega arith
rises_at (x ∷ xs) r zero (suc b) l m = r.0 (get_or xs b 0) (Contains-get_or xs b 0 (omega arith))
rises_at (x ∷ xs) r (suc a) (suc b) l m = rises_at xs r.1 a b (omega arith) (omega arith)
rises_at _ r _ _ l m = absurd (omega arith)

-- a member's place
place_in : (xs : List ℕ) (i : ℕ) → Contains xs i → (q : ℕ) × (q < length xs) × (get_or xs q 0 ≡ i)
place_in xs i c =
    (c.0, c.1, same_Some (get_or xs c.0 0) (get_or xs c.0 i) (sym (slice_get-get_or xs c.0 0 c.1) ∙ slice_get-get_or xs c.0 i c.1) ∙ c.2)

pub compare : (a b : ℕ) → (a < b) ⊎ ((a ≡ b) ⊎ (b < a))
compare a b = grind arith

-- the links at the end of what a reader has seen

link_after : (writers : List ℕ) (reader k : ℕ) → k < length writers → Contains (links_at writers reader k) (reader, slice_index_or writers k 0)
link_after writers reader k l = grind arith

module _ (cat : Catalogue) (h : History) (o : IsOrderable cat h) (marks : Marks) (are : AreMarks h marks) (txns : List Committed)
    (ordered : AreInOrder h txns) where
  abbrev all_links : Links
  all_links = links cat marks txns

  -- a transaction at its place
  record Node (i : ℕ) : Type 0 where
    pub txn : Committed
    pub is : slice_get txns i ≡ Some txn

  node_committed : (i : ℕ) (x : Node i) → IsCommitted h x.txn
  node_committed i x = ordered.committed i x.txn x.is

  precede : (i j : ℕ) (x : Node i) (y : Node j) → precedes cat h x.txn y.txn ≡ true → Precedes cat h x.txn y.txn
  precede i j x y e = record { first = node_committed i x; second = node_committed j y; precedes = e }

  same_node : (i : ℕ) (x y : Node i) → x.txn ≡ y.txn
  same_node i x y = same_Some x.txn y.txn (sym x.is ∙ y.is)

  -- by class

  class_path : (i j : ℕ) (x : Node i) (y : Node j) → x.txn.start.class ≡ y.txn.start.class → i < j → Linked all_links i j
  class_path i j x y e l =
      let of_class = chains (groups (by_class txns) (length cat.classes + 1)) in
      let of_frags = chains (groups (by_fragment txns) (length cat.fragments + 1)) in
      let reads = read_links cat marks txns (groups (by_fragment txns) (length cat.fragments + 1)) in
      let below = class_exists cat h o.numbers_exist x.txn (node_committed i x) in
      linked_by of_class all_links (λ z c. Contains-append_left (of_class ++ of_frags) reads z (Contains-append_left of_class of_frags z c)) i j
      (chains_link (by_class txns) (length cat.classes + 1) (classes_rise txns) x.txn.start.class i j (omega arith)
      (in_class txns i x.txn x.is) (subst (λ (k : ℕ). Contains (by_class txns) (k, j)) (sym e) (in_class txns j y.txn y.is)) l)

  -- by writing

  write_path : (i j f : ℕ) (x : Node i) (y : Node j) → changes x.txn f ≡ true → changes y.txn f ≡ true → i < j → Linked all_links i j
  write_path i j f x y a b l =
      let of_class = chains (groups (by_class txns) (length cat.classes + 1)) in
      let of_frags = chains (groups (by_fragment txns) (length cat.fragments + 1)) in
      let reads = read_links cat marks txns (groups (by_fragment txns) (length cat.fragments + 1)) in
      let below = (change_exists cat h o.numbers_exist x.txn (node_committed i x) f a).1 in
      linked_by of_frags all_links (λ z c. Contains-append_left (of_class ++ of_frags) reads z (Contains-append_right of_class of_frags z c)) i j
      (chains_link (by_fragment txns) (length cat.fragments + 1) (fragments_rise txns) f i j (omega arith)
      (in_fragment txns f i x.txn x.is a) (in_fragment txns f j y.txn y.is b) l)

  write_over : (i j f : ℕ) (x : Node i) (y : Node j) → changes x.txn f ≡ true → changes y.txn f ≡ true → i < j → precedes cat h x.txn y.txn ≡ true
  write_over i j f x y a b l =
      let rise = ordered.rise i j x.txn y.txn x.is y.is l in
      by_writing cat h x.txn y.txn (other_time cat h o marks are txns ordered x.txn y.txn rise (node_committed i x) (node_committed j y))
      (overwrites x.txn y.txn f a b rise)

  -- both change what one of them reads
  both_change : (i j f : ℕ) (x : Node i) (y : Node j) → changes x.txn f ≡ true → changes y.txn f ≡ true
      → precedes cat h x.txn y.txn ≡ true → (x.txn ≡ y.txn → ⊥) → Linked all_links i j
  both_change i j f x y a b e d =
      elim (compare i j) [
        | inl l ↦ write_path i j f x y a b l
        | inr (inl same) ↦ absurd (d (same_node j (record { txn = x.txn; is = subst (λ k. slice_get txns k ≡ Some x.txn) same x.is }) y))
        | inr (inr l) ↦
            let back = precede j i y x (write_over j i f y x b a l) in
            absurd (o.orderly x.txn (y.txn ∷ []) (precede i j x y e, back))
      ]

  abbrev writer_node : (f i : ℕ) → Writer cat h o marks are txns ordered f i → Node i
  writer_node f i w = record { txn = w.txn; is = w.is }

  -- A reader of a fragment that it doesn't change, and a writer.
  module _ (i : ℕ) (x : Node i) (f : ℕ) (read : Contains (fragments_in x.txn.start.uses) f) (unchanged : changes x.txn f ≡ false)
      (j : ℕ) (y : Node j) (changed : changes y.txn f ≡ true) where
    abbrev writers : List ℕ
    writers = writers_of cat h o marks are txns ordered f

    abbrev seen : ℕ
    seen = seen_by cat h o marks are txns ordered x.txn f

    abbrev saw : Committed → Bool
    saw w = was_seen h w (module_of cat x.txn.start.class f) x.txn

    exists : IsFragment cat f
    exists = read_exists cat h o.numbers_exist x.txn (node_committed i x) f read

    rise : Rises writers
    rise = subst Rises (sym (writers_are cat h o marks are txns ordered f exists)) (group_rises (by_fragment txns) f (fragments_rise txns))

    place : (q : ℕ) × (q < length writers) × (get_or writers q 0 ≡ j)
    place =
        place_in writers j
        (subst (λ l. Contains l j) (sym (writers_are cat h o marks are txns ordered f exists))
        (in_group (by_fragment txns) f j (in_fragment txns f j y.txn y.is changed)))

    in_links : (l : ℕ × ℕ) → Contains (links_at writers i seen) l → Contains all_links l
    in_links l c =
        let of_class = chains (groups (by_class txns) (length cat.classes + 1)) in
        let all_writers = groups (by_fragment txns) (length cat.fragments + 1) in
        let of_frag : List (ℕ × ℕ) = fragment_links cat marks txns all_writers (i, x.txn) f in
        let of_reader : List (ℕ × ℕ) = flat_map (fragment_links cat marks txns all_writers (i, x.txn)) (fragments_in x.txn.start.uses) in
        let there : Contains of_frag l = subst (λ b. Contains (cond b [] (links_at writers i seen)) l) (sym unchanged) c in
        Contains-append_right (of_class ++ chains all_writers) (read_links cat marks txns all_writers) l
        (Contains-flat_map (λ (p : ℕ × Committed). flat_map (fragment_links cat marks txns all_writers p) (fragments_in p.1.start.uses))
        (enumerate_from 0 txns) (i, x.txn) l (is_enumerated txns i x.txn x.is)
        (Contains-flat_map (fragment_links cat marks txns all_writers (i, x.txn)) (fragments_in x.txn.start.uses) f l read there))

    -- what was seen precedes the reader, and the reader precedes what wasn't
    read_before : (k : ℕ) (w : Node k) → changes w.txn f ≡ true → saw w.txn ≡ true → Precedes cat h w.txn x.txn
    read_before k w c s =
        precede k i w x (by_reading cat h w.txn x.txn
        (other_changes cat h o marks are txns ordered w.txn x.txn f c unchanged (node_committed k w) (node_committed i x))
        (reads_from cat h w.txn x.txn f read c s))

    missed_after : (k : ℕ) (w : Node k) → changes w.txn f ≡ true → saw w.txn ≡ false → Precedes cat h x.txn w.txn
    missed_after k w c s =
        precede i k x w (by_missing cat h x.txn w.txn
        (λ e. other_changes cat h o marks are txns ordered w.txn x.txn f c unchanged (node_committed k w) (node_committed i x) (sym e))
        (misses_it cat h x.txn w.txn f read c s))

    -- so what was seen stands before what wasn't
    seen_before : (k m : ℕ) (v : Node k) (w : Node m) → changes v.txn f ≡ true → changes w.txn f ≡ true → saw v.txn ≡ true → saw w.txn ≡ false
        → k < m
    seen_before k m v w a b s u =
        elim (compare k m) [
          | inl l ↦ l
          | inr (inl e) ↦
              let at_m : Node m = record { txn = v.txn; is = subst (λ z. slice_get txns z ≡ Some v.txn) e v.is } in
              let wrong : true ≡ false = sym s ∙ ap saw (same_node m at_m w) ∙ u in
              absurd (cc)
          | inr (inr l) ↦
              let over = precede m k w v (write_over m k f w v b a l) in
              absurd (o.orderly x.txn (w.txn ∷ v.txn ∷ []) (missed_after m w b u, (over, read_before k v a s)))
        ]

    abbrev last_seen : 0 < seen → Writer cat h o marks are txns ordered f (slice_index_or writers (seen - 1) 0)
    last_seen l =
        let most = (end_of_is (has_seen marks txns (module_of cat x.txn.start.class f) x.txn writers) (length writers)).below in
        writer_at cat h o marks are txns ordered f (seen - 1) exists (omega arith)

    last_is_seen : (l : 0 < seen) → saw (last_seen l).txn ≡ true
    last_is_seen l =
        sym (seen_is cat h o marks are txns ordered (module_of cat x.txn.start.class f) x.txn writers (seen - 1) (last_seen l).txn (last_seen l).is)
        ∙ (end_of_is (has_seen marks txns (module_of cat x.txn.start.class f) x.txn writers) (length writers)).held l

    abbrev first_unseen : (l : seen < length writers) → Writer cat h o marks are txns ordered f (slice_index_or writers seen 0)
    first_unseen l = writer_at cat h o marks are txns ordered f seen exists l

    first_is_unseen : (l : seen < length writers) → saw (first_unseen l).txn ≡ false
    first_is_unseen l =
        sym (seen_is cat h o marks are txns ordered (module_of cat x.txn.start.class f) x.txn writers seen (first_unseen l).txn (first_unseen l).is)
        ∙ (end_of_is (has_seen marks txns (module_of cat x.txn.start.class f) x.txn writers) (length writers)).fails l

    -- a writer that wasn't seen: by the first one
    missed_path : saw y.txn ≡ false → Linked all_links i j
    missed_path u =
        let q = place.0 in
        let q_in = place.1 in
        elim (cases_lt q seen) [
          | inl l ↦
              -- it would stand among those that were seen
              let positive : 0 < seen = omega arith in
              let w = last_seen positive in
              let node = writer_node f (slice_index_or writers (seen - 1) 0) w in
              let before = seen_before (slice_index_or writers (seen - 1) 0) j node y w.changes changed (last_is_seen positive) u in
              let most = (end_of_is (has_seen marks txns (module_of cat x.txn.start.class f) x.txn writers) (length writers)).below in
              let order = rises_at writers rise q (seen - 1) (omega arith) (omega arith) in
              absurd (omega (arith, place.2))
          | inr g ↦
              let some : seen < length writers = omega arith in
              let w = first_unseen some in
              let link = in_links (i, slice_index_or writers seen 0) (link_after writers i seen some) in
              let order = rises_at writers rise seen q g q_in in
              let at = place.2 in
              elim (compare (slice_index_or writers seen 0) j) [
                | inl l ↦
                    let rest = write_path (slice_index_or writers seen 0) j f (writer_node f (slice_index_or writers seen 0) w) y w.changes changed l in
                    (slice_index_or writers seen 0 ∷ rest.0, (link, rest.1))
                | inr (inl e) ↦ ([], subst (λ (z : ℕ). Contains all_links (i, z)) e link)
                | inr (inr l) ↦ absurd (omega arith)
              ]
        ]

    -- one that was seen: by the last one
    seen_path : saw y.txn ≡ true → Linked all_links j i
    seen_path s =
        let q = place.0 in
        let q_in = place.1 in
        let at = place.2 in
        elim (cases_lt q seen) [
          | inl l ↦
              let positive : 0 < seen = omega arith in
              let w = last_seen positive in
              let link = in_links (slice_index_or writers (seen - 1) 0, i) (grind arith) in
              let most = (end_of_is (has_seen marks txns (module_of cat x.txn.start.class f) x.txn writers) (length writers)).below in
              let order = rises_at writers rise q (seen - 1) (omega arith) (omega arith) in
              elim (compare j (slice_index_or writers (seen - 1) 0)) [
                | inl m ↦
                    let node = writer_node f (slice_index_or writers (seen - 1) 0) w in
                    let first = write_path j (slice_index_or writers (seen - 1) 0) f y node changed w.changes m in (
                      first.0 ++ slice_index_or writers (seen - 1) 0 ∷ [],
                      path_join (λ a b. Contains all_links (a, b)) j first.0 (slice_index_or writers (seen - 1) 0) [] i first.1 link,
                    )
                | inr (inl e) ↦ ([], subst (λ (z : ℕ). Contains all_links (z, i)) (sym e) link)
                | inr (inr m) ↦ absurd (omega arith)
              ]
          | inr g ↦
              let some : seen < length writers = omega arith in
              let w = first_unseen some in
              let node = writer_node f (slice_index_or writers seen 0) w in
              let before = seen_before j (slice_index_or writers seen 0) y node changed w.changes s (first_is_unseen some) in
              let order = rises_at writers rise seen q g q_in in
              absurd (omega arith)
        ]

  -- the four kinds
  miss_path : (i j : ℕ) (x : Node i) (y : Node j) → precedes cat h x.txn y.txn ≡ true → (x.txn ≡ y.txn → ⊥) → misses cat h x.txn y.txn ≡ true
      → Linked all_links i j
  miss_path i j x y e d m =
      let r = member_passes (λ g. changes y.txn g && not (was_seen h y.txn (module_of cat x.txn.start.class g) x.txn)) (fragments_in x.txn.start.uses) m in
      let f = r.0 in
      let both = and_parts (changes y.txn f) (not (was_seen h y.txn (module_of cat x.txn.start.class f) x.txn)) r.2 in
      elim (cases_Bool (changes x.txn f)) [
        | inl t ↦ both_change i j f x y t both.0 e d
        | inr u ↦ missed_path i x f r.1 u j y both.0 (not-true (was_seen h y.txn (module_of cat x.txn.start.class f) x.txn) both.1)
      ]

  read_path : (i j : ℕ) (x : Node i) (y : Node j) → precedes cat h x.txn y.txn ≡ true → (x.txn ≡ y.txn → ⊥) → is_read_by cat h x.txn y.txn ≡ true
      → Linked all_links i j
  read_path i j x y e d m =
      let r = member_passes (λ g. changes x.txn g && was_seen h x.txn (module_of cat y.txn.start.class g) y.txn) (fragments_in y.txn.start.uses) m in
      let f = r.0 in
      let both = and_parts (changes x.txn f) (was_seen h x.txn (module_of cat y.txn.start.class f) y.txn) r.2 in
      elim (cases_Bool (changes y.txn f)) [
        | inl t ↦ both_change i j f x y both.0 t e d
        | inr u ↦ seen_path j y f r.1 u i x both.0 both.1
      ]

  pub precedence_linked : (i j : ℕ) (x y : Committed) → slice_get txns i ≡ Some x → slice_get txns j ≡ Some y → precedes cat h x y ≡ true
      → Linked all_links i j
  precedence_linked i j x y p q e =
      let a : Node i = record { txn = x; is = p } in
      let b : Node j = record { txn = y; is = q } in
      let parts = and_parts (not (x.start.txn == y.start.txn)) ((is_earlier x y || is_overwritten x y) || (misses cat h x y || is_read_by cat h x y)) e in
      let differ : x ≡ y → ⊥ =
      λ s. let wrong : not true ≡ true = ap not (sym (eq-eqb x.start.txn y.start.txn (ap (λ t. t.start.txn) s))) ∙ parts.0 in absurd (cc) in
      elim (or_cases (is_earlier x y || is_overwritten x y) (misses cat h x y || is_read_by cat h x y) parts.1) [
        | inl left ↦ elim (or_cases (is_earlier x y) (is_overwritten x y) left) [
          | inl m ↦
              let both = and_parts (x.start.class == y.start.class) (nat_lt x.start.ts y.start.ts) m in
              class_path i j a b (eqb-true x.start.class y.start.class both.0) (grind (arith, compare, Node, slice_get, same_node))
          | inr m ↦
              let both = and_parts (list_any (λ c. changes y c.frag.0) x.changes) (nat_lt x.start.ts y.start.ts) m in
              let c = member_passes (λ d. changes y d.frag.0) x.changes both.0 in
              let changed : changes x c.0.frag.0 ≡ true =
              passes_member (λ d. d.frag.0 == c.0.frag.0) x.changes c.0 c.1 (eq-eqb c.0.frag.0 c.0.frag.0 refl) in
              write_path i j c.0.frag.0 a b changed c.2 (grind (arith, compare, Node, slice_get, same_node))
        ]
        | inr right ↦ elim (or_cases (misses cat h x y) (is_read_by cat h x y) right) [
          | inl m ↦ miss_path i j a b e differ m
          | inr m ↦ read_path i j a b e differ m
        ]
      ]
