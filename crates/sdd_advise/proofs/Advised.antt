-- The advices that two searches give.
use Rattle.sdd_advise.proofs.All.{Advice, All, All-contains, AllZip, AreAdvices, AreReached, Catalogue, ClassNo, Contains, Differ, Edge, EndsWith, GoesAlong, Has, IsAway, IsClosed, IsCycleFrom, IsOther, IsReadOf, IsWalk, IsWay, Joins, LieApart, List, NamesClasses, None, Option, P1, P2, P3, ShowsFor, ShowsP1, ShowsP2, ShowsP3, Some, Step, Vertical, [], advice_of, ap, arith, conflict_graph, cycle_at, edges_differ, edges_of, ends, false≢true, filter, filter_more, get_or, get_push_last, inl, inr, is_diagonal, is_some, length, length_push, map, nat_tests, nodes_of, place_of, placed_nodes, refl, same_Some, slice_get, subst, sym, take, take_all, true, ℕ, ◌++◌, ◌+◌, ◌-◌, ◌<◌, ◌∙◌, ◌∷◌, ◌≡◌, ◌≢◌, ◌≤◌}
use Rattle.sdd_advise.proofs.Ascending.{contained_passes}
use Rattle.sdd_advise.proofs.Edges.{joins_at, joins_from}
use Rattle.sdd_advise.proofs.Members.{place_in}
use Rattle.sdd_advise.proofs.Showing.{shown_of}

none_has : {o : Option ℕ} → o ≡ None → is_some o ≡ true → ⊥
none_has {o} e t = false≢true (ap is_some (sym e) ∙ t)

-- what has no place isn't among those that have
pub apart_from : (places : List (Option ℕ)) (node : ℕ) → place_of places node ≡ None
    → ¬ Contains (placed_nodes places) node
apart_from places node none m =
    none_has none (contained_passes (λ a. is_some (place_of places a)) (length places) node m)

-- steps along edges that pass
along_goes : (edges : List Edge) (Goes : Edge → Type 0) (steps : List Step) (way : List Edge)
    → AllZip (λ step edge. GoesAlong edges step edge × Goes edge) steps way → AllZip (GoesAlong edges) steps way
along_goes edges Goes (s ∷ steps) (x ∷ way) z = (z.0.0, along_goes edges Goes steps way z.1)
along_goes edges _ _ _ z = grind (arith, nat_tests)

along_push : (edges : List Edge) (steps : List Step) (way : List Edge) (s : Step) (x : Edge)
    → AllZip (GoesAlong edges) steps way → GoesAlong edges s x
    → AllZip (GoesAlong edges) (steps ++ s ∷ []) (way ++ x ∷ [])
along_push edges (t ∷ steps) (y ∷ way) s x z g = (z.0, along_push edges steps way s x z.1 g)
along_push edges _ _ s x z g = grind (arith, nat_tests)

-- don't go along the edge that is left out
edge_avoided : (edges : List Edge) (e : Edge) (k : ℕ) (steps : List Step) (way : List Edge) → slice_get edges k ≡ Some e
    → AllZip (λ step edge. GoesAlong edges step edge × IsOther e edge) steps way → ¬ Has (edges_of steps) k
edge_avoided edges e k (s ∷ steps) (x ∷ way) at z (inl p) = grind (arith, same_Some, slice_get)
edge_avoided edges e k (s ∷ steps) (x ∷ way) at z (inr h) = edge_avoided edges e k steps way at z.1 h
edge_avoided edges e k _ _ at z h = omega arith

end_away : (e : Edge) (a b node : ℕ) → Joins e a b → IsAway node e → b ≢ node
end_away e a b node h away q = grind (arith, nat_tests)

-- nor meet the node that is left out
node_avoided : (edges : List Edge) (node from : ℕ) (steps : List Step) (to : ℕ) (way : List Edge)
    → IsWalk (map ends edges) from steps to
    → AllZip (λ step edge. GoesAlong edges step edge × IsAway node edge) steps way → ¬ Has (nodes_of steps) node
node_avoided edges node from (s ∷ steps) to (x ∷ way) w z (inl p) =
    let j = joins_from edges s.edge from s.to w.0 in
    end_away x from s.to node (subst (λ y. Joins y from s.to) (same_Some j.0 x (sym j.1 ∙ z.0.0)) j.2) z.0.1 p
node_avoided edges node from (s ∷ steps) to (x ∷ way) w z (inr h) = node_avoided edges node s.to steps to way w.1 z.1 h
node_avoided edges node from _ to _ w z h = omega arith

module _ (edges : List Edge) (edge : Edge) (there : Contains edges edge) (apart : (ends edge).1 ≢ (ends edge).0) where
  place : (k : ℕ) × (slice_get edges k ≡ Some edge)
  place = place_in edges edge there

  -- P1: the reader's read node wasn't reached
  pub shown_off_cycles : (places : List (Option ℕ)) → AreReached edges (IsOther edge) (ends edge).1 (placed_nodes places)
      → place_of places (ends edge).0 ≡ None
      → ShowsP1 edges edge (ends edge).0 (ends edge).1 (advice_of edge P1 [] (placed_nodes places))
  shown_off_cycles places r none = record { no_cycle = refl; reached = r; reader_apart = apart_from places (ends edge).0 none }

  -- a way back without the edge closes a cycle
  closed_by : (steps : List Step) (way : List Edge)
      → AllZip (λ step x. GoesAlong edges step x × IsOther edge x) steps way
      → IsWalk (map ends edges) (ends edge).1 steps (ends edge).0 → Differ ((ends edge).1 ∷ nodes_of steps)
      → IsCycleFrom edges (ends edge).0 (edge ∷ way)
  closed_by [] way z w d = absurd (apart w)
  closed_by (s ∷ steps) way z w d =
      let all : List Step = s ∷ steps in
      record {
        steps = (record { edge = place.0; to = (ends edge).1 }) ∷ all;
        along = (place.1, along_goes edges (IsOther edge) all way z);
        simple = record {
          closed = (joins_at edges place.0 edge (ends edge).0 (ends edge).1 place.1 (inl refl), w);
          long = omega arith;
          edges_differ = (
            edge_avoided edges edge place.0 all way place.1 z,
            edges_differ (map ends edges) (ends edge).1 all (ends edge).0 (record { walk = w; differ = d }),
          );
          nodes_differ = d;
        };
      }

  -- P2: the reader's own write node wasn't reached
  pub shown_beside : (own : ℕ) (way : List Edge) (nodes : List ℕ)
      → IsWay edges (IsOther edge) (ends edge).1 (ends edge).0 way
      → AreReached edges (IsAway (ends edge).0) (ends edge).1 nodes → ¬ Contains nodes own
      → ShowsP2 edges edge (ends edge).0 (ends edge).1 own (advice_of edge P2 (edge ∷ way) nodes)
  shown_beside own way nodes w r apart_so =
      record { begins = refl; cycle = closed_by w.steps way w.along w.walk w.differ; reached = r; own_apart = apart_so }

  -- P3: it was, by a way that the reader's vertical edge closes
  pub shown_by_way : (vertical : Edge) (way closed : List Edge) → Contains edges vertical → edge ≢ vertical
      → (ends vertical).0 ≡ (ends edge).0
      → IsWay edges (IsAway (ends edge).0) (ends edge).1 (ends vertical).1 way → closed ≡ way ++ vertical ∷ []
      → ShowsP3 edges edge vertical (ends edge).0 (advice_of edge P3 (edge ∷ closed) [])
  shown_by_way vertical way closed upright other same w is =
      let read = (ends edge).0 in
      let m = place_in edges vertical upright in
      let final : Step = record { edge = m.0; to = read } in
      let differ : place.0 ≢ m.0 = λ e. other (same_Some edge vertical (sym place.1 ∙ ap (λ j. slice_get edges j) e ∙ m.1)) in
      let cycle : IsCycleFrom edges read (edge ∷ (way ++ vertical ∷ [])) =
      record {
        steps = (record { edge = place.0; to = (ends edge).1 }) ∷ (w.steps ++ final ∷ []);
        along = (place.1, along_push edges w.steps way final vertical (along_goes edges (IsAway read) w.steps way w.along) m.1);
        simple =
            cycle_at (map ends edges) read place.0 (ends edge).1 m.0 (ends vertical).1 w.steps differ
            (joins_at edges place.0 edge read (ends edge).1 place.1 (inl refl))
            (joins_at edges m.0 vertical (ends vertical).1 read m.1 (inr (ap (λ z. (z, (ends vertical).1)) same)))
            (record { walk = w.walk; differ = w.differ })
            (λ h. elim h [
              | inl p ↦ apart p
              | inr q ↦ node_avoided edges read (ends edge).1 w.steps (ends vertical).1 way w.walk w.along q
            ]);
      } in
      let at_end : EndsWith vertical (edge ∷ (way ++ vertical ∷ [])) =
      let e : length (edge ∷ (way ++ vertical ∷ [])) - 1 ≡ length (edge ∷ way) = omega (arith, length_push way vertical) in
      ap (λ j. slice_get (edge ∷ (way ++ vertical ∷ [])) j) e ∙ get_push_last (edge ∷ way) vertical in
      subst (λ z. ShowsP3 edges edge vertical read (advice_of edge P3 (edge ∷ z) [])) (sym is)
      (record { begins = refl; ends = at_end; cycle = cycle; none_apart = refl })

-- one edge more: the advices' edges are the diagonals so far
pub diagonals_more : (advised more : List Edge) (edges : List Edge) (count : ℕ) (d : Edge) → count < length edges
    → advised ≡ filter is_diagonal (take count edges) → more ≡ advised ++ filter is_diagonal (get_or edges count d ∷ [])
    → more ≡ filter is_diagonal (take (count + 1) edges)
diagonals_more advised more edges count d l e m =
    m
    ∙ ap (λ z. z ++ filter is_diagonal (get_or edges count d ∷ [])) e
    ∙ sym (filter_more is_diagonal edges count d l)

-- where all edges were taken, the advices are those of the catalogue
pub advised_all : (cat : Catalogue) (edges : List Edge) (count : ℕ) (advices : List Advice) → edges ≡ conflict_graph cat
    → length edges ≤ count → map (λ a. a.edge) advices ≡ filter is_diagonal (take count edges)
    → All (λ a. ShowsFor edges a a.edge) advices → AreAdvices cat advices
advised_all cat edges count advices is l e good = grind (arith, nat_tests, take_all)

-- what is known of a diagonal of a reader
diagonal_apart : (edge : Edge) (reader : ClassNo) → IsReadOf reader edge → NamesClasses edge
    → (ends edge).1 ≢ (ends edge).0
diagonal_apart edge reader r named e = grind (arith, nat_tests)

not_vertical : (edge : Edge) (reader : ClassNo) → IsReadOf reader edge → edge ≢ Vertical reader
not_vertical edge reader r e = grind (arith, nat_tests)

one_read_node : (edge : Edge) (reader : ClassNo) → IsReadOf reader edge → (ends (Vertical reader)).0 ≡ (ends edge).0
one_read_node edge reader r = grind (arith, nat_tests)

-- a way, by equal ends and edges
pub way_moved : (edges : List Edge) (Goes : Edge → Type 0) (a b c d : ℕ) (way same : List Edge) → IsWay edges Goes a b way
    → a ≡ c → b ≡ d → same ≡ way → IsWay edges Goes c d same
way_moved edges Goes a b c d way same w p q e = grind (arith, nat_tests)

module _ (edges : List Edge) (edge : Edge) (reader : ClassNo) (there : Contains edges edge) (r : IsReadOf reader edge) (named : All NamesClasses edges) where
  apart : (ends edge).1 ≢ (ends edge).0
  apart = diagonal_apart edge reader r (All-contains NamesClasses edges edge named there)

  -- the three advices are good
  pub good_off_cycles : (p : ℕ × ℕ) (places : List (Option ℕ)) (advice : Advice) → p ≡ ends edge
      → AreReached edges (IsOther edge) p.1 (placed_nodes places) → place_of places p.0 ≡ None
      → advice ≡ advice_of edge P1 [] (placed_nodes places) → ShowsFor edges advice edge
  good_off_cycles p places advice is reached none e =
      let nodes = placed_nodes places in
      subst (λ z. ShowsFor edges z edge) (sym e)
      (shown_of edges (advice_of edge P1 [] nodes) reader edge P1 r there refl
      (shown_off_cycles edges edge there apart places (subst (λ (z : ℕ × ℕ). AreReached edges (IsOther edge) z.1 nodes) is reached)
      (ap (λ (z : ℕ × ℕ). place_of places z.0) (sym is) ∙ none)))

  pub good_beside : (way : List Edge) (nodes : List ℕ) (advice : Advice)
      → IsWay edges (IsOther edge) (ends edge).1 (ends edge).0 way → LieApart edges reader (ends edge).1 nodes
      → advice ≡ advice_of edge P2 (edge ∷ way) nodes → ShowsFor edges advice edge
  good_beside way nodes advice w lie e =
      subst (λ z. ShowsFor edges z edge) (sym e)
      (shown_of edges (advice_of edge P2 (edge ∷ way) nodes) reader edge P2 r there refl
      (shown_beside edges edge there apart (ends (Vertical reader)).1 way nodes w
      (subst (λ z. AreReached edges (IsAway z) (ends edge).1 nodes) (one_read_node edge reader r) lie.reached)
      lie.own_apart))

  pub good_linked : (closed : List Edge) (advice : Advice) → Contains edges (Vertical reader)
      → IsClosed edges reader (ends edge).1 closed
      → advice ≡ advice_of edge P3 (edge ∷ closed) [] → ShowsFor edges advice edge
  good_linked closed advice upright k e =
      let leads : IsWay edges (IsAway (ends edge).0) (ends edge).1 (ends (Vertical reader)).1 k.way =
      subst (λ z. IsWay edges (IsAway z) (ends edge).1 (ends (Vertical reader)).1 k.way) (one_read_node edge reader r) k.leads in
      subst (λ z. ShowsFor edges z edge) (sym e)
      (shown_of edges (advice_of edge P3 (edge ∷ closed) []) reader edge P3 r there refl
      (shown_by_way edges edge there apart (Vertical reader) k.way closed upright (not_vertical edge reader r)
      (one_read_node edge reader r) leads k.ends))
