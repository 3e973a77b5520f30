-- A search goes on from one node, and is done.
use Rattle.sdd_advise.proofs.All.{All, All-contains, All-more, All-nil, All-weaker, AreReached, Bool, Came, CanReach, Contains, Edge, IsUnderWay, Joins, List, MatchOption-at_some, Neighbour, None, Option, Reached, Search, Some, [], along, ap, arith, cases_lt, get_or, get_or-set_same, get_or_append_left, here, inl, inr, is_some, length, length_push, neighbours, place_of, placed_nodes, reached_at, refl, set, subst, suc, sym, take, take_all, true, zero, ℕ, ◌++◌, ◌+◌, ◌<◌, ◌∙◌, ◌∷◌, ◌≡◌, ◌≤◌, ◌⊎◌}
use Rattle.sdd_advise.proofs.Ascending.{passing_ascend, contains_passing, contained_passes}
use Rattle.sdd_advise.proofs.Beside.{IsNeighbour, neighbour_there, all_neighbours}
use Rattle.sdd_advise.proofs.Found.{some_stays, node_reached, first_stays}

-- what has a place has one
has_place : (o : Option ℕ) → is_some o ≡ true → (k : ℕ) × (o ≡ Some k)
has_place o e = grind arith

place_or_none : (o : Option ℕ) → (is_some o ≡ true) ⊎ (o ≡ None)
place_or_none o = grind arith

-- where the edge passes, the neighbour was reached
abbrev IsMet : (Edge → Type 0) → List (Option ℕ) → Neighbour → Type 0
IsMet Goes places n = Goes n.edge → is_some (place_of places n.node) ≡ true

pushed : (reached : List Reached) (node : ℕ) (came : Came)
    → length (reached ++ record { node = node; came = Some came } ∷ []) ≡ length reached + 1
pushed reached node came = length_push reached (record { node = node; came = Some came })

kept_at : (reached : List Reached) (node : ℕ) (came : Came) (k : ℕ) → k < length reached
    → reached_at (reached ++ record { node = node; came = Some came } ∷ []) k ≡ reached_at reached k
kept_at reached node came k l = get_or_append_left reached (record { node = node; came = Some came } ∷ []) (record { node = 0; came = None }) k l

-- the search is going along the edges at a node, of which it has taken some
pub record IsGoing (edges : List Edge) (Goes : Edge → Type 0) (nodes place node first : ℕ) (list : List Neighbour) (count : ℕ) (search : Search) : Type 0 where
  pub under : IsUnderWay edges Goes nodes place search.places.items search.reached.items
  pub within : place < length search.reached.items
  pub at_node : (reached_at search.reached.items place).node ≡ node
  pub at_first : (reached_at search.reached.items 0).node ≡ first
  pub met : All (IsMet Goes search.places.items) (take count list)

module _ (edges : List Edge) (Goes : Edge → Type 0) (nodes place node first : ℕ) (list : List Neighbour) (is : list ≡ neighbours edges node) where
  pub none_taken : (search : Search) → IsUnderWay edges Goes nodes place search.places.items search.reached.items
      → place < length search.reached.items → (reached_at search.reached.items place).node ≡ node
      → (reached_at search.reached.items 0).node ≡ first → IsGoing edges Goes nodes place node first list 0 search
  none_taken search u l n f = record { under = u; within = l; at_node = n; at_first = f; met = All-nil (IsMet Goes search.places.items) }

  -- an edge that doesn't pass
  pub edge_left : (count : ℕ) (d : Neighbour) (search : Search)
      → IsGoing edges Goes nodes place node first list count search → count < length list
      → (¬ Goes (get_or list count d).edge) → IsGoing edges Goes nodes place node first list (count + 1) search
  edge_left count d search g l left =
      record {
        under = g.under;
        within = g.within;
        at_node = g.at_node;
        at_first = g.at_first;
        met = All-more (IsMet Goes search.places.items) list count d l g.met (λ p. absurd (left p));
      }

  known_neighbour : (count : ℕ) (d : Neighbour) → count < length list → IsNeighbour edges node (get_or list count d)
  known_neighbour count d l = subst (λ z. All (IsNeighbour edges node) z) (sym is) (all_neighbours edges node) count d l

  -- an edge that passes
  pub edge_taken : (count : ℕ) (d : Neighbour) (came : Came) (old new : Search)
      → IsGoing edges Goes nodes place node first list count old → count < length list → All (λ n. n.node < nodes) list
      → came.edge ≡ (get_or list count d).edge → came.from ≡ place → Goes (get_or list count d).edge
      → (is_some (place_of old.places.items (get_or list count d).node) ≡ true → new ≡ old)
      → (place_of old.places.items (get_or list count d).node ≡ None → new.places.items ≡ set old.places.items (get_or list count d).node (Some (length old.reached.items)))
      → (place_of old.places.items (get_or list count d).node ≡ None → new.reached.items ≡ old.reached.items ++ record { node = (get_or list count d).node; came = Some came } ∷ [])
      → IsGoing edges Goes nodes place node first list (count + 1) new
  edge_taken count d came old new g l within by from goes known places reached =
      let n = get_or list count d in
      elim (place_or_none (place_of old.places.items n.node)) [
        | inl has ↦
            subst (λ z. IsGoing edges Goes nodes place node first list (count + 1) z) (sym (known has))
            (record {
              under = g.under;
              within = g.within;
              at_node = g.at_node;
              at_first = g.at_first;
              met = All-more (IsMet Goes old.places.items) list count d l g.met (λ p. has);
            })
        | inr none ↦
            let neighbour = known_neighbour count d l in
            let before : came.from < length old.reached.items = let w = g.within in omega arith in
            let below : n.node < nodes = within count d l in
            let is_edge : Contains edges came.edge = subst (λ z. Contains edges z) (sym by) neighbour.is_edge in
            let passes : Goes came.edge = subst Goes (sym by) goes in
            let joins : Joins came.edge (reached_at old.reached.items came.from).node n.node =
            subst (λ z. Joins came.edge (reached_at old.reached.items z).node n.node) (sym from)
            (subst (λ z. Joins came.edge z n.node) (sym g.at_node) (subst (λ z. Joins z node n.node) (sym by) neighbour.joins)) in
            let made = node_reached edges Goes nodes place old.places.items old.reached.items g.under n.node came below none before is_edge passes joins in
            let kept = first_stays edges Goes nodes place old.places.items old.reached.items g.under n.node came below none before is_edge passes joins in
            let new_reached = reached none in
            let room : n.node < length old.places.items = omega (arith, g.under.one_each) in
            let stays : (a : ℕ) → is_some (place_of old.places.items a) ≡ true → is_some (place_of new.places.items a) ≡ true =
            λ a h. ap (λ z. is_some (place_of z a)) (places none) ∙ some_stays old.places.items n.node (length old.reached.items) a room h in
            let here : is_some (place_of new.places.items n.node) ≡ true =
            ap (λ z. is_some (place_of z n.node)) (places none) ∙ ap is_some (get_or-set_same old.places.items n.node (Some (length old.reached.items)) None room) in
            record {
              under =
                  grind arith;
              within = let w = g.within in omega (arith, ap length new_reached, pushed old.reached.items n.node came);
              at_node = ap (λ z. (reached_at z place).node) new_reached ∙ ap (λ (z : Reached). z.node)
                  (kept_at old.reached.items n.node came place g.within) ∙ g.at_node;
              at_first = ap (λ z. (reached_at z 0).node) new_reached ∙ kept ∙ g.at_first;
              met =
                  All-more (IsMet Goes new.places.items) list count d l
                  (All-weaker (IsMet Goes old.places.items) (IsMet Goes new.places.items) (λ m h p. stays m.node (h p)) (take count list) g.met)
                  (λ p. here);
            }
      ]

  -- all edges were taken
  pub all_taken : (count : ℕ) (search : Search) → IsGoing edges Goes nodes place node first list count search
      → length list ≤ count → IsUnderWay edges Goes nodes (place + 1) search.places.items search.reached.items
  all_taken count search g l =
      let u = g.under in
      let met : All (IsMet Goes search.places.items) list = subst (λ z. All (IsMet Goes search.places.items) z) (take_all count list l) g.met in
      record {
        few = u.few;
        one_each = u.one_each;
        room = u.room;
        up_to = let w = g.within in omega arith;
        begun = u.begun;
        traced = u.traced;
        there = u.there;
        ways = u.ways;
        gone = λ k other edge m is_edge goes joins.
            elim (cases_lt k place) [
              | inl before ↦ u.gone k other edge before is_edge goes joins
              | inr after ↦
                  let from_here : Joins edge node other = subst (λ z. Joins edge z other)
                  (ap (λ z. (reached_at search.reached.items z).node) (omega arith) ∙ g.at_node) joins in
                  All-contains (IsMet Goes search.places.items) list (record { edge = edge; node = other }) met
                  (subst (λ z. Contains z (record { edge = edge; node = other })) (sym is) (neighbour_there edges node other edge is_edge from_here)) goes
            ];
      }

module _ (edges : List Edge) (Goes : Edge → Type 0) (nodes place : ℕ) (places : List (Option ℕ)) (reached : List Reached)
    (u : IsUnderWay edges Goes nodes place places reached) where
  -- what was reached can be reached
  reached_so : (n k : ℕ) → k < n → k < length reached
      → CanReach edges Goes (reached_at reached 0).node (reached_at reached k).node
  reached_so zero k l m = absurd (omega arith)
  reached_so (suc n) k l m =
      elim ((reached_at reached k).came) as
      (λ o. (reached_at reached k).came ≡ o → CanReach edges Goes (reached_at reached 0).node (reached_at reached k).node) [
        | None ↦ grind (arith, reached_at, here)
        | Some came ↦ λ e.
            let before : came.from < k = MatchOption-at_some (k ≡ 0) (λ (c : Came). c.from < k) came e (u.traced.earlier k m) in
            let leads = u.ways k came m e in
            along came.edge (reached_so n came.from (omega arith) (omega arith)) leads.is_edge leads.goes leads.joins
      ] refl

  -- a node with a place can be reached
  pub placed_so : (node k : ℕ) → place_of places node ≡ Some k → CanReach edges Goes (reached_at reached 0).node node
  placed_so node k e =
      let p = u.traced.placed node k e in
      subst (λ z. CanReach edges Goes (reached_at reached 0).node z) p.1 (reached_so (suc k) k (omega arith) p.0)

  module _ (done : length reached ≤ place) where
    -- what can be reached has a place
    pub has_place_so : (node : ℕ) → CanReach edges Goes (reached_at reached 0).node node
        → is_some (place_of places node) ≡ true
    has_place_so node here = ap is_some (u.there 0 (omega (arith, u.begun))).1
    has_place_so node (along {a = a} edge r is_edge goes joins) =
        let k = has_place (place_of places a) (has_place_so a r) in
        let p = u.traced.placed a k.0 k.1 in
        u.gone k.0 node edge (omega (arith, p.0)) is_edge goes (subst (λ z. Joins edge z node) (sym p.1) joins)

    pub are_reached : AreReached edges Goes (reached_at reached 0).node (placed_nodes places)
    are_reached =
        let has : ℕ → Bool = λ node. is_some (place_of places node) in
        record {
          ascending = passing_ascend has (length places);
          whole = λ node. (
            (λ m. let k = has_place (place_of places node) (contained_passes has (length places) node m) in placed_so node k.0 k.1),
            λ r.
                let h = has_place_so node r in
                let k = has_place (place_of places node) h in
                let p = u.traced.placed node k.0 k.1 in
                contains_passing has (length places) node h (omega (arith, u.one_each, p.1, (u.there k.0 p.0).0)),
          );
        }
