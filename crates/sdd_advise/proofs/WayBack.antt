-- The way by which a search came to a node, from its end.
use Rattle.sdd_advise.proofs.All.{AllZip, Came, Edge, GoesAlong, Has, IsUnderWay, IsWay, List, MatchOption-at_some, None, Option, Reached, Some, Step, [], ap, arith, inl, inr, length, nodes_of, place_of, reached_at, reverse, reverse-append, same_Some, subst, sym, ℕ, ◌++◌, ◌<◌, ◌∙◌, ◌∷◌, ◌≡◌}
use Rattle.sdd_advise.proofs.Edges.{joins_at}
use Rattle.sdd_advise.proofs.Members.{place_in}

-- the way so far, turned round, leads from the node at a place to the last; its other nodes have later places
pub record IsWayBack (edges : List Edge) (Goes : Edge → Type 0) (places : List (Option ℕ)) (reached : List Reached) (last at : ℕ) (way : List Edge) : Type 0 where
  pub back : IsWay edges Goes (reached_at reached at).node last (reverse way)
  pub later : (a : ℕ) → Has (nodes_of back.steps) a → (k : ℕ) × (at < k) × (place_of places a ≡ Some k)

module _ (edges : List Edge) (Goes : Edge → Type 0) (nodes place : ℕ) (places : List (Option ℕ)) (reached : List Reached)
    (u : IsUnderWay edges Goes nodes place places reached) (last : ℕ) where
  -- at the last node
  pub at_last : (at : ℕ) → at < length reached → (reached_at reached at).node ≡ last
      → IsWayBack edges Goes places reached last at []
  at_last at l e =
      record { back = record { steps = []; along = tt; walk = e; differ = ((λ h. h), tt) }; later = λ a h. absurd h }

  -- one edge back
  pub one_back : (at : ℕ) (came : Came) (way longer : List Edge) → at < length reached
      → (reached_at reached at).came ≡ Some came → IsWayBack edges Goes places reached last at way
      → longer ≡ way ++ came.edge ∷ [] → IsWayBack edges Goes places reached last came.from longer
  one_back at came way longer l e w is =
      let before : came.from < at = MatchOption-at_some (at ≡ 0) (λ (c : Came). c.from < at) came e (u.traced.earlier at l) in
      let leads = u.ways at came l e in
      let k = place_in edges came.edge leads.is_edge in
      let steps : List Step = record { edge = k.0; to = (reached_at reached at).node } ∷ w.back.steps in
      let turned : reverse longer ≡ came.edge ∷ reverse way = ap reverse is ∙ reverse-append way (came.edge ∷ []) in
      let later : (a : ℕ) → Has (nodes_of steps) a → (m : ℕ) × (came.from < m) × (place_of places a ≡ Some m) =
      λ a h. elim h [
        | inl p ↦ (at, before, ap (λ z. place_of places z) (sym p) ∙ (u.there at l).1)
        | inr q ↦ let r = w.later a q in (r.0, let m = r.1 in omega (arith, u.there came.from (omega arith)), r.2)
      ] in
      let way_is : IsWay edges Goes (reached_at reached came.from).node last (reverse longer) =
      record {
        steps = steps;
        along = subst (λ z. AllZip (λ step edge. GoesAlong edges step edge × Goes edge) steps z) (sym turned) ((k.1, leads.goes), w.back.along);
        walk = (joins_at edges k.0 came.edge (reached_at reached came.from).node (reached_at reached at).node k.1 leads.joins, w.back.walk);
        differ = grind (arith, reached_at, same_Some);
      } in
      record { back = way_is; later = later }

  -- at the first
  pub all_back : (at : ℕ) (way turned : List Edge) → at < length reached → (reached_at reached at).came ≡ None
      → IsWayBack edges Goes places reached last at way → turned ≡ reverse way
      → IsWay edges Goes (reached_at reached 0).node last turned
  all_back at way turned l e w is = grind arith
